-- The relocations of a section lie in its bytes, and its paddings are apart from all others.

use Rattle.std.proofs.Common.{◌≡◌, ℕ, zero, suc, ◌+◌, ◌%◌, ◌≤◌, Bool, true, false, ◌&&◌, ◌||◌, ◌==◌, nat_le, List, [], ◌∷◌, ◌++◌, length, refl, sym, ap, ◌∙◌, subst, arith, map, max, length-append, inl, inr, Some}
use Rattle.std.proofs.Math.Nat.{le-max_right}
use Rattle.std.proofs.lemmas.Bool.{and_parts, eq-eqb, le-leb}
use Rattle.std.proofs.lemmas.List.Folds.{list_all-append}
use Rattle.std.specs.Prelude.{not, if◌then◌else◌, flat_map, unwrap_or}
use Rattle.std.specs.List.{AllByRecursion, list_all}
use Rattle.rv_list_laws.proofs.ElementsLemmas.{append_none_parts}
use Rattle.rv_list_laws.proofs.EachLemmas.{each_append}
use Rattle.rv_isa.specs.Kinds.{width_of}
use Rattle.rv_expression_laws.specs.Values.{Value}
use Rattle.rv_statement_laws.specs.Statement.{StatementKind, Label, Numbered, Instruction, Directs, Expression, Values, Strings, Zeros}
use Rattle.rv_unit_laws.specs.Contributions.{Contribution, Nothing, Bytes, Alignment, contribution}
use Rattle.rv_unit_laws.specs.Sections.{Section, is_nobits}
use Rattle.rv_unit_laws.specs.Tables.{Tables}
use Rattle.rv_object_laws.specs.Object.{Contents, Relocation, size_of}
use Rattle.rv_object_laws.specs.Valid.{is_align, is_padding, is_padding_of, padding_of, held, are_apart, are_all_apart, are_paddings}
use Rattle.rv_assemble_laws.specs.Templates.{Open, template_fields, padding_templates, contribution_templates}
use Rattle.rv_assemble_laws.specs.LaidStatements.{LaidStatement, LaidPart, expression_value, templates, laid_part, part_bytes, parts_of, parts, Tile}
use Rattle.rv_assemble_laws.specs.IsObjectOf.{Numbering, relocation_at, relocations_from}
use Rattle.rv_assemble_laws.proofs.FilledLemmas.{bytes_append}
use Rattle.rv_source_laws.proofs.HeldLemmas.{ContributionHeld, IsHeld}
use Rattle.rv_assemble.proofs.SettledLemmas.{IsIn}
use Rattle.rv_assemble.proofs.RoomLemmas.{IsRoom}
use Rattle.rv_assemble.proofs.CodeFitsLemmas.{FitsIn, Holds}
use Rattle.rv_assemble.proofs.EvenCodeLemmas.{IsEvenPart}

-- ---- sections without bytes in the file

abbrev HasNoField : LaidPart → Type 0
HasNoField p = template_fields p.ordinal p.template ≡ []

padding_bare : (executable : Bool) (ordinal bytes : ℕ) → (executable ≡ true → bytes ≡ 0) → AllByRecursion HasNoField (map (laid_part ordinal) (padding_templates executable ordinal bytes))
padding_bare true ordinal zero none = tt
padding_bare true ordinal (suc n) none = absurd (let e = none refl in cc)
padding_bare false ordinal bytes none = (refl, tt)

contribution_bare : (home : Section) (executable : Bool) (v : Expression → Value) (ordinal bytes : ℕ) (c : Contribution) → is_nobits home ≡ true → ContributionHeld home c → (executable ≡ true → bytes ≡ 0)
    → AllByRecursion HasNoField (map (laid_part ordinal) (contribution_templates executable ordinal v c bytes))
contribution_bare home executable v ordinal bytes Nothing e h none = tt
contribution_bare home executable v ordinal bytes (Bytes (Values width values)) e h none = absurd (let f : is_nobits home ≡ false = h.1 in cc)
contribution_bare home executable v ordinal bytes (Bytes (Strings ended strings)) e h none = absurd (let f : is_nobits home ≡ false = h.1 in cc)
contribution_bare home executable v ordinal bytes (Bytes (Zeros count)) e h none = (refl, tt)
contribution_bare home executable v ordinal bytes (Alignment f number) e h none = padding_bare executable ordinal bytes none

statement_bare : (home : Section) (t : Tables) (s : LaidStatement) (kind : StatementKind) → is_nobits home ≡ true → IsHeld home kind → (s.located.home.executable ≡ true → s.bytes ≡ 0)
    → AllByRecursion HasNoField (map (laid_part s.located.ordinal) (templates t s kind))
statement_bare home t s (Label name) e h none = tt
statement_bare home t s (Numbered number) e h none = tt
statement_bare home t s (Instruction mnemonic operands) e h none = absurd (let f : is_nobits home ≡ false = h.1 in cc)
statement_bare home t s (Directs d) e h none = contribution_bare home s.located.home.executable (expression_value t s.located) s.located.ordinal s.bytes (contribution d) e h none

-- in a section of code without bytes no statement has any
parts_bare : (t : Tables) (home : Section) (offset : ℕ) (laid : List LaidStatement) → is_nobits home ≡ true → AllByRecursion (IsIn home) laid → Tile t offset laid
    → (home.executable ≡ true → flat_map part_bytes (parts t laid) ≡ []) → AllByRecursion HasNoField (parts t laid)
parts_bare t home offset [] e h tile none = tt
parts_bare t home offset (s ∷ ss) e (h, hs) (at, bytes, tile) none =
    let both : home.executable ≡ true → (flat_map part_bytes (parts_of t s) ≡ []) × (flat_map part_bytes (parts t ss) ≡ []) =
    λ code. append_none_parts (flat_map part_bytes (parts_of t s)) (flat_map part_bytes (parts t ss)) (sym (bytes_append (parts_of t s) (parts t ss)) ∙ none code) in
    each_append HasNoField (parts_of t s) (parts t ss)
    (statement_bare home t s s.located.kind e h.held (λ code. bytes ∙ ap length (both (sym (ap (λ (x : Section). x.executable) h.same) ∙ code)).0))
    (parts_bare t home (offset + s.bytes) ss e hs tile (λ code. (both code).1))

no_relocations : (number : Numbering) (offset : ℕ) (ps : List LaidPart) → AllByRecursion HasNoField ps → relocations_from number offset ps ≡ []
no_relocations number offset [] h = refl
no_relocations number offset (p ∷ ps) (h, hs) =
    ap (λ l. map (relocation_at number offset) l ++ relocations_from number (offset + length (part_bytes p)) ps) h ∙ no_relocations number (offset + length (part_bytes p)) ps hs

pub none_in_nobits : (t : Tables) (home : Section) (number : Numbering) (laid : List LaidStatement) → is_nobits home ≡ true → AllByRecursion (IsIn home) laid → Tile t 0 laid
    → (home.executable ≡ true → flat_map part_bytes (parts t laid) ≡ []) → relocations_from number 0 (parts t laid) ≡ []
none_in_nobits t home number laid e h tile none = no_relocations number 0 (parts t laid) (parts_bare t home 0 laid e h tile none)

-- ---- fields within bytes

abbrev Fits : ℕ → Relocation → Bool
Fits total r = nat_le (r.place + width_of r.kind) total

opens_within : (number : Numbering) (place total n : ℕ) (fs : List Open) → place + n ≤ total → AllByRecursion (FitsIn n) fs → list_all (Fits total) (map (relocation_at number place) fs) ≡ true
opens_within number place total n [] l h = refl
opens_within number place total n (f ∷ fs) l (h, hs) =
    let own = h.0 in
    ap (λ b. b && list_all (Fits total) (map (relocation_at number place) fs)) (le-leb (place + width_of f.kind) total (omega (arith, own, l))) ∙ opens_within number place total n fs l hs

part_within : (number : Numbering) (place total : ℕ) (p : LaidPart) → place + length (part_bytes p) ≤ total → Holds p → list_all (Fits total) (map (relocation_at number place) (template_fields p.ordinal p.template)) ≡ true
part_within number place total p l (inl h) = opens_within number place total (length (part_bytes p)) (template_fields p.ordinal p.template) l h
part_within number place total p l (inr h) =
    ap (λ fs. list_all (Fits total) (map (relocation_at number place) fs)) h.field ∙ ap (λ b. b && true) (le-leb (place + 0) total (omega (arith, l)))

pub parts_within : (number : Numbering) (offset total : ℕ) (ps : List LaidPart) → AllByRecursion Holds ps → offset + length (flat_map part_bytes ps) ≤ total
    → list_all (Fits total) (relocations_from number offset ps) ≡ true
parts_within number offset total [] h l = refl
parts_within number offset total (p ∷ ps) (h, hs) l =
    let e = length-append (part_bytes p) (flat_map part_bytes ps) in
    list_all-append (Fits total) (map (relocation_at number offset) (template_fields p.ordinal p.template)) (relocations_from number (offset + length (part_bytes p)) ps)
    ∙ ap (λ b. b && list_all (Fits total) (relocations_from number (offset + length (part_bytes p)) ps))
    (part_within number offset total p (omega (arith, e, l)) h)
    ∙ parts_within number (offset + length (part_bytes p)) total ps hs (omega (arith, e, l))

-- ---- paddings within code

opens_plain : (executable : Bool) (c : Contents) (number : Numbering) (place n : ℕ) (fs : List Open) → AllByRecursion (FitsIn n) fs → list_all (is_padding executable c) (map (relocation_at number place) fs) ≡ true
opens_plain executable c number place n [] h = refl
opens_plain executable c number place n (f ∷ fs) (h, hs) =
    let r = relocation_at number place f in
    ap (λ b. (not b || is_padding_of executable c r.place (padding_of r.addend)) && list_all (is_padding executable c) (map (relocation_at number place) fs)) h.1
    ∙ opens_plain executable c number place n fs hs

-- a padding of code begins at an even offset and ends in the section
abbrev Lies : Bool → Contents → ℕ → ℕ → Type 0
Lies executable c place bytes = executable ≡ true → (place % 2 ≡ 0) × (place + bytes ≤ size_of c)

room_lies : (executable : Bool) (c : Contents) (place n : ℕ) → IsRoom n → Lies executable c place n → is_padding_of executable c place (Some n) ≡ true
room_lies executable c place n room lies =
    ap (λ b. b && nat_le n 4094 && (not executable || (place % 2 == 0) && nat_le (place + n) (size_of c))) (eq-eqb (n % 2) 0 room.0)
    ∙ ap (λ b. b && (not executable || (place % 2 == 0) && nat_le (place + n) (size_of c))) (le-leb n 4094 room.1)
    ∙ go executable lies
  where
    go : (b : Bool) → (b ≡ true → (place % 2 ≡ 0) × (place + n ≤ size_of c)) → (not b || (place % 2 == 0) && nat_le (place + n) (size_of c)) ≡ true
    go false h = refl
    go true h = ap (λ b. b && nat_le (place + n) (size_of c)) (eq-eqb (place % 2) 0 (h refl).0) ∙ le-leb (place + n) (size_of c) (h refl).1

part_lies : (executable : Bool) (c : Contents) (number : Numbering) (place : ℕ) (p : LaidPart) → Lies executable c place (length (part_bytes p)) → Holds p
    → list_all (is_padding executable c) (map (relocation_at number place) (template_fields p.ordinal p.template)) ≡ true
part_lies executable c number place p lies (inl h) = opens_plain executable c number place (length (part_bytes p)) (template_fields p.ordinal p.template) h
part_lies executable c number place p lies (inr h) =
    ap (λ fs. list_all (is_padding executable c) (map (relocation_at number place) fs)) h.field
    ∙ ap (λ b. b && true) (room_lies executable c place h.bytes h.room (subst (λ n. Lies executable c place n) h.long lies))

parts_lie : (executable : Bool) (c : Contents) (number : Numbering) (offset : ℕ) (ps : List LaidPart) → AllByRecursion Holds ps → (executable ≡ true → AllByRecursion IsEvenPart ps) → Lies executable c offset (length (flat_map part_bytes ps))
    → list_all (is_padding executable c) (relocations_from number offset ps) ≡ true
parts_lie executable c number offset [] h even lies = refl
parts_lie executable c number offset (p ∷ ps) (h, hs) even lies =
    let e = length-append (part_bytes p) (flat_map part_bytes ps) in
    let own : Lies executable c offset (length (part_bytes p)) = λ code. let l = (lies code).1 in ((lies code).0, omega (arith, e, l)) in
    let rest : Lies executable c (offset + length (part_bytes p)) (length (flat_map part_bytes ps)) =
    λ code. let l = (lies code).1 in let m = (lies code).0 in let n = (even code).0 in (omega (arith, m, n), omega (arith, e, l)) in
    list_all-append (is_padding executable c) (map (relocation_at number offset) (template_fields p.ordinal p.template)) (relocations_from number (offset + length (part_bytes p)) ps)
    ∙ ap (λ b. b && list_all (is_padding executable c) (relocations_from number (offset + length (part_bytes p)) ps)) (part_lies executable c number offset p own h)
    ∙ parts_lie executable c number (offset + length (part_bytes p)) ps hs (λ code. (even code).1) rest

-- ---- paddings apart from all others

abbrev IsPlain : Relocation → Type 0
IsPlain r = is_align r.kind ≡ false

abbrev Before : ℕ → Relocation → Type 0
Before n r = r.place + held r ≤ n

abbrev Behind : ℕ → Relocation → Type 0
Behind n r = n ≤ r.place

opens_are_plain : (number : Numbering) (place n : ℕ) (fs : List Open) → AllByRecursion (FitsIn n) fs → AllByRecursion IsPlain (map (relocation_at number place) fs)
opens_are_plain number place n [] h = tt
opens_are_plain number place n (f ∷ fs) (h, hs) = (h.1, opens_are_plain number place n fs hs)

apart_two : (r q : Relocation) → IsPlain r → IsPlain q → are_apart r q ≡ true
apart_two r q h k =
    let later = max r.place q.place in
    ap (λ b. not (b || is_align q.kind) || nat_le (r.place + held r) later || nat_le (q.place + held q) later) h
    ∙ ap (λ b. not b || nat_le (r.place + held r) later || nat_le (q.place + held q) later) k

apart_one : (r : Relocation) (rs : List Relocation) → IsPlain r → AllByRecursion IsPlain rs → list_all (are_apart r) rs ≡ true
apart_one r [] h hs = refl
apart_one r (q ∷ rs) h (k, ks) = ap (λ b. b && list_all (are_apart r) rs) (apart_two r q h k) ∙ apart_one r rs h ks

apart_all : (rs : List Relocation) → AllByRecursion IsPlain rs → are_all_apart rs ≡ true
apart_all [] h = refl
apart_all (r ∷ rs) (h, hs) = ap (λ b. b && are_all_apart rs) (apart_one r rs h hs) ∙ apart_all rs hs

-- one that ends before the other begins
apart_next : (n : ℕ) (r q : Relocation) → Before n r → Behind n q → are_apart r q ≡ true
apart_next n r q h k =
    let later = max r.place q.place in
    let most = le-max_right r.place q.place in
    go (not (is_align r.kind || is_align q.kind)) (nat_le (r.place + held r) later) (nat_le (q.place + held q) later) (le-leb (r.place + held r) later (omega (arith, h, k, most)))
  where
    go : (a b c : Bool) → b ≡ true → (a || b || c) ≡ true
    go true b c e = refl
    go false true c e = refl
    go false false c e = absurd (cc)

apart_rest : (n : ℕ) (r : Relocation) (qs : List Relocation) → Before n r → AllByRecursion (Behind n) qs → list_all (are_apart r) qs ≡ true
apart_rest n r [] h k = refl
apart_rest n r (q ∷ qs) h (k, ks) = ap (λ b. b && list_all (are_apart r) qs) (apart_next n r q h k) ∙ apart_rest n r qs h ks

apart_both : (n : ℕ) (rs qs : List Relocation) → AllByRecursion (Before n) rs → AllByRecursion (Behind n) qs → are_all_apart rs ≡ true → are_all_apart qs ≡ true → are_all_apart (rs ++ qs) ≡ true
apart_both n [] qs h k a b = b
apart_both n (r ∷ rs) qs (h, hs) k a b =
    let both = and_parts (list_all (are_apart r) rs) (are_all_apart rs) a in
    let first : list_all (are_apart r) (rs ++ qs) ≡ true =
    list_all-append (are_apart r) rs qs ∙ ap (λ c. c && list_all (are_apart r) qs) both.0 ∙ apart_rest n r qs h k in
    ap (λ c. c && are_all_apart (rs ++ qs)) first ∙ apart_both n rs qs hs k both.1 b

plain_held : (r : Relocation) → IsPlain r → held r ≡ width_of r.kind
plain_held r h = ap (λ b. if b then unwrap_or (padding_of r.addend) 0 else width_of r.kind) h

opens_before : (number : Numbering) (place n : ℕ) (fs : List Open) → AllByRecursion (FitsIn n) fs → AllByRecursion (Before (place + n)) (map (relocation_at number place) fs)
opens_before number place n [] h = tt
opens_before number place n (f ∷ fs) (h, hs) =
    let r = relocation_at number place f in
    let own = h.0 in
    let bytes : held r ≡ width_of f.kind = plain_held r h.1 in
    (omega (arith, own, bytes), opens_before number place n fs hs)

opens_behind : (number : Numbering) (place n : ℕ) (fs : List Open) → n ≤ place → AllByRecursion (Behind n) (map (relocation_at number place) fs)
opens_behind number place n [] l = tt
opens_behind number place n (f ∷ fs) l = (l, opens_behind number place n fs l)

part_before : (number : Numbering) (place : ℕ) (p : LaidPart) → Holds p → AllByRecursion (Before (place + length (part_bytes p))) (map (relocation_at number place) (template_fields p.ordinal p.template))
part_before number place p (inl h) = opens_before number place (length (part_bytes p)) (template_fields p.ordinal p.template) h
part_before number place p (inr h) =
    let l = h.long in
    let first : place + h.bytes ≤ place + length (part_bytes p) = omega (arith, l) in
    subst (λ fs. AllByRecursion (Before (place + length (part_bytes p))) (map (relocation_at number place) fs)) (sym h.field) (first, tt)

part_apart : (number : Numbering) (place : ℕ) (p : LaidPart) → Holds p → are_all_apart (map (relocation_at number place) (template_fields p.ordinal p.template)) ≡ true
part_apart number place p (inl h) =
    apart_all (map (relocation_at number place) (template_fields p.ordinal p.template)) (opens_are_plain number place (length (part_bytes p)) (template_fields p.ordinal p.template) h)
part_apart number place p (inr h) = ap (λ fs. are_all_apart (map (relocation_at number place) fs)) h.field

parts_behind : (number : Numbering) (n offset : ℕ) (ps : List LaidPart) → n ≤ offset → AllByRecursion (Behind n) (relocations_from number offset ps)
parts_behind number n offset [] l = tt
parts_behind number n offset (p ∷ ps) l =
    each_append (Behind n) (map (relocation_at number offset) (template_fields p.ordinal p.template)) (relocations_from number (offset + length (part_bytes p)) ps)
    (opens_behind number offset n (template_fields p.ordinal p.template) l) (parts_behind number n (offset + length (part_bytes p)) ps (omega (arith, l)))

parts_apart : (number : Numbering) (offset : ℕ) (ps : List LaidPart) → AllByRecursion Holds ps → are_all_apart (relocations_from number offset ps) ≡ true
parts_apart number offset [] h = refl
parts_apart number offset (p ∷ ps) (h, hs) =
    apart_both (offset + length (part_bytes p)) (map (relocation_at number offset) (template_fields p.ordinal p.template)) (relocations_from number (offset + length (part_bytes p)) ps)
    (part_before number offset p h) (parts_behind number (offset + length (part_bytes p)) (offset + length (part_bytes p)) ps (omega arith))
    (part_apart number offset p h) (parts_apart number (offset + length (part_bytes p)) ps hs)

-- ---- all of it

pub paddings_lie : (number : Numbering) (executable : Bool) (c : Contents) (loaded : Bool) (ps : List LaidPart) → AllByRecursion Holds ps → (executable ≡ true → AllByRecursion IsEvenPart ps) → length (flat_map part_bytes ps) ≤ size_of c
    → are_paddings executable c (if loaded then relocations_from number 0 ps else []) ≡ true
paddings_lie number executable c false ps h even l = none executable
  where
    none : (b : Bool) → (not b || true) ≡ true
    none true = refl
    none false = refl
paddings_lie number executable c true ps h even l =
    ap (λ b. b && (not executable || are_all_apart (relocations_from number 0 ps))) (parts_lie executable c number 0 ps h even (λ code. (refl, omega (arith, l))))
    ∙ ap (λ b. not executable || b) (parts_apart number 0 ps h) ∙ any executable
  where
    any : (b : Bool) → (not b || true) ≡ true
    any true = refl
    any false = refl

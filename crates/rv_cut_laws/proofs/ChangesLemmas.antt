-- The changes of a section of text, as sites: which are calls, where they stand, and what is kept of them.

use Rattle.std.proofs.Common.{◌≡◌, ℕ, ◌+◌, ◌-◌, ◌%◌, ◌<◌, ◌≤◌, ◌⊎◌, inl, inr, Bool, true, false, not, cond, ◌&&◌, ◌||◌, nat_le, nat_lt, List, [], ◌∷◌, ◌++◌, length, map, refl, sym, ap, subst, ◌∙◌, arith}
use Rattle.std.specs.Prelude.{◌==◌, filter, count_by, ⊤}
use Rattle.std.specs.List.{list_all}
use Rattle.std.proofs.lemmas.Bool.{leb-true, ltb-true, eqb-true, eq-eqb, ne_eqb, le-leb, and_parts, and_from, or_cases}
use Rattle.rv_list_laws.proofs.TruthLemmas.{and_four_first}
use Rattle.rv_size_laws.specs.Sites.{padding_site, size_at}
use Rattle.rv_isa.specs.Kinds.{width_of}
use Rattle.rv_isa_laws.specs.Bytes.{little_endian}
use Rattle.rv_size_laws.specs.declared.site.Site.{Site}
use Rattle.rv_size_laws.specs.Calls.{InOrder, bytes_of, is_call as is_call_site}
use Rattle.rv_object_laws.specs.Object.{Contents, Progbits, Note, Nobits, Relocation, Section, Object, size_of, stored}
use Rattle.rv_object_laws.specs.Valid.{fits_inside, fit_inside, is_align, padding_of, is_padding_of, is_padding, are_all_apart, are_paddings}
use Rattle.rv_object_laws.proofs.ObjectLemmas.{padding_inside as padding_within}
use Rattle.rv_link_laws.specs.Moves.{Move, full_padding, has_padding, alignment_of}
use Rattle.rv_link_laws.specs.Inputs.{InputSection, goes_to_text}
use Rattle.rv_link_laws.specs.CallSites.{is_call, meets, has_relax, are_call_words, is_auipc, is_jalr, rs1, rd, word_at, is_text_place, target_place, is_entered, is_permitted, may_change, call_site, site_of, link_register}
use Rattle.rv_link_laws.specs.Shortened.{Sizes, empty_jump, empty_jal, short_call, is_shortened, cut}
use Rattle.rv_link_laws.specs.Lists.{In}
use Rattle.rv_cut_laws.specs.Cutting.{is_cut, are_cuts}
use Rattle.rv_cut_laws.specs.Walk.{moves_of}
use Rattle.rv_cut_laws.proofs.CallKindsLemmas.{call_width, call_no_align}
use Rattle.rv_cut_laws.proofs.FieldsLemmas.{all_in}
use Rattle.rv_cut_laws.proofs.ListsLemmas.{Rising}

-- ---- permitted calls

six : (a b c d e f : Bool) → (a && b && c && d && e && f) ≡ true → (a ≡ true) × (c ≡ true) × (f ≡ true)
six true true true true true true h = (refl, refl, refl)
six true true true true true false h = absurd (cc)
six true true true true false f h = absurd (cc)
six true true true false e f h = absurd (cc)
six true true false d e f h = absurd (cc)
six true false c d e f h = absurd (cc)
six false b c d e f h = absurd (cc)

pub record IsPermitted (i : InputSection) (r : Relocation) : Type 0 where
  pub call : is_call r.kind ≡ true
  pub even : r.place % 2 ≡ 0
  pub alone : count_by (meets r.place) i.section.relocations ≡ 1

pub permitted : (os : List Object) (i : InputSection) (r : Relocation) → is_permitted os i r ≡ true → IsPermitted i r
permitted os i r h =
    let all = six (is_call r.kind) (has_relax r.place i.section.relocations) (are_call_words (stored i.section.contents) r.place) (is_text_place os (target_place os i r)) (not (is_entered i.object i.index r.place)) (count_by (meets r.place) i.section.relocations == 1) h in
    let bytes = stored i.section.contents in
    record {
      call = all.0;
      even = eqb-true (r.place % 2) 0 (and_four_first (r.place % 2 == 0) (is_auipc (word_at bytes r.place)) (is_jalr (word_at bytes (r.place + 4))) (rs1 (word_at bytes (r.place + 4)) == rd (word_at bytes r.place)) all.1);
      alone = eqb-true (count_by (meets r.place) i.section.relocations) 1 all.2;
    }

-- what is no padding among the changes is such a call
pub change_permitted : (os : List Object) (i : InputSection) (r : Relocation) → may_change os i r ≡ true → has_padding r ≡ false → is_permitted os i r ≡ true
change_permitted os i r h no_padding = pick (or_cases (has_padding r) (is_permitted os i r) h)
  where
    pick : (has_padding r ≡ true) ⊎ (is_permitted os i r ≡ true) → is_permitted os i r ≡ true
    pick (inl padding) = absurd (cc)
    pick (inr is) = is

pub padding_no_call : (r : Relocation) → has_padding r ≡ true → is_call r.kind ≡ false
padding_no_call r h = by (is_call r.kind) refl
  where
    by : (b : Bool) → is_call r.kind ≡ b → b ≡ false
    by true call = let align = (and_parts (is_align r.kind) (nat_lt 0 (full_padding r)) h).0 in absurd (cc (call_no_align r.kind call))
    by false no_call = refl

-- ---- inside the section

pub record IsSound (s : Section) : Type 0 where
  pub fit : fit_inside s.contents s.relocations ≡ true
  pub paddings : are_paddings s.executable s.contents s.relocations ≡ true

call_inside_by : (c : Contents) (r : Relocation) → fits_inside c r ≡ true → is_call r.kind ≡ true → r.place + 8 ≤ size_of c
call_inside_by (Progbits bytes) r h call = let wide = call_width r.kind call in let le = leb-true (r.place + width_of r.kind) (length bytes) h in omega (arith, le, wide)
call_inside_by (Note bytes) r h call = let wide = call_width r.kind call in let le = leb-true (r.place + width_of r.kind) (length bytes) h in omega (arith, le, wide)
call_inside_by (Nobits size) r h call = let wide = call_width r.kind call in let none = eqb-true (width_of r.kind) 0 h in absurd (omega (arith, wide, none))

pub call_inside : (s : Section) (r : Relocation) → IsSound s → In r s.relocations → is_call r.kind ≡ true → r.place + 8 ≤ size_of s.contents
call_inside s r sound i call = call_inside_by s.contents r (all_in (fits_inside s.contents) r s.relocations sound.fit i) call

padding_inside : (s : Section) (r : Relocation) (e : Bool) → s.executable ≡ e → e ≡ true → are_paddings e s.contents s.relocations ≡ true → In r s.relocations → has_padding r ≡ true → r.place < size_of s.contents
padding_inside s r false is text h i padding = absurd (cc)
padding_inside s r true is text h i padding =
    let each = (and_parts (list_all (is_padding true s.contents) s.relocations) (are_all_apart s.relocations) h).0 in
    let one = all_in (is_padding true s.contents) r s.relocations each i in
    let both = and_parts (is_align r.kind) (nat_lt 0 (full_padding r)) padding in
    let some = ltb-true 0 (full_padding r) both.1 in
    let within = padding_within s.contents r.place (padding_of r.addend) (sym (ap (λ b. not b || is_padding_of true s.contents r.place (padding_of r.addend)) both.0) ∙ one) in
    omega (arith, some, within)

pub change_inside : (os : List Object) (i : InputSection) (r : Relocation) → IsSound i.section → goes_to_text i.section ≡ true → In r i.section.relocations → may_change os i r ≡ true → r.place < size_of i.section.contents
change_inside os i r sound text j h = by (has_padding r) refl
  where
    code : i.section.executable ≡ true
    code = (and_parts i.section.loaded i.section.executable text).1

    by : (b : Bool) → has_padding r ≡ b → r.place < size_of i.section.contents
    by true padding = padding_inside i.section r i.section.executable refl code sound.paddings j padding
    by false no_padding =
        let one = permitted os i r (change_permitted os i r h no_padding) in
        let le = call_inside i.section r sound j one.call in
        omega (arith, le)

-- ---- as sites

pub site_offset : (os : List Object) (i : InputSection) (first : ℕ) (r : Relocation) → (site_of os i first r).offset ≡ first + r.place
site_offset os i first r = by (has_padding r)
  where
    by : (b : Bool) → (cond b (padding_site (first + r.place) (full_padding r) (alignment_of r)) (call_site os i (first + r.place) r)).offset ≡ first + r.place
    by true = refl
    by false = refl

call_bytes : (os : List Object) (i : InputSection) (first : ℕ) (r : Relocation) → has_padding r ≡ false → bytes_of (site_of os i first r).kind ≡ 8
call_bytes os i first r no_padding = ap (λ b. bytes_of (cond b (padding_site (first + r.place) (full_padding r) (alignment_of r)) (call_site os i (first + r.place) r)).kind) no_padding

pub behind_change : (os : List Object) (i : InputSection) (first from : ℕ) (c : Relocation) (cs : List Relocation) (zs : List Site) → InOrder from (map (site_of os i first) (c ∷ cs) ++ zs)
    → (from ≤ first + c.place) × InOrder (first + c.place + bytes_of (site_of os i first c).kind) (map (site_of os i first) cs ++ zs)
behind_change os i first from c cs zs h =
    let at = site_offset os i first c in
    (subst (λ (n : ℕ). from ≤ n) at h.0, subst (λ (n : ℕ). InOrder (n + bytes_of (site_of os i first c).kind) (map (site_of os i first) cs ++ zs)) at h.1)

pub not_before : (os : List Object) (i : InputSection) (first from : ℕ) (cs : List Relocation) (zs : List Site) (r : Relocation) → InOrder from (map (site_of os i first) cs ++ zs) → In r cs → from ≤ first + r.place
not_before os i first from [] zs r h j = elim j [ ]
not_before os i first from (c ∷ cs) zs r h (inl same) = subst (λ (x : Relocation). from ≤ first + x.place) same (behind_change os i first from c cs zs h).0
not_before os i first from (c ∷ cs) zs r h (inr j) =
    let one = behind_change os i first from c cs zs h in
    let more = not_before os i first (first + c.place + bytes_of (site_of os i first c).kind) cs zs r one.1 j in
    let here = one.0 in
    omega (arith, more, here)

pub changes_rise : (os : List Object) (i : InputSection) (first from : ℕ) (cs : List Relocation) (zs : List Site) → InOrder from (map (site_of os i first) cs ++ zs) → Rising cs
changes_rise os i first from [] zs h = tt
changes_rise os i first from (c ∷ cs) zs h =
    let one = behind_change os i first from c cs zs h in
    ((λ r j. let more = not_before os i first (first + c.place + bytes_of (site_of os i first c).kind) cs zs r one.1 j in omega (arith, more)), changes_rise os i first (first + c.place + bytes_of (site_of os i first c).kind) cs zs one.1)

pub order_behind : (os : List Object) (i : InputSection) (first from : ℕ) (cs : List Relocation) (zs : List Site) → InOrder from (map (site_of os i first) cs ++ zs) → (to : ℕ) × InOrder to zs
order_behind os i first from [] zs h = (from, h)
order_behind os i first from (c ∷ cs) zs h = order_behind os i first (first + c.place + bytes_of (site_of os i first c).kind) cs zs (behind_change os i first from c cs zs h).1

-- ---- what is kept of each

-- the sizes are those of a list, one by one
abbrev pub Matches : Sizes → List Relocation → List ℕ → Type 0
Matches sizes [] ks = ⊤
Matches sizes (c ∷ cs) [] = ⊥
Matches sizes (c ∷ cs) (k ∷ ks) = (has_padding c ≡ false → sizes c.place ≡ k) × Matches sizes cs ks

pub none_ahead : (from o : ℕ) (zs : List Site) (ks : List ℕ) → InOrder from zs → o < from → size_at zs ks o ≡ 8
none_ahead from o [] ks h low = refl
none_ahead from o (z ∷ zs) [] h low = refl
none_ahead from o (z ∷ zs) (k ∷ ks) h low =
    let other : (z.offset == o) ≡ false = ne_eqb z.offset o (λ same. let le = h.0 in absurd' (omega (arith, le, same))) in
    let at = h.0 in
    by (is_call_site z.kind) (z.offset == o) other ∙ none_ahead (z.offset + bytes_of z.kind) o zs ks h.1 (omega (arith, at))
  where
    absurd' : 1 ≤ 0 → ⊥
    absurd' le = absurd (omega (arith, le))

    by : (a b : Bool) → b ≡ false → cond (a && b) k (size_at zs ks o) ≡ size_at zs ks o
    by true true is = absurd (cc)
    by true false is = refl
    by false b is = refl

-- one site that is no call at an offset
pub passed_by : (s : Site) (k : ℕ) (ss : List Site) (ks : List ℕ) (o : ℕ) → (is_call_site s.kind ≡ false) ⊎ ((s.offset == o) ≡ false) → size_at (s ∷ ss) (k ∷ ks) o ≡ size_at ss ks o
passed_by s k ss ks o h = by (is_call_site s.kind) (s.offset == o) h
  where
    by : (a b : Bool) → (a ≡ false) ⊎ (b ≡ false) → cond (a && b) k (size_at ss ks o) ≡ size_at ss ks o
    by true true (inl e) = absurd (cc)
    by true true (inr e) = absurd (cc)
    by true false h = refl
    by false b h = refl

pub padding_site_no_call : (os : List Object) (i : InputSection) (first : ℕ) (c : Relocation) → has_padding c ≡ true → is_call_site (site_of os i first c).kind ≡ false
padding_site_no_call os i first c padding = ap (λ b. is_call_site (cond b (padding_site (first + c.place) (full_padding c) (alignment_of c)) (call_site os i (first + c.place) c)).kind) padding

call_site_call : (os : List Object) (i : InputSection) (first : ℕ) (c : Relocation) → has_padding c ≡ false → is_call_site (site_of os i first c).kind ≡ true
call_site_call os i first c no_padding = ap (λ b. is_call_site (cond b (padding_site (first + c.place) (full_padding c) (alignment_of c)) (call_site os i (first + c.place) c)).kind) no_padding

-- a call behind others is none of them
pub passed_change : (os : List Object) (i : InputSection) (first : ℕ) (c : Relocation) (k : ℕ) (ss : List Site) (ks : List ℕ) (o : ℕ) → first + c.place + bytes_of (site_of os i first c).kind ≤ o
    → size_at (site_of os i first c ∷ ss) (k ∷ ks) o ≡ size_at ss ks o
passed_change os i first c k ss ks o far = passed_by (site_of os i first c) k ss ks o (by (has_padding c) refl)
  where
    by : (b : Bool) → has_padding c ≡ b → (is_call_site (site_of os i first c).kind ≡ false) ⊎ (((site_of os i first c).offset == o) ≡ false)
    by true padding = inl (padding_site_no_call os i first c padding)
    by false no_padding =
        let eight = call_bytes os i first c no_padding in
        let at = site_offset os i first c in
        inr (ne_eqb (site_of os i first c).offset o (λ same. none (omega (arith, far, eight, at, same))))
      where
        none : 1 ≤ 0 → ⊥
        none le = absurd (omega (arith, le))

pub changes_match : (os : List Object) (i : InputSection) (first from size : ℕ) (sizes : Sizes) (cs : List Relocation) (ks : List ℕ) (zs : List Site) → InOrder from (map (site_of os i first) cs ++ zs)
    → length ks ≡ length (map (site_of os i first) cs ++ zs) → ((r : Relocation) → In r cs → r.place < size)
    → ((place : ℕ) → place < size → from ≤ first + place → sizes place ≡ size_at (map (site_of os i first) cs ++ zs) ks (first + place)) → Matches sizes cs ks
changes_match os i first from size sizes [] ks zs h many low look = tt
changes_match os i first from size sizes (c ∷ cs) [] zs h many low look = none (omega (arith, many))
  where
    none : 1 ≤ 0 → ⊥
    none le = absurd (omega (arith, le))
changes_match os i first from size sizes (c ∷ cs) (k ∷ ks) zs h many low look = (
  here,
  changes_match os i first (first + c.place + bytes_of (site_of os i first c).kind) size sizes cs ks zs one.1 (omega (arith, many)) (λ r j. low r (inr j))
      (λ place less far. look place less (let at = one.0 in omega (arith, at, far)) ∙ passed_change os i first c k (map (site_of os i first) cs ++ zs) ks (first + place) far),
)
  where
    one : (from ≤ first + c.place) × InOrder (first + c.place + bytes_of (site_of os i first c).kind) (map (site_of os i first) cs ++ zs)
    one = behind_change os i first from c cs zs h

    here : has_padding c ≡ false → sizes c.place ≡ k
    here no_padding =
        look c.place (low c (inl refl)) one.0
        ∙ ap (λ b. cond (b && ((site_of os i first c).offset == first + c.place)) k (size_at (map (site_of os i first) cs ++ zs) ks (first + c.place))) (call_site_call os i first c no_padding)
        ∙ ap (λ b. cond b k (size_at (map (site_of os i first) cs ++ zs) ks (first + c.place))) (eq-eqb (site_of os i first c).offset (first + c.place) (site_offset os i first c))

-- a size below 8 is that of a call among them
pub source_of : (os : List Object) (i : InputSection) (first o : ℕ) (cs : List Relocation) (ks : List ℕ) (zs : List Site) → ((js : List ℕ) → size_at zs js o ≡ 8) → size_at (map (site_of os i first) cs ++ zs) ks o < 8
    → (c : Relocation) × In c cs × (has_padding c ≡ false) × (first + c.place ≡ o)
source_of os i first o [] ks zs none less = let eight = none ks in absurd (omega (arith, eight, less))
source_of os i first o (c ∷ cs) [] zs none less = absurd (omega (arith, less))
source_of os i first o (c ∷ cs) (k ∷ ks) zs none less =
    by (λ h. let found = source_of os i first o cs ks zs none h in (found.0, inr found.1, found.2, found.3)) (has_padding c) refl ((site_of os i first c).offset == o) refl
  where
    by : (size_at (map (site_of os i first) cs ++ zs) ks o < 8 → (d : Relocation) × In d (c ∷ cs) × (has_padding d ≡ false) × (first + d.place ≡ o)) → (a : Bool) → has_padding c ≡ a → (b : Bool) → ((site_of os i first c).offset == o) ≡ b → (d : Relocation) × In d (c ∷ cs) × (has_padding d ≡ false) × (first + d.place ≡ o)
    by later true padding b at = later (subst (λ (n : ℕ). n < 8) (passed_by (site_of os i first c) k (map (site_of os i first) cs ++ zs) ks o (inl (padding_site_no_call os i first c padding))) less)
    by later false no_padding true at = (c, inl refl, no_padding, sym (site_offset os i first c) ∙ eqb-true (site_of os i first c).offset o at)
    by later false no_padding false at = later (subst (λ (n : ℕ). n < 8) (passed_by (site_of os i first c) k (map (site_of os i first) cs ++ zs) ks o (inr at)) less)

-- ---- their moves

move_is : (first : ℕ) (s : Section) (sizes : Sizes) (c : Relocation) (k offset : ℕ) → offset ≡ first + c.place → sizes c.place ≡ k
    → record { place = offset - first; full = 8; text = short_call k (link_register (stored s.contents) (offset - first)) } ≡ cut sizes s c
move_is first s sizes c k offset at is =
    let place : offset - first ≡ c.place = omega (arith, at) in
    ap (λ n. record { place = n; full = 8; text = short_call k (link_register (stored s.contents) n) }) place
    ∙ ap (λ n. record { place = c.place; full = 8; text = short_call n (link_register (stored s.contents) c.place) }) (sym is)

pub moves_match : (os : List Object) (i : InputSection) (first : ℕ) (s : Section) (sizes : Sizes) (cs : List Relocation) (ks : List ℕ) → Matches sizes cs ks → ((c : Relocation) → In c cs → may_change os i c ≡ true)
    → moves_of first (stored s.contents) (map (site_of os i first) cs) ks ≡ map (cut sizes s) (filter (is_shortened sizes) cs)
moves_match os i first s sizes [] ks h each = refl
moves_match os i first s sizes (c ∷ cs) [] h each = elim h [ ]
moves_match os i first s sizes (c ∷ cs) (k ∷ ks) h each = by (moves_match os i first s sizes cs ks h.1 (λ d j. each d (inr j))) (has_padding c) refl
  where
    site : Site
    site = site_of os i first c

    here : Move
    here = record { place = site.offset - first; full = 8; text = short_call k (link_register (stored s.contents) (site.offset - first)) }

    short : moves_of first (stored s.contents) (map (site_of os i first) cs) ks ≡ map (cut sizes s) (filter (is_shortened sizes) cs) → sizes c.place ≡ k → (b : Bool) → cond b (here ∷ moves_of first (stored s.contents) (map (site_of os i first) cs) ks) (moves_of first (stored s.contents) (map (site_of os i first) cs) ks) ≡ map (cut sizes s) (cond b (c ∷ filter (is_shortened sizes) cs) (filter (is_shortened sizes) cs))
    short rest is true = ap (λ m. m ∷ moves_of first (stored s.contents) (map (site_of os i first) cs) ks) (move_is first s sizes c k site.offset (site_offset os i first c) is) ∙ ap (λ l. cut sizes s c ∷ l) rest
    short rest is false = rest

    by : moves_of first (stored s.contents) (map (site_of os i first) cs) ks ≡ map (cut sizes s) (filter (is_shortened sizes) cs) → (b : Bool) → has_padding c ≡ b → moves_of first (stored s.contents) (site ∷ map (site_of os i first) cs) (k ∷ ks) ≡ map (cut sizes s) (filter (is_shortened sizes) (c ∷ cs))
    by rest true padding =
        ap (λ b. cond (b && nat_lt k 8) (here ∷ moves_of first (stored s.contents) (map (site_of os i first) cs) ks) (moves_of first (stored s.contents) (map (site_of os i first) cs) ks)) (padding_site_no_call os i first c padding)
        ∙ rest ∙ sym (ap (λ b. map (cut sizes s) (cond (b && nat_lt (sizes c.place) 8) (c ∷ filter (is_shortened sizes) cs) (filter (is_shortened sizes) cs))) (padding_no_call c padding))
    by rest false no_padding =
        let is = h.0 no_padding in
        let one = permitted os i c (change_permitted os i c (each c (inl refl)) no_padding) in
        ap (λ b. cond (b && nat_lt k 8) (here ∷ moves_of first (stored s.contents) (map (site_of os i first) cs) ks) (moves_of first (stored s.contents) (map (site_of os i first) cs) ks)) (call_site_call os i first c no_padding)
        ∙ short rest is (nat_lt k 8)
        ∙ sym (ap (λ b. map (cut sizes s) (cond (b && nat_lt (sizes c.place) 8) (c ∷ filter (is_shortened sizes) cs) (filter (is_shortened sizes) cs))) one.call
        ∙ ap (λ n. map (cut sizes s) (cond (nat_lt n 8) (c ∷ filter (is_shortened sizes) cs) (filter (is_shortened sizes) cs))) is)

-- ---- one behind the other

two_or_four : (k link : ℕ) → ((length (short_call k link) == 2) || (length (short_call k link) == 4)) ≡ true
two_or_four k link = by (k == 2)
  where
    by : (b : Bool) → ((length (cond b (little_endian 2 empty_jump) (little_endian 4 (empty_jal link))) == 2) || (length (cond b (little_endian 2 empty_jump) (little_endian 4 (empty_jal link))) == 4)) ≡ true
    by true = refl
    by false = refl

lower : (stop further size : ℕ) (ms : List Move) → stop ≤ further → are_cuts further size ms ≡ true → are_cuts stop size ms ≡ true
lower stop further size [] le h = refl
lower stop further size (m ∷ ms) le h =
    let all = and_parts (is_cut further size m) (are_cuts (m.place + 8) size ms) h in
    let one = and_parts (nat_le further m.place) (nat_le (m.place + 8) size && ((m.place % 2 == 0) && ((m.full == 8) && ((length m.text == 2) || (length m.text == 4))))) all.0 in
    let from = leb-true further m.place one.0 in
    and_from (is_cut stop size m) (are_cuts (m.place + 8) size ms) (and_from (nat_le stop m.place) (nat_le (m.place + 8) size && ((m.place % 2 == 0) && ((m.full == 8) && ((length m.text == 2) || (length m.text == 4))))) (le-leb stop m.place (omega (arith, from))) one.1) all.1

pub cuts_order : (os : List Object) (i : InputSection) (first stop size : ℕ) (s : Section) (sizes : Sizes) (cs : List Relocation) (zs : List Site) → InOrder (first + stop) (map (site_of os i first) cs ++ zs)
    → ((c : Relocation) → In c cs → is_shortened sizes c ≡ true → (has_padding c ≡ false) × ((c.place % 2 ≡ 0) × (c.place + 8 ≤ size)))
    → are_cuts stop size (map (cut sizes s) (filter (is_shortened sizes) cs)) ≡ true
cuts_order os i first stop size s sizes [] zs h each = refl
cuts_order os i first stop size s sizes (c ∷ cs) zs h each =
    let one = behind_change os i first (first + stop) c cs zs h in
    by one.0 (λ n is. cuts_order os i first (c.place + n) size s sizes cs zs (subst (λ (m : ℕ). InOrder m (map (site_of os i first) cs ++ zs)) (same n is) one.1) (λ d j. each d (inr j))) (is_shortened sizes c) refl
  where
    same : (n : ℕ) → bytes_of (site_of os i first c).kind ≡ n → first + c.place + bytes_of (site_of os i first c).kind ≡ first + (c.place + n)
    same n is = omega (arith, is)

    by : first + stop ≤ first + c.place → ((n : ℕ) → bytes_of (site_of os i first c).kind ≡ n → are_cuts (c.place + n) size (map (cut sizes s) (filter (is_shortened sizes) cs)) ≡ true)
        → (b : Bool) → is_shortened sizes c ≡ b → are_cuts stop size (map (cut sizes s) (cond b (c ∷ filter (is_shortened sizes) cs) (filter (is_shortened sizes) cs))) ≡ true
    by from rest true is =
        let facts = each c (inl refl) is in
        let text = short_call (sizes c.place) (link_register (stored s.contents) c.place) in
        and_from (is_cut stop size (cut sizes s c)) (are_cuts (c.place + 8) size (map (cut sizes s) (filter (is_shortened sizes) cs)))
        (and_from (nat_le stop c.place) (nat_le (c.place + 8) size && ((c.place % 2 == 0) && (true && ((length text == 2) || (length text == 4))))) (le-leb stop c.place (omega (arith, from)))
        (and_from (nat_le (c.place + 8) size) ((c.place % 2 == 0) && (true && ((length text == 2) || (length text == 4)))) (le-leb (c.place + 8) size facts.1.1)
        (and_from (c.place % 2 == 0) (true && ((length text == 2) || (length text == 4))) (eq-eqb (c.place % 2) 0 facts.1.0) (two_or_four (sizes c.place) (link_register (stored s.contents) c.place)))))
        (rest 8 (call_bytes os i first c facts.0))
    by from rest false is =
        lower stop (c.place + bytes_of (site_of os i first c).kind) size (map (cut sizes s) (filter (is_shortened sizes) cs)) (omega (arith, from)) (rest (bytes_of (site_of os i first c).kind) refl)

-- A section of an object in the program: its bytes, its rows, and the sizes of its statements.

use Rattle.std.proofs.Common.{◌≡◌, ℕ, zero, suc, ◌+◌, ◌-◌, ◌*◌, ◌/◌, ◌%◌, ◌<◌, ◌≤◌, Bool, true, false, List, [], ◌∷◌, ◌++◌, length, length-append, refl, sym, ap, ◌∙◌, subst, arith, map, Option, Some, None, add-zero, mod-eq_of_lt}
use Rattle.std.proofs.lemmas.List.{append-nil}
use Rattle.std.proofs.Math.Nat.{add-mul-mod_self_right}
use Rattle.std.proofs.lemmas.Nat.{div-add-mod'}
use Rattle.std.specs.Prelude.{⊤, ℤ, ◌&&◌, max, if◌then◌else◌, flat_map, is_some, unwrap_or, option_map, option_and_then}
use Rattle.std.specs.List.{AllByRecursion, list_all}
use Rattle.rv_list_laws.proofs.EachLemmas.{each_split}
use Rattle.rv_size_laws.specs.Alignment.{aligned}
use Rattle.rv_isa_laws.specs.Bytes.{little_endian, zeros}
use Rattle.rv_expression_laws.specs.Expression.{Primary}
use Rattle.rv_expression_laws.specs.Values.{Value, Constant, Symbolic, Difference, Faulty, add, subtract}
use Rattle.rv_statement_laws.specs.Statement.{StatementKind, Label, Numbered, Instruction, Directs, Expression, Enters, Opens, Binds, Sets, Chooses, Ignored, Values, Strings, Zeros, Aligns, Emits}
use Rattle.rv_pseudo_laws.specs.Code.{Part as CodePart, code as code_parts}
use Rattle.rv_unit_laws.specs.Tables.{Tables, alignment_of, sure_definition, string_bytes}
use Rattle.rv_map_laws.specs.declared.map.Row.{Row as MapRow}
use Rattle.rv_source_laws.specs.Program.{Mapped, Program, tables_in, address_by, resolved, number as number_of}
use Rattle.rv_source_laws.specs.Start.{spelled_said}
use Rattle.rv_source_laws.proofs.HeldLemmas.{IsHeld}
use Rattle.rv_object_laws.specs.Object.{Relocation}
use Rattle.rv_link_laws.specs.Inputs.{Starts}
use Rattle.rv_sources_link_theorems.proofs.statements.MarkedLemmas.{part_fields}
use Rattle.rv_assemble_laws.specs.Templates.{Datum, Open, IsTemplate, HasField, template_fields, value_fields}
use Rattle.rv_assemble_laws.specs.Coded.{constants}
use Rattle.rv_assemble_laws.specs.LaidStatements.{LaidStatement, LaidPart, expression_value, laid_part, part_bytes, coded_templates, IsMultiple}
use Rattle.rv_assemble_laws.specs.IsObjectOf.{Numbering, relocation_at, relocations_from}
use Rattle.rv_sources_link_theorems.proofs.fields.PatchesLemmas.{written, written_from, filled_fields}
use Rattle.rv_sources_link_theorems.proofs.statements.CodingLemmas.{coded_bytes}
use Rattle.rv_sources_link_theorems.proofs.statements.StatementsLemmas.{mapped_at}
use Rattle.rv_sources_link_theorems.proofs.statements.SettledLemmas.{IsPlacedKind}
use Rattle.rv_sources_link_theorems.proofs.statements.SuitsLemmas as suits
use Rattle.rv_object_laws.specs.Padding.{no_operations, operations_in}
use Rattle.rv_sources_link_theorems.proofs.moves.ShrunkLemmas.{padding_templates, IsPaddedIn, parts_of, parts, Tile, shrunk_templates, HasShrunkSize}

-- ---- relocations of parts

-- what holds of parts that follow one another, each at its offset
abbrev pub AtOffsets : (ℕ → LaidPart → Type 0) → ℕ → List LaidPart → Type 0
AtOffsets R offset [] = ⊤
AtOffsets R offset (p ∷ ps) = R offset p × AtOffsets R (offset + length (part_bytes p)) ps

split_at : (R : ℕ → LaidPart → Type 0) (offset : ℕ) (xs ys : List LaidPart) → AtOffsets R offset (xs ++ ys)
    → AtOffsets R offset xs × AtOffsets R (offset + length (flat_map part_bytes xs)) ys
split_at R offset [] ys h = (tt, subst (λ n. AtOffsets R n ys) (let e : offset ≡ offset + 0 = omega arith in e) h)
split_at R offset (x ∷ xs) ys (h, hs) =
    let rest = split_at R (offset + length (part_bytes x)) xs ys hs in
    let long : length (part_bytes x ++ flat_map part_bytes xs) ≡ length (part_bytes x) + length (flat_map part_bytes xs) = length-append (part_bytes x) (flat_map part_bytes xs) in (
      (h, rest.0),
      subst (λ n. AtOffsets R n ys)
          (let e : offset + length (part_bytes x) + length (flat_map part_bytes xs) ≡ offset + length (part_bytes x ++ flat_map part_bytes xs) = omega (arith, long) in e) rest.1,
    )

-- those of statements that follow one another, by statement
pub at_laid : (R : ℕ → LaidPart → Type 0) (t : Tables) (offset : ℕ) (zs : List LaidStatement) → Tile t offset zs → AtOffsets R offset (parts t zs)
    → AllByRecursion (λ z. AtOffsets R z.offset (parts_of t z)) zs
at_laid R t offset [] tile h = tt
at_laid R t offset (z ∷ zs) (at, size, tile) h =
    let both = split_at R offset (parts_of t z) (parts t zs) h in (
      subst (λ n. AtOffsets R n (parts_of t z)) (sym at) both.0,
      at_laid R t (offset + z.bytes) zs tile (subst (λ n. AtOffsets R (offset + n) (parts t zs)) (sym size) both.1),
    )

module _ (Q : Relocation → Type 0) (number : Numbering) where
  -- the relocations of a part at an offset
  abbrev pub AreAt : ℕ → LaidPart → Type 0
  AreAt offset p = AllByRecursion (λ (f : Open). Q (relocation_at number offset f)) (template_fields p.ordinal p.template)

  of_fields : (offset : ℕ) (fs : List Open) → AllByRecursion Q (map (relocation_at number offset) fs) → AllByRecursion (λ (f : Open). Q (relocation_at number offset f)) fs
  of_fields offset [] h = tt
  of_fields offset (f ∷ fs) (h, hs) = (h, of_fields offset fs hs)

  pub of_parts : (offset : ℕ) (ps : List LaidPart) → AllByRecursion Q (relocations_from number offset ps) → AtOffsets AreAt offset ps
  of_parts offset [] h = tt
  of_parts offset (p ∷ ps) h =
      let both = each_split Q (map (relocation_at number offset) (template_fields p.ordinal p.template)) (relocations_from number (offset + length (part_bytes p)) ps) h in
      (of_fields offset (template_fields p.ordinal p.template) both.0, of_parts (offset + length (part_bytes p)) ps both.1)

-- ---- multiples

pub multiple_of : (a multiple stop : ℕ) → 0 < a → multiple % a ≡ 0 → aligned multiple stop % a ≡ 0
multiple_of a multiple stop some h =
    let q = multiple / a in
    let whole : q * a ≡ multiple = sym (add-zero (q * a)) ∙ ap (λ n. q * a + n) (sym h) ∙ div-add-mod' multiple a in
    let n = (stop + (multiple - 1)) / multiple in
    let is : n * multiple ≡ 0 + n * q * a = ap (λ x. n * x) (sym whole) ∙ (let e : n * (q * a) ≡ 0 + n * q * a = omega arith in e) in
    ap (λ x. x % a) is ∙ add-mul-mod_self_right 0 (n * q) a ∙ mod-eq_of_lt some

-- of a section of code, which begins at a multiple of 2 at least
pub multiple_from : (code : Bool) (a multiple stop : ℕ) → 0 < a → 1 ≤ multiple → multiple % a ≡ 0 → aligned (max (if code then 2 else 1) multiple) stop % a ≡ 0
multiple_from false a multiple stop some least h =
    ap (λ n. aligned n stop % a) (let e : max 1 multiple ≡ multiple = omega (arith, least) in e) ∙ multiple_of a multiple stop some h
multiple_from true a zero stop some least h = absurd (omega (arith, least))
multiple_from true zero (suc zero) stop some least h = absurd (omega (arith, some))
multiple_from true (suc zero) (suc zero) stop some least h = let n = aligned 2 stop in let e : n % 1 ≡ 0 = omega arith in e
multiple_from true (suc (suc a)) (suc zero) stop some least h =
    let one : 1 % suc (suc a) ≡ 1 = mod-eq_of_lt (let l : 1 < suc (suc a) = omega arith in l) in absurd (omega (arith, one, h))
multiple_from true a (suc (suc multiple)) stop some least h =
    ap (λ n. aligned n stop % a) (let e : max 2 (suc (suc multiple)) ≡ suc (suc multiple) = omega arith in e) ∙ multiple_of a (suc (suc multiple)) stop some h

-- ---- values

-- what is known of a symbol, where there is one: it has an address
abbrev pub HasAddressIn : (Primary → Option ℕ) → Option Primary → Type 0
HasAddressIn a None = ⊤
HasAddressIn a (Some q) = is_some (a q) ≡ true

-- the values of parts that take their fields are there
module _ (a : ℕ → Primary → Option ℕ) where
  abbrev pub HasAddress : Open → Type 0
  HasAddress f = HasAddressIn (a f.ordinal) f.symbol

  two : (p q : Option ℕ) (x : ℕ → ℕ → ℕ) → is_some p ≡ true → is_some q ≡ true → is_some (option_and_then (λ u. option_map (λ v. x u v) q) p) ≡ true
  two (Some u) (Some v) x e f = refl
  two None q x e f = absurd (cc)
  two (Some u) None x e f = absurd (cc)

  one : (p : Option ℕ) (x : ℕ → ℕ) → is_some p ≡ true → is_some (option_map x p) ≡ true
  one (Some u) x e = refl
  one None x e = absurd (cc)

  valued : (ordinal width : ℕ) (v : Value) → HasField width v → AllByRecursion HasAddress (value_fields ordinal width v) → is_some (resolved (a ordinal) v) ≡ true
  valued ordinal width (Constant n) h k = refl
  valued ordinal width (Symbolic q at plus) h (k, tt) = one (a ordinal q) (λ x. add x plus) k
  valued ordinal width (Difference q r plus) h (k, (l, tt)) = two (a ordinal q) (a ordinal r) (λ x y. add (subtract x y) plus) k l
  valued ordinal width (Faulty code) h k = absurd h

  pub all_valued : (ordinal width : ℕ) (v : Expression → Value) (es : List Expression)
      → AllByRecursion (λ p. IsTemplate p.template) (map (laid_part ordinal) (map (λ e. Datum width (v e)) es))
      → AllByRecursion (λ p. AllByRecursion HasAddress (template_fields p.ordinal p.template)) (map (laid_part ordinal) (map (λ e. Datum width (v e)) es))
      → list_all (λ e. is_some (resolved (a ordinal) (v e))) es ≡ true
  all_valued ordinal width v [] h k = refl
  all_valued ordinal width v (e ∷ es) (h, hs) (k, ks) =
      ap (λ b. b && list_all (λ e. is_some (resolved (a ordinal) (v e))) es) (valued ordinal width (v e) h k) ∙ all_valued ordinal width v es hs ks

-- ---- a statement

-- its padding
suits_padding : (s : LaidStatement) (row : MapRow) (a : Option ℕ) → row.bytes ≡ s.bytes → row.instructions ≡ s.instructions → (t : Bool) → IsPaddedIn t s a → suits.SuitsPadding t row s.offset a
suits_padding s row a b i true (x, y, z) = (b ∙ x, ap (λ n. n % 2) b ∙ y, i ∙ z ∙ ap operations_in (sym b))
suits_padding s row a b i false (x, y) = (b ∙ x, i ∙ y)

-- of a section that starts at an address: what the statement's size makes of its row
pub suits_by : (s : LaidStatement) (file multiple start : ℕ) (row : MapRow) (v : Expression → Value) (valued : Bool) (kind : StatementKind)
    → row.bytes ≡ s.bytes → row.instructions ≡ s.instructions → row.address ≡ start + s.offset
    → ((a : Option ℕ) → IsMultiple a multiple → suits.IsMultiple a start)
    → ((width : ℕ) (values : List Expression) → kind ≡ Directs (Emits (Values width values)) → valued ≡ true)
    → IsPlacedKind kind → HasShrunkSize v s multiple kind → suits.Suits v valued s.located.home s.located.options.rvc s.coded row s.offset start kind
suits_by s file multiple start row v valued (Label name) b i at m values placed (x, y) = (b ∙ x, i ∙ y)
suits_by s file multiple start row v valued (Numbered number) b i at m values placed (x, y) = (b ∙ x, i ∙ y)
suits_by s file multiple start row v valued (Instruction mnemonic operands) b i at m values placed h = record {
  ps = h.ps;
  parts = ap (λ n. code_parts (constants v) s.located.options.rvc n mnemonic operands) b ∙ h.parts;
  coded_as = h.coded_as;
  size = b ∙ h.size;
  count = i ∙ h.count;
}
suits_by s file multiple start row v valued (Directs (Emits (Values width es))) b i at m values placed (x, y) = (i ∙ x, values width es refl, b ∙ y)
suits_by s file multiple start row v valued (Directs (Emits (Strings ended strings))) b i at m values placed (x, y) = (i ∙ x, tt, b ∙ y)
suits_by s file multiple start row v valued (Directs (Emits (Zeros count))) b i at m values placed (x, y) = (i ∙ x, tt, y ∙ ap Constant (sym b))
suits_by s file multiple start row v valued (Directs (Aligns form e)) b i at m values placed (x, y, z) =
    (x, at, m (alignment_of v (Aligns form e)) y, suits_padding s row (alignment_of v (Aligns form e)) b i s.located.home.executable z)
suits_by s file multiple start row v valued (Directs (Sets name e)) b i at m values placed (x, y) = (b ∙ x, i ∙ y)
suits_by s file multiple start row v valued (Directs (Enters section)) b i at m values placed h = absurd placed
suits_by s file multiple start row v valued (Directs (Opens name flags kind)) b i at m values placed h = absurd placed
suits_by s file multiple start row v valued (Directs (Binds binding names)) b i at m values placed h = absurd placed
suits_by s file multiple start row v valued (Directs (Chooses choice)) b i at m values placed h = absurd placed
suits_by s file multiple start row v valued (Directs Ignored) b i at m values placed h = absurd placed

module _ (p : Program) (file : ℕ) where
  -- the address of what a statement of the file means by a name
  abbrev pub meant_in : ℕ → Primary → Option ℕ
  meant_in ordinal q = address_by p file q (sure_definition (tables_in p file) ordinal q)

  -- what a laid statement of the file writes, where the fields of a section take these at an offset
  abbrev pub said : (ℕ → ℕ → Open → ℤ) → LaidStatement → List ℕ
  said worth z = written_from (written meant_in (worth z.located.section)) z.offset (parts_of (tables_in p file) z)

  module _ (worth : ℕ → ℕ → Open → ℤ) where
    abbrev says : LaidStatement → StatementKind → List ℕ
    says z kind = written_from (written meant_in (worth z.located.section)) z.offset (map (laid_part z.located.ordinal) (shrunk_templates (tables_in p file) z kind))

    -- in data a statement's parts are what it spells
    values_spelled : (w : ℕ → Open → ℤ) (offset ordinal width : ℕ) (v : Expression → Value) (es : List Expression)
        → flat_map (λ e. little_endian width (unwrap_or (resolved (meant_in ordinal) (v e)) 0)) es ≡ written_from (written meant_in w) offset (map (laid_part ordinal) (map (λ e. Datum width (v e)) es))
    values_spelled w offset ordinal width v [] = refl
    values_spelled w offset ordinal width v (e ∷ es) =
        ap (λ l. little_endian width (unwrap_or (resolved (meant_in ordinal) (v e)) 0) ++ l)
        (values_spelled w (offset + length (part_bytes (laid_part ordinal (Datum width (v e))))) ordinal width v es)

    pub spelled_by : (starts : Starts) (s : LaidStatement) (multiple : ℕ) (kind : StatementKind) → IsHeld s.located.home kind → s.located.home.executable ≡ false
        → HasShrunkSize (expression_value (tables_in p file) s.located) s multiple kind
        → let m : Mapped = mapped_at starts file s in
        spelled_said (number_of p m) kind s.bytes ≡ says s kind
    spelled_by starts s multiple (Label name) held aside size = refl
    spelled_by starts s multiple (Numbered number) held aside size = refl
    spelled_by starts s multiple (Instruction mnemonic operands) held aside size = let e : true ≡ false = sym held.0 ∙ aside in absurd (cc)
    spelled_by starts s multiple (Directs (Emits (Values width es))) held aside size = values_spelled (worth s.located.section) s.offset s.located.ordinal width (expression_value (tables_in p file) s.located) es
    spelled_by starts s multiple (Directs (Emits (Strings ended strings))) held aside size = sym (append-nil (string_bytes ended strings))
    spelled_by starts s multiple (Directs (Emits (Zeros count))) held aside (x, y) =
        ap (λ v. zeros (unwrap_or (resolved (meant_in s.located.ordinal) v) 0)) y ∙ sym (append-nil (zeros s.bytes))
    spelled_by starts s multiple (Directs (Aligns form e)) held aside size =
        sym (append-nil (zeros s.bytes)) ∙ ap (λ b. written_from (written meant_in (worth s.located.section)) s.offset (map (laid_part s.located.ordinal) (padding_templates b s.bytes))) (sym aside)
    spelled_by starts s multiple (Directs (Enters section)) held aside size = refl
    spelled_by starts s multiple (Directs (Opens name flags kind)) held aside size = refl
    spelled_by starts s multiple (Directs (Binds binding names)) held aside size = refl
    spelled_by starts s multiple (Directs (Sets name e)) held aside size = refl
    spelled_by starts s multiple (Directs (Chooses choice)) held aside size = refl
    spelled_by starts s multiple (Directs Ignored) held aside size = refl

    -- the parts of code
    coded_parts : (w : ℕ → Open → ℤ) (fields : CodePart → List Open) (offset ordinal : ℕ) (ps : List CodePart) (coded : List (List ℕ))
        → coded_bytes w fields offset ps coded ≡ written_from (written meant_in w) offset (map (laid_part ordinal) (coded_templates fields ps coded))
    coded_parts w fields offset ordinal [] coded = refl
    coded_parts w fields offset ordinal (q ∷ ps) [] = refl
    coded_parts w fields offset ordinal (q ∷ ps) (bytes ∷ coded) =
        ap (λ l. filled_fields (w offset) (fields q) bytes ++ l) (coded_parts w fields (offset + length bytes) ordinal ps coded)

    padding_coded : (w : ℕ → Open → ℤ) (offset ordinal bytes : ℕ) → no_operations bytes ≡ written_from (written meant_in w) offset (map (laid_part ordinal) (padding_templates true bytes))
    padding_coded w offset ordinal zero = refl
    padding_coded w offset ordinal (suc n) = sym (append-nil (no_operations (suc n)))

    -- in code its parts are its code
    pub coded_by : (s : LaidStatement) (multiple : ℕ) (kind : StatementKind) → IsHeld s.located.home kind → s.located.home.executable ≡ true
        → HasShrunkSize (expression_value (tables_in p file) s.located) s multiple kind
        → suits.code_said (worth s.located.section) (part_fields (tables_in p file) (expression_value (tables_in p file) s.located) s.located) (expression_value (tables_in p file) s.located) s.located.options.rvc s.offset s.bytes s.coded kind
        ≡ says s kind
    coded_by s multiple (Label name) held code size = refl
    coded_by s multiple (Numbered number) held code size = refl
    coded_by s multiple (Instruction mnemonic operands) held code size =
        coded_parts (worth s.located.section) (part_fields (tables_in p file) (expression_value (tables_in p file) s.located) s.located) s.offset s.located.ordinal
        (unwrap_or (code_parts (constants (expression_value (tables_in p file) s.located)) s.located.options.rvc s.bytes mnemonic operands) []) s.coded
    coded_by s multiple (Directs (Emits contents)) held code size = let e : true ≡ false = sym code ∙ held.0 in absurd (cc)
    coded_by s multiple (Directs (Aligns form e)) held code size =
        padding_coded (worth s.located.section) s.offset s.located.ordinal s.bytes ∙ ap (λ b. written_from (written meant_in (worth s.located.section)) s.offset (map (laid_part s.located.ordinal) (padding_templates b s.bytes))) (sym code)
    coded_by s multiple (Directs (Enters section)) held code size = refl
    coded_by s multiple (Directs (Opens name flags kind)) held code size = refl
    coded_by s multiple (Directs (Binds binding names)) held code size = refl
    coded_by s multiple (Directs (Sets name e)) held code size = refl
    coded_by s multiple (Directs (Chooses choice)) held code size = refl
    coded_by s multiple (Directs Ignored) held code size = refl

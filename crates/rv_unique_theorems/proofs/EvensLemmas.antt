-- A run of objects of the code begins at an even address.

use Rattle.std.proofs.Common.{◌≡◌, ℕ, zero, suc, ◌+◌, ◌-◌, ◌/◌, ◌%◌, ◌^◌, Bool, true, false, not, cond, ◌&&◌, ◌||◌, nat_le, nat_lt, min, List, [], ◌∷◌, length, refl, sym, ap, ◌∙◌, arith, Option, Some, None}
use Rattle.std.specs.Prelude.{IsTrue, ◌==◌, filter, unwrap_or, option_and_then, codes, if◌then◌else◌}
use Rattle.std.specs.List.{AllByRecursion, list_all, slice_get}
use Rattle.std.proofs.lemmas.Bool.{and_parts, eqb-true}
use Rattle.std.proofs.lemmas.List.{length-append}
use Rattle.rv_list_laws.proofs.EachLemmas.{each_left, each_right, each_get}
use Rattle.rv_size_laws.specs.Alignment.{aligned}
use Rattle.rv_size_laws.proofs.AlignmentLemmas.{aligned_even}
use Rattle.rv_object_laws.specs.declared.symbol.Definition.{Definition}
use Rattle.rv_object_laws.specs.declared.symbol.Definition.TheVariants as definitions
use Rattle.rv_object_laws.specs.Object.{Contents, Relocation, Section, Object, size_of}
use Rattle.rv_object_laws.specs.Padding.{four_each, no_operations}
use Rattle.rv_object_laws.specs.Valid.{is_align, padding_of, is_padding, is_padding_of, are_all_apart, are_paddings}
use Rattle.rv_link_laws.specs.Moves.{dropped, new_offset, full_padding, has_padding, alignment_of, inserted, by_place, alignments_of, plan, moves}
use Rattle.rv_link_laws.specs.Inputs.{Starts, InputSection, goes_to_text, inputs_from, inputs_of, inputs, begins_at, start_of, size, Stand}
use Rattle.rv_link_laws.specs.Names.{Export, offset_address, defined_address, chosen, export_address, is_in_text, can_begin, begins_run, run_start, entry_of}
use Rattle.rv_unique_theorems.specs.Asked.{BeginsEven, IsSound}
use Rattle.rv_unique_theorems.proofs.FoundLemmas.{found_in}
use Rattle.rv_unique_theorems.proofs.ExportsLemmas.{OfFiles, of_chosen}
use Rattle.rv_unique_theorems.proofs.MultiplesLemmas.{BeginsSo, all_begin}

module _ (starts : Starts) where
  abbrev StartsEven : InputSection → Type 0
  StartsEven i = start_of starts i % 2 ≡ 0

  all_even : (stop : ℕ) (is : List InputSection) → AllByRecursion BeginsSo is → Stand starts stop is → AllByRecursion StartsEven is
  all_even stop [] h st = tt
  all_even stop (i ∷ is) (even, h) (at, st) = (ap (λ n. n % 2) at ∙ aligned_even (begins_at i.section) stop even, all_even (start_of starts i + size starts i) is h st)

-- ---- what is kept of paddings

four_even : (n : ℕ) → length (four_each n) % 2 ≡ 0
four_even zero = refl
four_even (suc n) = let rest = four_even n in omega (arith, rest)

abbrev two_left : Bool → List ℕ
two_left b = if b then 0x01 ∷ 0 ∷ [] else []

nops_even : (n : ℕ) → length (no_operations n) % 2 ≡ 0
nops_even n =
    let rest = four_even (n / 4) in
    ap (λ m. m % 2) (length-append (four_each (n / 4)) (two_left (nat_le 2 (n % 4)))) ∙ by (nat_le 2 (n % 4)) rest
  where
    by : (b : Bool) → length (four_each (n / 4)) % 2 ≡ 0 → (length (four_each (n / 4)) + length (two_left b)) % 2 ≡ 0
    by true rest = omega (arith, rest)
    by false rest = omega (arith, rest)

abbrev IsEvenPadding : Relocation → Type 0
IsEvenPadding r = (r.place % 2 ≡ 0) × (full_padding r % 2 ≡ 0)

even_drop : (full text old place rest : ℕ) → full % 2 ≡ 0 → text % 2 ≡ 0 → old % 2 ≡ 0 → place % 2 ≡ 0 → rest % 2 ≡ 0 → (min (full - text) (old - (place + text)) + rest) % 2 ≡ 0
even_drop full text old place rest a b c d e = omega (arith, a, b, c, d, e)

pub dropped_even : (base gone old : ℕ) (rs : List Relocation) → AllByRecursion IsEvenPadding rs → old % 2 ≡ 0 → dropped (plan base gone rs) old % 2 ≡ 0
dropped_even base gone old [] h e = refl
dropped_even base gone old (r ∷ rs) ((place, full), h) e =
    let least = aligned (alignment_of r) (base + (r.place - gone)) - (base + (r.place - gone)) in
    even_drop (full_padding r) (length (no_operations least)) old r.place (dropped (plan base (gone + (full_padding r - least)) rs) old) full (nops_even least) e place
    (dropped_even base (gone + (full_padding r - least)) old rs h e)

minus_even : (a b : ℕ) → a % 2 ≡ 0 → b % 2 ≡ 0 → (a - b) % 2 ≡ 0
minus_even a b x y = omega (arith, x, y)

three : (a b c : Bool) → (a && b && c) ≡ true → (a ≡ true) × (c ≡ true)
three true true c e = (refl, e)
three true false c e = absurd (cc)
three false b c e = absurd (cc)

padding_even : (c : Contents) (place : ℕ) (f : Option ℕ) → is_padding_of true c place f ≡ true → (place % 2 ≡ 0) × (unwrap_or f 0 % 2 ≡ 0)
padding_even c place None e = absurd (cc)
padding_even c place (Some n) e =
    let all = three (n % 2 == 0) (nat_le n 4094) ((place % 2 == 0) && nat_le (place + n) (size_of c)) e in
    (eqb-true (place % 2) 0 (and_parts (place % 2 == 0) (nat_le (place + n) (size_of c)) all.1).0, eqb-true (n % 2) 0 all.0)

relocation_even : (c : Contents) (r : Relocation) → is_padding true c r ≡ true → has_padding r ≡ true → IsEvenPadding r
relocation_even c r e pads =
    let align = (and_parts (is_align r.kind) (nat_lt 0 (full_padding r)) pads).0 in
    padding_even c r.place (padding_of r.addend) (ap (λ b. not b || is_padding_of true c r.place (padding_of r.addend)) (sym align) ∙ e)

all_inserted : (r : Relocation) (qs : List Relocation) → IsEvenPadding r → AllByRecursion IsEvenPadding qs → AllByRecursion IsEvenPadding (inserted r qs)
all_inserted r [] one h = (one, tt)
all_inserted r (q ∷ qs) one (own, h) = by (nat_le (r.place + full_padding r) q.place) (all_inserted r qs one h)
  where
    by : (b : Bool) → AllByRecursion IsEvenPadding (inserted r qs) → AllByRecursion IsEvenPadding (if b then r ∷ q ∷ qs else q ∷ inserted r qs)
    by true more = (one, (own, h))
    by false more = (own, more)

all_padded : (c : Contents) (rs : List Relocation) → list_all (is_padding true c) rs ≡ true → AllByRecursion IsEvenPadding (by_place (filter has_padding rs))
all_padded c [] e = tt
all_padded c (r ∷ rs) e =
    let both = and_parts (is_padding true c r) (list_all (is_padding true c) rs) e in
    by (has_padding r) refl both.0 (all_padded c rs both.1)
  where
    by : (b : Bool) → has_padding r ≡ b → is_padding true c r ≡ true → AllByRecursion IsEvenPadding (by_place (filter has_padding rs))
        → AllByRecursion IsEvenPadding (by_place (cond b (r ∷ filter has_padding rs) (filter has_padding rs)))
    by true is own more = all_inserted r (by_place (filter has_padding rs)) (relocation_even c r own is) more
    by false is own more = more

pub section_padded : (s : Section) → are_paddings s.executable s.contents s.relocations ≡ true → AllByRecursion IsEvenPadding (alignments_of s)
section_padded s e = by s.loaded s.executable (and_parts (list_all (is_padding s.executable s.contents) s.relocations) (not s.executable || are_all_apart s.relocations) e).0
  where
    by : (l x : Bool) → list_all (is_padding x s.contents) s.relocations ≡ true → AllByRecursion IsEvenPadding (if l && x then by_place (filter has_padding s.relocations) else [])
    by true true h = all_padded s.contents s.relocations h
    by true false h = tt
    by false x h = tt

-- ---- the entry

module _ (starts : Starts) (file : ℕ) (o : Object) (sound : IsSound o) (even : AllByRecursion (StartsEven starts) (inputs_from goes_to_text file o 0 o.sections)) where
  definition_even : (d : Definition) → can_begin o d ≡ true → (a : ℕ) → defined_address (starts file) o d ≡ Some a → a % 2 ≡ 0
  definition_even definitions.Undefined e a is = absurd (cc)
  definition_even (definitions.Absolute n) e a is = absurd (cc)
  definition_even (definitions.Skipped n) e a is = absurd (cc)
  definition_even (definitions.InSection section offset) e a is =
      let both = and_parts (is_in_text (slice_get o.sections section)) (offset % 2 == 0) e in
      go (slice_get o.sections section) refl both.0 (eqb-true (offset % 2) 0 both.1) is
    where
      address : (x : Section) → slice_get o.sections section ≡ Some x → goes_to_text x ≡ true → offset % 2 ≡ 0 → ((starts file section + new_offset (moves (starts file section) x) offset) % 2 ^ 64) % 2 ≡ 0
      address x at text whole =
          let begin : starts file section % 2 ≡ 0 = found_in goes_to_text (StartsEven starts) file o section x at text even in
          let padded = section_padded x (each_get (λ y. IsTrue (are_paddings y.executable y.contents y.relocations)) o.sections section x sound.paddings at) in
          let left : new_offset (moves (starts file section) x) offset % 2 ≡ 0 = minus_even offset (dropped (moves (starts file section) x) offset) whole (dropped_even (starts file section) 0 offset (alignments_of x) padded whole) in
          omega (arith, begin, left)

      by : (x : Section) → slice_get o.sections section ≡ Some x → goes_to_text x ≡ true → offset % 2 ≡ 0 → (b : Bool)
          → (if b then Some ((starts file section + new_offset (moves (starts file section) x) offset) % 2 ^ 64) else None) ≡ Some a → a % 2 ≡ 0
      by x at text whole true is =
          let same : (starts file section + new_offset (moves (starts file section) x) offset) % 2 ^ 64 ≡ a = cc in
          ap (λ n. n % 2) (sym same) ∙ address x at text whole
      by x at text whole false is = absurd (cc)

      go : (f : Option Section) → slice_get o.sections section ≡ f → is_in_text f ≡ true → offset % 2 ≡ 0 → offset_address (starts file section) offset f ≡ Some a → a % 2 ≡ 0
      go None at text whole is = absurd (cc)
      go (Some x) at text whole is = by x at text whole x.loaded is

module _ (starts : Starts) where
  -- a file of sound objects, whose text's sections start at even addresses
  abbrev IsEvenFile : ℕ → Object → Type 0
  IsEvenFile file o = IsSound o × AllByRecursion (StartsEven starts) (inputs_from goes_to_text file o 0 o.sections)

  even_files : (file : ℕ) (os : List Object) → AllByRecursion IsSound os → AllByRecursion (StartsEven starts) (inputs_of goes_to_text file os) → OfFiles IsEvenFile file os
  even_files file [] h even = tt
  even_files file (o ∷ os) (sound, h) even = (
    (sound, each_left (StartsEven starts) (inputs_from goes_to_text file o 0 o.sections) (inputs_of goes_to_text (suc file) os) even),
    even_files (suc file) os h (each_right (StartsEven starts) (inputs_from goes_to_text file o 0 o.sections) (inputs_of goes_to_text (suc file) os) even),
  )

  entry_even : (os : List Object) → OfFiles IsEvenFile 1 os → (a : ℕ) → entry_of starts os ≡ Some a → a % 2 ≡ 0
  entry_even os files a is = go (chosen os (codes "_start")) refl is
    where
      by : (e : Export) → IsEvenFile e.file e.object → (b : Bool) → begins_run e ≡ b → (if b then export_address starts e else None) ≡ Some a → a % 2 ≡ 0
      by e (sound, even) true begins is = definition_even starts e.file e.object sound even e.symbol.definition begins a is
      by e own false begins is = absurd (cc)

      go : (f : Option Export) → chosen os (codes "_start") ≡ f → option_and_then (run_start starts) f ≡ Some a → a % 2 ≡ 0
      go None at is = absurd (cc)
      go (Some e) at is = by e (of_chosen IsEvenFile os files (codes "_start") e at) (begins_run e) refl is

pub begins_even : (os : List Object) (start : ℕ) → AllByRecursion IsSound os → BeginsEven os start
begins_even os start h starts stand a is = entry_even starts os (even_files starts 1 os h (all_even starts start (inputs goes_to_text os) (all_begin os h) stand)) a is

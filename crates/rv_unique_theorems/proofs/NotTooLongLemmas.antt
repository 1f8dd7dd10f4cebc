-- Where statements have an object, no section of code is too long.

use Rattle.std.proofs.Common.{◌≡◌, ℕ, ◌+◌, ◌≤◌, Bool, true, false, List, [], ◌∷◌, map, refl, sym, ap, ◌∙◌, subst, arith, Some, None, append-nil}
use Rattle.std.specs.Prelude.{◌==◌, nat_lt, Option, slice_get, if◌then◌else◌}
use Rattle.std.specs.List.{AllByRecursion}
use Rattle.std.proofs.lemmas.Bool.{le-ltb, eq-eqb}
use Rattle.rv_list_laws.proofs.EachLemmas.{each_map}
use Rattle.rv_list_laws.proofs.NumbersLemmas.{eq_swap}
use Rattle.rv_expression_laws.specs.Codes.{limit}
use Rattle.rv_statement_laws.specs.Statement.{Statement}
use Rattle.rv_unit_laws.specs.Sections.{Section}
use Rattle.rv_unit_laws.specs.Tables.{at_start, tables, opened_of, longest_section}
use Rattle.rv_unit_laws.specs.Faults.{StatementFault, at_line}
use Rattle.rv_source_laws.specs.Located.{located_from, located}
use Rattle.rv_source_laws.specs.Sizes.{AreLeast}
use Rattle.rv_object_laws.specs.Object.{Object}
use Rattle.rv_assemble_laws.specs.Refusals.{AreCodeSizes, grown, size_fault_from, IsTooLong}
use Rattle.rv_assemble_laws.specs.LaidStatements.{LaidStatement, laid_in, end_of}
use Rattle.rv_assemble_laws.specs.IsObjectOf.{IsObjectOf}
use Rattle.rv_unique_theorems.proofs.CodeSizesLemmas.{one_code_sizes}
use Rattle.rv_unique_theorems.proofs.PairsLemmas.{IsHome}
use Rattle.rv_unique_theorems.proofs.SaidLemmas.{code_bytes, in_code, in_data, at_home, section_in, said_in, sizes_of_code, least_of_code}

-- the end of statements by the bytes that they have in sections of code
abbrev code_end : ℕ → List LaidStatement → ℕ
code_end offset [] = offset
code_end offset (s ∷ ss) = code_end (offset + code_bytes s) ss

behind : (offset : ℕ) (ss : List LaidStatement) → offset ≤ code_end offset ss
behind offset [] = omega arith
behind offset (s ∷ ss) = let rest = behind (offset + code_bytes s) ss in omega (arith, rest)

-- ---- one section

abbrev At : Section → LaidStatement → Type 0
At home s = s.located.home ≡ home

end_of_code : (home : Section) → home.executable ≡ true → (offset : ℕ) (ss : List LaidStatement) → AllByRecursion (At home) ss → code_end offset ss ≡ end_of offset ss
end_of_code home code offset [] h = refl
end_of_code home code offset (s ∷ ss) (at, h) =
    let whole : code_bytes s ≡ s.bytes = in_code s.located.home.executable s.bytes (ap (λ (z : Section). z.executable) at ∙ code) in
    ap (λ n. code_end (offset + n) ss) whole ∙ end_of_code home code (offset + s.bytes) ss h

end_of_data : (home : Section) → home.executable ≡ false → (offset : ℕ) (ss : List LaidStatement) → AllByRecursion (At home) ss → code_end offset ss ≡ offset
end_of_data home outside offset [] h = refl
end_of_data home outside offset (s ∷ ss) (at, h) =
    let none : code_bytes s ≡ 0 = in_data s.located.home.executable s.bytes (ap (λ (z : Section). z.executable) at ∙ outside) in
    let here : offset + code_bytes s ≡ offset = omega (arith, none) in
    end_of_data home outside (offset + code_bytes s) ss h ∙ here

-- ---- no fault of sizes

-- the statements to come fit behind so many bytes in each section
abbrev Fit : List Section → (ℕ → ℕ) → List LaidStatement → Type 0
Fit sections before ss = (j : ℕ) (home : Section) → slice_get sections j ≡ Some home → code_end (before j) (laid_in j ss) ≤ longest_section

no_fault : (n line : ℕ) (rest : Option StatementFault) → n ≤ longest_section → at_line line (if nat_lt longest_section n then Some limit else None) rest ≡ rest
no_fault n line rest le = ap (λ b. at_line line (if b then Some limit else None) rest) (le-ltb longest_section n le)

-- the end of a section in which the first statement stands, or does not
abbrev next : Bool → ℕ → LaidStatement → List LaidStatement → ℕ
next b before s ss = code_end before (if b then s ∷ ss else ss)

next_is : (b c : Bool) → b ≡ c → (before : ℕ) (s : LaidStatement) (ss : List LaidStatement) → code_end (if c then before + code_bytes s else before) ss ≡ next b before s ss
next_is true true e before s ss = refl
next_is true false e before s ss = absurd (cc)
next_is false true e before s ss = absurd (cc)
next_is false false e before s ss = refl

fits : (sections : List Section) (before : ℕ → ℕ) (ss : List LaidStatement) → AllByRecursion (IsHome sections) ss → Fit sections before ss
    → size_fault_from before (map (λ s. s.located) ss) (map code_bytes ss) ≡ None
fits sections before [] homes fit = refl
fits sections before (s ∷ ss) (home, homes) fit =
    let k = s.located.section in
    let n = code_bytes s in
    let own : next (k == k) (before k) s (laid_in k ss) ≤ longest_section = fit k s.located.home home in
    let whole : code_end (before k + n) (laid_in k ss) ≤ longest_section = subst (λ b. next b (before k) s (laid_in k ss) ≤ longest_section) (eq-eqb k k refl) own in
    let here : before k + n ≤ longest_section = (let more = behind (before k + n) (laid_in k ss) in omega (arith, whole, more)) in
    let others : Fit sections (grown before k n) ss =
    λ j there at. subst (λ e. e ≤ longest_section) (sym (next_is (k == j) (j == k) (eq_swap k j) (before j) s (laid_in j ss))) (fit j there at) in
    no_fault (before k + n) s.located.line (size_fault_from (grown before k n) (map (λ z. z.located) ss) (map code_bytes ss)) here
    ∙ fits sections (grown before k n) ss homes others

-- ---- the law

module _ (ss : List Statement) (o : Object) (h : IsObjectOf ss o) where
  short_by : (home : Section) (code : Bool) → home.executable ≡ code → (laid : List LaidStatement) → AllByRecursion (At home) laid
      → (home.executable ≡ true → end_of 0 laid ≤ longest_section) → code_end 0 laid ≤ longest_section
  short_by home true e laid all short = subst (λ n. n ≤ longest_section) (sym (end_of_code home e 0 laid all)) (short e)
  short_by home false e laid all short = let none = end_of_data home e 0 laid all in omega (arith, none)

  all_fit : Fit (opened_of (tables ss)).sections (λ j. 0) h.laid
  all_fit j home at =
      short_by home home.executable refl (laid_in j h.laid)
      (each_map _ _ (laid_in j h.laid) (λ s k. k.0) (said_in ss o h j home at)) (section_in ss o h j home at).1.short

  abbrev sizes : List ℕ
  sizes = map code_bytes h.laid

  no_long_code : size_fault_from (λ j. 0) (located_from 1 1 (at_start ss) ss) sizes ≡ None
  no_long_code = subst (λ l. size_fault_from (λ j. 0) l sizes ≡ None) h.located (fits (opened_of (tables ss)).sections (λ j. 0) h.laid (at_home ss o h) all_fit)

  pub not_too_long : (f : StatementFault) → IsTooLong ss f → ⊥
  not_too_long f long =
      let ls = located_from 1 1 (at_start ss) ss in
      let one_file : located (ss ∷ []) ≡ ls = append-nil ls in
      let same : long.sizes ≡ sizes =
      one_code_sizes (tables ss) ls long.sizes sizes (subst (λ l. AreCodeSizes (tables ss) l long.sizes) one_file long.are_sizes) (sizes_of_code ss o h)
      (subst (λ l. AreLeast (tables ss) l long.sizes) one_file long.least) (least_of_code ss o h) in
      let none : size_fault_from (λ j. 0) (located (ss ∷ [])) long.sizes ≡ None =
      ap (λ l. size_fault_from (λ j. 0) l long.sizes) one_file ∙ ap (size_fault_from (λ j. 0) ls) same ∙ no_long_code in
      absurd (let clash : Some f ≡ None = sym long.fault ∙ none in cc)

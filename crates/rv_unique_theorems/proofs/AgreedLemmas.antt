-- Sections that stand one behind another stand so in one way.

use Rattle.std.proofs.Common.{◌≡◌, ℕ, suc, ◌+◌, ◌-◌, Bool, true, List, [], ◌∷◌, ◌++◌, refl, sym, ap, ◌∙◌, subst, Some, inl, inr}
use Rattle.std.specs.Prelude.{◌⊎◌, nat_lt, if◌then◌else◌}
use Rattle.std.specs.List.{AllByRecursion, slice_get}
use Rattle.rv_list_laws.proofs.EachLemmas.{each_left, each_right}
use Rattle.rv_list_laws.proofs.TruthLemmas.{one_case_of_four}
use Rattle.rv_size_laws.specs.Alignment.{aligned}
use Rattle.rv_isa_laws.specs.Bytes.{zeros}
use Rattle.rv_map_laws.specs.declared.map.Region.{Region}
use Rattle.rv_object_laws.specs.Object.{Section, Object, size_of}
use Rattle.rv_link_laws.specs.Moves.{moves, new_offset}
use Rattle.rv_link_laws.specs.Inputs.{Starts, InputSection, has_no_bytes, goes_to_text, goes_to_rodata, goes_to_data, goes_to_bss, inputs_from, inputs_of, inputs, start_of, size, Stand, sections_end, Holds, gaps_of, greatest, contents}
use Rattle.rv_unique_theorems.proofs.FoundLemmas.{found_in}
use Rattle.rv_unique_theorems.proofs.ExportsLemmas.{OfFiles}

-- ---- sections of one region

module _ (s t : Starts) where
  abbrev pub StartsSame : InputSection → Type 0
  StartsSame i = start_of s i ≡ start_of t i

  pub stand_same : (stop : ℕ) (is : List InputSection) → Stand s stop is → Stand t stop is → AllByRecursion StartsSame is × (sections_end s stop is ≡ sections_end t stop is)
  stand_same stop [] h k = (tt, refl)
  stand_same stop (i ∷ is) (a, h) (b, k) =
      let same : start_of s i ≡ start_of t i = a ∙ sym b in
      let stops : start_of s i + size s i ≡ start_of t i + size t i = ap (λ n. n + new_offset (moves n i.section) (size_of i.section.contents)) same in
      let more = stand_same (start_of s i + size s i) is h (subst (λ n. Stand t n is) (sym stops) k) in
      ((same, more.0), more.1 ∙ ap (λ n. sections_end t n is) stops)

  pub gaps_same : (stop : ℕ) (is : List InputSection) → AllByRecursion StartsSame is → gaps_of s stop is ≡ gaps_of t stop is
  gaps_same stop [] h = refl
  gaps_same stop (i ∷ is) (same, h) =
      ap (λ n. with n (gaps_of s (n + new_offset (moves n i.section) (size_of i.section.contents)) is)) same
      ∙ ap (with (start_of t i)) (gaps_same (start_of t i + size t i) is h)
    where
      with : ℕ → List Region → List Region
      with n rest = if nat_lt stop n then record { start = stop; end = n } ∷ rest else rest

  pub contents_same : (bytes other : InputSection → List ℕ) (stop : ℕ) (is : List InputSection) → AllByRecursion StartsSame is → AllByRecursion (λ i. bytes i ≡ other i) is
      → contents bytes s stop is ≡ contents other t stop is
  contents_same bytes other stop [] h k = refl
  contents_same bytes other stop (i ∷ is) (same, h) (own, k) =
      ap (λ n. zeros (n - stop) ++ (bytes i ++ contents bytes s (n + new_offset (moves n i.section) (size_of i.section.contents)) is)) same
      ∙ ap (λ l. zeros (start_of t i - stop) ++ (l ++ contents bytes s (start_of t i + size t i) is)) own
      ∙ ap (λ l. zeros (start_of t i - stop) ++ (other i ++ l)) (contents_same bytes other (start_of t i + size t i) is h k)

  pub holds_same : (r q : Region) (place : ℕ) (is : List InputSection) → Holds s r place is → Holds t q place is → AllByRecursion StartsSame is × (r ≡ q)
  holds_same r q place is (a, h, e) (b, k, f) =
      let both = stand_same place is h k in
      (both.0, ap (λ n. region n r.end) (a ∙ sym b) ∙ ap (region q.start) (e ∙ both.1 ∙ sym f))
    where
      region : ℕ → ℕ → Region
      region start stop = record { start = start; end = stop }

-- ---- all regions

-- sections stand in their regions
pub record AreLaid (os : List Object) (first : ℕ) (starts : Starts) (text rodata variables bss : Region) : Type 0 where
  pub in_text : Holds starts text first (inputs goes_to_text os)
  pub in_rodata : Holds starts rodata (aligned 4096 text.end) (inputs goes_to_rodata os)
  pub in_data : Holds starts variables (aligned 4096 rodata.end) (inputs goes_to_data os)
  pub in_bss : Holds starts bss (aligned (greatest (inputs goes_to_bss os)) variables.end) (inputs goes_to_bss os)

-- the loaded sections of a file start where they do
abbrev pub IsAgreed : Starts → Starts → ℕ → Object → Type 0
IsAgreed s t file o = (index : ℕ) (x : Section) → slice_get o.sections index ≡ Some x → x.loaded ≡ true → s file index ≡ t file index

abbrev pub AreAgreed : Starts → Starts → ℕ → List Object → Type 0
AreAgreed s t = OfFiles (IsAgreed s t)

module _ (s t : Starts) where
  all_agree : (file : ℕ) (os : List Object) → AllByRecursion (StartsSame s t) (inputs_of goes_to_text file os) → AllByRecursion (StartsSame s t) (inputs_of goes_to_rodata file os)
      → AllByRecursion (StartsSame s t) (inputs_of goes_to_data file os) → AllByRecursion (StartsSame s t) (inputs_of goes_to_bss file os) → AreAgreed s t file os
  all_agree file [] a b c d = tt
  all_agree file (o ∷ os) a b c d = (own, all_agree (suc file) os (right goes_to_text a) (right goes_to_rodata b) (right goes_to_data c) (right goes_to_bss d))
    where
      left : (goes : Section → Bool) → AllByRecursion (StartsSame s t) (inputs_of goes file (o ∷ os)) → AllByRecursion (StartsSame s t) (inputs_from goes file o 0 o.sections)
      left goes h = each_left (StartsSame s t) (inputs_from goes file o 0 o.sections) (inputs_of goes (suc file) os) h

      right : (goes : Section → Bool) → AllByRecursion (StartsSame s t) (inputs_of goes file (o ∷ os)) → AllByRecursion (StartsSame s t) (inputs_of goes (suc file) os)
      right goes h = each_right (StartsSame s t) (inputs_from goes file o 0 o.sections) (inputs_of goes (suc file) os) h

      own : IsAgreed s t file o
      own index x at loaded = by (one_case_of_four x.loaded x.executable (has_no_bytes x.contents) x.writable loaded)
        where
          by : (goes_to_text x ≡ true) ⊎ ((goes_to_rodata x ≡ true) ⊎ ((goes_to_data x ≡ true) ⊎ (goes_to_bss x ≡ true))) → s file index ≡ t file index
          by (inl e) = found_in goes_to_text (StartsSame s t) file o index x at e (left goes_to_text a)
          by (inr (inl e)) = found_in goes_to_rodata (StartsSame s t) file o index x at e (left goes_to_rodata b)
          by (inr (inr (inl e))) = found_in goes_to_data (StartsSame s t) file o index x at e (left goes_to_data c)
          by (inr (inr (inr e))) = found_in goes_to_bss (StartsSame s t) file o index x at e (left goes_to_bss d)

-- where they start, and the regions
pub record AreOne (os : List Object) (s t : Starts) (text text' rodata rodata' variables variables' bss bss' : Region) : Type 0 where
  pub in_text : AllByRecursion (StartsSame s t) (inputs goes_to_text os)
  pub in_rodata : AllByRecursion (StartsSame s t) (inputs goes_to_rodata os)
  pub in_data : AllByRecursion (StartsSame s t) (inputs goes_to_data os)
  pub agreed : AreAgreed s t 1 os
  pub same_text : text ≡ text'
  pub same_rodata : rodata ≡ rodata'
  pub same_data : variables ≡ variables'
  pub same_bss : bss ≡ bss'

pub laid_same : (os : List Object) (first : ℕ) (s t : Starts) (text text' rodata rodata' variables variables' bss bss' : Region)
    → AreLaid os first s text rodata variables bss → AreLaid os first t text' rodata' variables' bss' → AreOne os s t text text' rodata rodata' variables variables' bss bss'
laid_same os first s t text text' rodata rodata' variables variables' bss bss' h k =
    let a = holds_same s t text text' first (inputs goes_to_text os) h.in_text k.in_text in
    let b = holds_same s t rodata rodata' (aligned 4096 text.end) (inputs goes_to_rodata os) h.in_rodata (subst (λ r. Holds t rodata' (aligned 4096 r.end) (inputs goes_to_rodata os)) (sym a.1) k.in_rodata) in
    let c = holds_same s t variables variables' (aligned 4096 rodata.end) (inputs goes_to_data os) h.in_data (subst (λ r. Holds t variables' (aligned 4096 r.end) (inputs goes_to_data os)) (sym b.1) k.in_data) in
    let d = holds_same s t bss bss' (aligned (greatest (inputs goes_to_bss os)) variables.end) (inputs goes_to_bss os) h.in_bss (subst (λ r. Holds t bss' (aligned (greatest (inputs goes_to_bss os)) r.end) (inputs goes_to_bss os)) (sym c.1) k.in_bss) in
    record {
      in_text = a.0;
      in_rodata = b.0;
      in_data = c.0;
      agreed = all_agree s t 1 os a.0 b.0 c.0 d.0;
      same_text = a.1;
      same_rodata = b.1;
      same_data = c.1;
      same_bss = d.1;
    }

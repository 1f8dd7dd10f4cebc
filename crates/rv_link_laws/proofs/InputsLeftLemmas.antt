-- The input sections of what is left are those that are not dropped.

use Rattle.std.proofs.Common.{◌≡◌, ℕ, suc, Bool, true, false, not, List, [], ◌∷◌, ◌++◌, map, filter, refl, sym, ap, ◌∙◌}
use Rattle.std.specs.Prelude.{if◌then◌else◌}
use Rattle.std.proofs.lemmas.List.{map-append}
use Rattle.std.proofs.lemmas.List.Elements.{filter-append}
use Rattle.rv_map_laws.specs.declared.map.SectionId.{SectionId}
use Rattle.rv_map_laws.specs.Regions.{is_text, is_bss, is_data, is_rodata}
use Rattle.rv_collect_laws.specs.Graph.{is_dropped}
use Rattle.rv_object_laws.specs.Object.{Section, Object}
use Rattle.rv_link_laws.specs.Inputs.{InputSection, has_no_bytes, goes_to_text, goes_to_bss, goes_to_data, goes_to_rodata, inputs_from, inputs_of, inputs}
use Rattle.rv_link_laws.specs.IsLinkOf.{is_loaded}
use Rattle.rv_link_laws.specs.Left.{IsOfLoaded, is_left, left_of}
use Rattle.rv_link_laws.specs.Without.{without_section, without_sections, without_object, without_from, without}

-- ---- tests that only sections with an address pass

pub loaded_is : IsOfLoaded is_loaded
loaded_is s e = e

pub text_is : IsOfLoaded goes_to_text
text_is s e = ap (λ b. is_text b s.executable) e

pub rodata_is : IsOfLoaded goes_to_rodata
rodata_is s e = ap (λ b. is_rodata b s.executable (has_no_bytes s.contents) s.writable) e

pub data_is : IsOfLoaded goes_to_data
data_is s e = ap (λ b. is_data b s.executable (has_no_bytes s.contents) s.writable) e

pub bss_is : IsOfLoaded goes_to_bss
bss_is s e = ap (λ b. is_bss b s.executable (has_no_bytes s.contents)) e

-- ---- the sections that are left

module _ (goes : Section → Bool) (off : IsOfLoaded goes) (drops : List SectionId) where
  -- of an object
  pub inputs_left_from : (file : ℕ) (o : Object) (k : ℕ) (ss : List Section)
      → inputs_from goes file (without_object (is_dropped drops file) o) k (without_sections (is_dropped drops file) k ss) ≡ map (left_of drops) (filter (is_left drops) (inputs_from goes file o k ss))
  inputs_left_from file o k [] = refl
  inputs_left_from file o k (s ∷ ss) = by (is_dropped drops file k) (goes s) refl refl (inputs_left_from file o (suc k) ss)
    where
      mine : Bool → InputSection
      mine b = record { file = file; object = without_object (is_dropped drops file) o; index = k; section = without_section b s }

      it : InputSection
      it = record { file = file; object = o; index = k; section = s }

      more : List InputSection
      more = inputs_from goes file o (suc k) ss

      rest : List InputSection
      rest = inputs_from goes file (without_object (is_dropped drops file) o) (suc k) (without_sections (is_dropped drops file) (suc k) ss)

      kept : List InputSection
      kept = filter (is_left drops) more

      by : (b c : Bool) → is_dropped drops file k ≡ b → goes s ≡ c → rest ≡ map (left_of drops) kept
          → (if goes (without_section b s) then mine b ∷ rest else rest) ≡ map (left_of drops) (filter (is_left drops) (if c then it ∷ more else more))
      by true true e g h =
          ap (λ x. if x then mine true ∷ rest else rest) (off (without_section true s) refl) ∙ h ∙ sym (ap (λ x. map (left_of drops) (if not x then it ∷ kept else kept)) e)
      by true false e g h = ap (λ x. if x then mine true ∷ rest else rest) (off (without_section true s) refl) ∙ h
      by false true e g h =
          ap (λ x. if x then mine false ∷ rest else rest) g ∙ ap (λ l. mine false ∷ l) h ∙ sym (ap (λ x. map (left_of drops) (if not x then it ∷ kept else kept)) e)
      by false false e g h = ap (λ x. if x then mine false ∷ rest else rest) g ∙ h

  -- of files from a number on
  pub inputs_left_of : (file : ℕ) (os : List Object) → inputs_of goes file (without_from drops file os) ≡ map (left_of drops) (filter (is_left drops) (inputs_of goes file os))
  inputs_left_of file [] = refl
  inputs_left_of file (o ∷ os) =
      let own = inputs_from goes file o 0 o.sections in
      let others = inputs_of goes (suc file) os in
      ap (λ l. l ++ inputs_of goes (suc file) (without_from drops (suc file) os)) (inputs_left_from file o 0 o.sections)
      ∙ ap (λ l. map (left_of drops) (filter (is_left drops) own) ++ l) (inputs_left_of (suc file) os)
      ∙ sym (map-append (left_of drops) (filter (is_left drops) own) (filter (is_left drops) others))
      ∙ ap (map (left_of drops)) (sym (filter-append (is_left drops) own others))

  -- of all objects
  pub inputs_left : (os : List Object) → inputs goes (without drops os) ≡ map (left_of drops) (filter (is_left drops) (inputs goes os))
  inputs_left os = inputs_left_of 1 os

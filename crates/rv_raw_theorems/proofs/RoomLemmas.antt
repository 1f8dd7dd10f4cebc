-- A raw listing's object has room: it has no paddings, and its bytes end below the stack.

use Rattle.std.proofs.Common.{◌≡◌, ℕ, ◌+◌, ◌-◌, ◌*◌, ◌/◌, ◌<◌, ◌⊎◌, Bool, true, false, not, [], ◌∷◌, refl, sym, ◌∙◌, ap, subst, arith, inl, inr}
use Rattle.std.specs.Prelude.{◌&&◌, IsTrue}
use Rattle.std.specs.List.{AllByRecursion, list_all}
use Rattle.rv_isa_laws.specs.Platform.{stack_start, memory_limit}
use Rattle.rv_size_laws.specs.Alignment.{aligned}
use Rattle.rv_map_laws.specs.declared.map.Region.{Region}
use Rattle.rv_object_laws.specs.Object.{Section, Object, size_of}
use Rattle.rv_link_laws.specs.Ground.{usual}
use Rattle.rv_link_laws.specs.Inputs.{Starts, InputSection, has_no_bytes, goes_to_text, goes_to_rodata, goes_to_data, goes_to_bss, inputs, start_of, Holds, greatest}
use Rattle.rv_link_laws.specs.Moves.{moves, has_room}
use Rattle.rv_link_laws.specs.Refusals.{LacksRoom}
use Rattle.rv_link_laws.specs.Layout.{memory_of, IsTooLarge}
use Rattle.rv_raw_theorems.proofs.LeavesLemmas.{input, inputs_none}
use Rattle.rv_raw_theorems.proofs.LoneSectionLemmas.{IsSimple, unmoved, stays, at_start, text_inputs}

module _ (o : Object) (start : ℕ) (h : IsSimple o start) where
  pub roomy : LacksRoom (o ∷ []) start → ⊥
  roomy (starts, stand, lacking) = lacking (subst (AllByRecursion Room) (sym (text_inputs o start h)) (subst (λ ms. IsTrue (list_all has_room ms)) (sym (unmoved o start h (start_of starts (input o h.section h.alone)))) refl, tt))
    where
      Room : InputSection → Type 0
      Room i = IsTrue (list_all has_room (moves (start_of starts i) i.section))

  -- ---- all of it

  no_rodata : goes_to_rodata h.section ≡ false
  no_rodata =
      ap (λ b. b && not h.section.executable && not (has_no_bytes h.section.contents) && not h.section.writable) h.loaded
      ∙ ap (λ b. true && not b && not (has_no_bytes h.section.contents) && not h.section.writable) h.executable

  no_data : goes_to_data h.section ≡ false
  no_data =
      ap (λ b. b && not h.section.executable && not (has_no_bytes h.section.contents) && h.section.writable) h.loaded
      ∙ ap (λ b. true && not b && not (has_no_bytes h.section.contents) && h.section.writable) h.executable

  no_bss : goes_to_bss h.section ≡ false
  no_bss =
      ap (λ b. b && not h.section.executable && has_no_bytes h.section.contents) h.loaded ∙ ap (λ b. true && not b && has_no_bytes h.section.contents) h.executable

  abbrev bytes : ℕ
  bytes = size_of h.section.contents

  abbrev page : ℕ
  page = aligned 4096 (start + size_of h.section.contents)

  abbrev there : Starts
  there file index = start

  abbrev code : Region
  code = record { start = start; end = start + size_of h.section.contents }

  abbrev empty : Region
  empty = record { start = aligned 4096 (start + size_of h.section.contents); end = aligned 4096 (start + size_of h.section.contents) }

  holds_code : Holds there code start (inputs goes_to_text (o ∷ []))
  holds_code =
      subst (Holds there code start) (sym (text_inputs o start h))
      (refl, (sym (at_start o start h), tt), ap (λ n. start + n) (sym (stays o start h start (size_of h.section.contents))))

  none_behind : (goes : Section → Bool) → goes h.section ≡ false → (place : ℕ) → place ≡ page → Holds there empty place (inputs goes (o ∷ []))
  none_behind goes e place same = subst (Holds there empty place) (sym (inputs_none o h.section h.alone goes e)) (sym same, tt, sym same)

  again : aligned 4096 page ≡ page
  again = let n = start + size_of h.section.contents in let e : ((n + (4096 - 1)) / 4096 * 4096 + (4096 - 1)) / 4096 * 4096 ≡ (n + (4096 - 1)) / 4096 * 4096 = omega arith in e

  by_one : aligned (greatest (inputs goes_to_bss (o ∷ []))) page ≡ page
  by_one = ap (λ is. aligned (greatest is) page) (inputs_none o h.section h.alone goes_to_bss no_bss) ∙ (let e : (page + (1 - 1)) / 1 * 1 ≡ page = omega arith in e)

  pub not_too_large : IsTooLarge (o ∷ []) (usual start) → ⊥
  not_too_large large = by (large there code empty empty empty holds_code (none_behind goes_to_rodata no_rodata page refl) (none_behind goes_to_data no_data (aligned 4096 page) again) (none_behind goes_to_bss no_bss (aligned (greatest (inputs goes_to_bss (o ∷ []))) page) by_one))
    where
      by : (stack_start < page) ⊎ (memory_limit < memory_of code empty empty empty) → ⊥
      by (inl past) = let fits = h.fits in absurd (omega (arith, past, fits))
      by (inr past) = let small = h.small in absurd (omega (arith, past, small))

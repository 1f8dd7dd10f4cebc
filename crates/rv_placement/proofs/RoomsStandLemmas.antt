-- Whether the text's paddings have room, wherever its sections stand one behind the other.

use Rattle.std.proofs.Common.{suc, ◌≡◌, ◌+◌, ℕ, Bool, true, false, List, [], ◌∷◌, ◌++◌, map, refl, sym, ap, ◌∙◌}
use Rattle.std.specs.Prelude.{if◌then◌else◌, ◌&&◌}
use Rattle.std.specs.List.{AllByRecursion, list_all}
use Rattle.rv_list_laws.proofs.EachLemmas.{all_to_true, all_from_true}
use Rattle.rv_object_laws.specs.Object.{Section, Object}
use Rattle.rv_object_laws.specs.Valid.{is_section_alignment}
use Rattle.rv_link_laws.specs.Moves.{moves, has_room}
use Rattle.rv_link_laws.specs.Inputs.{Starts, InputSection, goes_to_text, inputs, inputs_from, inputs_of, size, Stand}
use Rattle.rv_link_laws.specs.Layout.{AreRoomy, HasRoom}
use Rattle.rv_shorten.specs.declared.section.ShortSection.{ShortSection}
use Rattle.rv_shorten.specs.declared.object.ShortObject.{ShortObject}
use Rattle.rv_shorten.specs.Sections.{short_section_of}
use Rattle.rv_shorten.specs.View.{short_object_of}
use Rattle.rv_relax.specs.Plan.{are_roomy_objects, is_roomy}
use Rattle.rv_placement.specs.declared.placement.Placement.{Placement}
use Rattle.rv_placement.specs.Placement.{starts_of, are_roomy, IsPlacement}
use Rattle.rv_placement.proofs.AlignedLemmas.{moves_still}
use Rattle.rv_placement.proofs.RoomsLemmas.{room, and_assoc, are_rooms}
use Rattle.rv_placement.proofs.StandingLemmas.{moves_other}

-- ---- wherever they stand

abbrev AreAligned : List Section → Type 0
AreAligned ss = AllByRecursion (λ s. is_section_alignment s.alignment ≡ true) ss

other_roomy : (s : Section) → goes_to_text s ≡ false → is_roomy s ≡ true
other_roomy s e = ap (list_all has_room) (moves_other s 0 e)

module _ (starts : Starts) where
  in_file : (file : ℕ) (o : Object) (index stop : ℕ) (ss : List Section) (rest : List InputSection) → AreAligned ss → Stand starts stop (inputs_from goes_to_text file o index ss ++ rest)
      → (list_all (room starts) (inputs_from goes_to_text file o index ss ++ rest) ≡ (list_all is_roomy ss && list_all (room starts) rest)) × ((n : ℕ) × Stand starts n rest)
  in_file file o index stop [] rest powers h = (refl, (stop, h))
  in_file file o index stop (s ∷ ss) rest (power, powers) h = go (inputs_from goes_to_text file o (suc index) ss) (goes_to_text s) refl h (λ n stand. in_file file o (suc index) n ss rest powers stand)
    where
      go : (more : List InputSection) (b : Bool) → goes_to_text s ≡ b → Stand starts stop ((if b then record { file = file; object = o; index = index; section = s } ∷ more else more) ++ rest)
          → ((n : ℕ) → Stand starts n (more ++ rest) → (list_all (room starts) (more ++ rest) ≡ (list_all is_roomy ss && list_all (room starts) rest)) × ((n : ℕ) × Stand starts n rest))
          → (list_all (room starts) ((if b then record { file = file; object = o; index = index; section = s } ∷ more else more) ++ rest) ≡ ((is_roomy s && list_all is_roomy ss) && list_all (room starts) rest))
          × ((n : ℕ) × Stand starts n rest)
      go more true e h others =
          let both = others (starts file index + size starts (record { file = file; object = o; index = index; section = s })) h.1 in
          let one : list_all has_room (moves (starts file index) s) ≡ is_roomy s = ap (list_all has_room) (moves_still (starts file index) stop s power h.0) in (
            ap (λ b. b && list_all (room starts) (more ++ rest)) one ∙ ap (λ b. is_roomy s && b) both.0 ∙ and_assoc (is_roomy s) (list_all is_roomy ss) (list_all (room starts) rest),
            both.1,
          )
      go more false e h others =
          let both = others stop h in
          (both.0 ∙ ap (λ b. (b && list_all is_roomy ss) && list_all (room starts) rest) (sym (other_roomy s e)), both.1)

  in_files : (file stop : ℕ) (os : List Object) → AllByRecursion (λ o. AreAligned o.sections) os → Stand starts stop (inputs_of goes_to_text file os)
      → list_all (room starts) (inputs_of goes_to_text file os) ≡ are_roomy_objects os
  in_files file stop [] powers h = refl
  in_files file stop (o ∷ os) (power, powers) h =
      let both = in_file file o 0 stop o.sections (inputs_of goes_to_text (suc file) os) power h in
      both.0 ∙ ap (λ b. list_all is_roomy o.sections && b) (in_files (suc file) both.1.0 os powers both.1.1)

-- ---- objects of the code

are_aligned : (xs : List ShortSection) → AreAligned (map short_section_of xs)
are_aligned [] = tt
are_aligned (x ∷ xs) = (x.whole.now.aligned, are_aligned xs)

all_aligned : (os : List ShortObject) → AllByRecursion (λ o. AreAligned o.sections) (map short_object_of os)
all_aligned [] = tt
all_aligned (o ∷ os) = (are_aligned o.sections.items, all_aligned os)

module _ (objects : List ShortObject) (start : ℕ) where
  abbrev os : List Object
  os = map short_object_of objects

  rooms : (starts : Starts) → Stand starts start (inputs goes_to_text os) → list_all (room starts) (inputs goes_to_text os) ≡ are_roomy_objects os
  rooms starts h = in_files starts 1 start os (all_aligned objects) h

  pub has_room_anywhere : are_roomy_objects os ≡ true → HasRoom os start
  has_room_anywhere e starts h = all_to_true (room starts) (inputs goes_to_text os) (rooms starts h ∙ e)

  pub lacks_room_anywhere : are_roomy_objects os ≡ false → (starts : Starts) → Stand starts start (inputs goes_to_text os) → AreRoomy os starts → ⊥
  lacks_room_anywhere e starts h roomies =
      let all : list_all (room starts) (inputs goes_to_text os) ≡ true = all_from_true (room starts) (inputs goes_to_text os) roomies in
      let none : list_all (room starts) (inputs goes_to_text os) ≡ false = rooms starts h ∙ e in
      absurd (cc)

  pub placed_roomy : are_roomy_objects os ≡ true → (ceiling : ℕ) (p : Placement) → IsPlacement os (record { text = start; ceiling = ceiling }) p → are_roomy p ≡ true
  placed_roomy e ceiling p is = (are_rooms os (record { text = start; ceiling = ceiling }) p is (are_roomy p) refl).1 (has_room_anywhere e (starts_of p) is.laid.text.1)

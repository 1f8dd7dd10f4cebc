-- The placed paddings have room where those of the text's sections do.

use Rattle.std.proofs.Common.{suc, ◌≡◌, ◌+◌, ◌-◌, ℕ, Bool, true, false, Some, List, [], ◌∷◌, ◌++◌, length, map, refl, sym, ap, ◌∙◌, arith}
use Rattle.std.specs.Prelude.{if◌then◌else◌, ◌&&◌, ◌↔◌}
use Rattle.std.specs.Global.{Vec}
use Rattle.std.specs.List.{list_all, slice_get}
use Rattle.rv_list_laws.proofs.EachLemmas.{all_to_true, all_from_true}
use Rattle.rv_object_laws.specs.Object.{Section, Object}
use Rattle.rv_link_laws.specs.declared.bounds.Ground.{Ground}
use Rattle.rv_link_laws.specs.Moves.{moves, has_room}
use Rattle.rv_link_laws.specs.Inputs.{Starts, InputSection, goes_to_text, inputs, inputs_from, inputs_of, start_of}
use Rattle.rv_link_laws.specs.Layout.{section_in, AreRoomy}
use Rattle.rv_relax.specs.Kept.{moves_of}
use Rattle.rv_placement.specs.declared.placement.PlacedSection.{PlacedSection}
use Rattle.rv_placement.specs.declared.placement.Placement.{Placement}
use Rattle.rv_placement.specs.Placement.{starts_of, start_in, placed_in, placed_at, are_roomy_in, are_roomy, IsPlacement}
use Rattle.rv_placement.proofs.StandingLemmas.{moves_other}

abbrev pub room : Starts → InputSection → Bool
room starts i = list_all has_room (moves (start_of starts i) i.section)

pub and_assoc : (a b c : Bool) → a && (b && c) ≡ (a && b) && c
and_assoc true b c = refl
and_assoc false b c = refl

module _ (starts : Starts) where
  room_file : (file : ℕ) (o : Object) (index : ℕ) (qs : List PlacedSection) (ss : List Section) (rest : List InputSection) → length qs ≡ length ss
      → ((k : ℕ) (s : Section) (q : PlacedSection) → slice_get ss k ≡ Some s → slice_get qs k ≡ Some q → moves_of q.plan.now ≡ moves q.start s)
      → ((k : ℕ) → starts file (index + k) ≡ start_in (slice_get qs k))
      → list_all (room starts) (inputs_from goes_to_text file o index ss ++ rest) ≡ (are_roomy_in qs && list_all (room starts) rest)
  room_file file o index [] [] rest same planned at = refl
  room_file file o index [] (s ∷ ss) rest same planned at = absurd (omega arith)
  room_file file o index (q ∷ qs) [] rest same planned at = absurd (omega arith)
  room_file file o index (q ∷ qs) (s ∷ ss) rest same planned at =
      go (goes_to_text s) refl
      (room_file file o (suc index) qs ss rest (omega arith) (λ k r p e f. planned (suc k) r p e f) (λ k. ap (starts file) (let e : suc index + k ≡ index + suc k = omega arith in e) ∙ at (suc k)))
    where
      here : starts file index ≡ q.start
      here = ap (starts file) (let e : index ≡ index + 0 = omega arith in e) ∙ at 0

      plans : moves_of q.plan.now ≡ moves q.start s
      plans = planned 0 s q refl refl

      go : (b : Bool) → goes_to_text s ≡ b → list_all (room starts) (inputs_from goes_to_text file o (suc index) ss ++ rest) ≡ (are_roomy_in qs && list_all (room starts) rest)
          → list_all (room starts) ((if b then record { file = file; object = o; index = index; section = s } ∷ inputs_from goes_to_text file o (suc index) ss else inputs_from goes_to_text file o (suc index) ss) ++ rest)
          ≡ ((list_all has_room (moves_of q.plan.now) && are_roomy_in qs) && list_all (room starts) rest)
      go true e h =
          let one : list_all has_room (moves (starts file index) s) ≡ list_all has_room (moves_of q.plan.now) = ap (λ n. list_all has_room (moves n s)) here ∙ ap (list_all has_room) (sym plans) in
          ap (λ b. b && list_all (room starts) (inputs_from goes_to_text file o (suc index) ss ++ rest)) one ∙ ap (λ b. list_all has_room (moves_of q.plan.now) && b) h
          ∙ and_assoc (list_all has_room (moves_of q.plan.now)) (are_roomy_in qs) (list_all (room starts) rest)
      go false e h =
          let none : list_all has_room (moves_of q.plan.now) ≡ true = ap (list_all has_room) (plans ∙ moves_other s q.start e) in
          h ∙ ap (λ b. (b && are_roomy_in qs) && list_all (room starts) rest) (sym none)

  room_files : (file : ℕ) (fs : List (Vec PlacedSection)) (os : List Object) → map (λ f. length f.items) fs ≡ map (λ o. length o.sections) os
      → ((j k : ℕ) (s : Section) (q : PlacedSection) → section_in (slice_get os j) k ≡ Some s → placed_in (slice_get fs j) k ≡ Some q → moves_of q.plan.now ≡ moves q.start s)
      → ((j k : ℕ) → starts (file + j) k ≡ start_in (placed_in (slice_get fs j) k)) → list_all (room starts) (inputs_of goes_to_text file os) ≡ list_all (λ f. are_roomy_in f.items) fs
  room_files file [] [] each planned at = refl
  room_files file [] (o ∷ os) each planned at = absurd (cc)
  room_files file (f ∷ fs) [] each planned at = absurd (cc)
  room_files file (f ∷ fs) (o ∷ os) each planned at =
      let head : length f.items ≡ length o.sections = cc in
      let tail : map (λ (f : Vec PlacedSection). length f.items) fs ≡ map (λ (o : Object). length o.sections) os = cc in
      room_file file o 0 f.items o.sections (inputs_of goes_to_text (suc file) os) head (λ k s q a b. planned 0 k s q a b)
      (λ k. ap (starts file) (let e : 0 + k ≡ k = omega arith in e) ∙ ap (λ n. starts n k) (let e : file ≡ file + 0 = omega arith in e) ∙ at 0 k)
      ∙ ap (λ b. are_roomy_in f.items && b) (room_files (suc file) fs os tail (λ j k s q a b. planned (suc j) k s q a b) (λ j k. ap (λ n. starts n k) (let e : suc file + j ≡ file + suc j = omega arith in e) ∙ at (suc j) k))

pub are_rooms : (os : List Object) (bounds : Ground) (p : Placement) → IsPlacement os bounds p → (b : Bool) → b ≡ are_roomy p → (b ≡ true) ↔ AreRoomy os (starts_of p)
are_rooms os bounds p is b e =
    let same : list_all (room (starts_of p)) (inputs goes_to_text os) ≡ are_roomy p =
    room_files (starts_of p) 1 p.files.items os is.each is.planned (λ j k. ap (λ n. start_in (placed_at p n k)) (let g : 1 + j - 1 ≡ j = omega arith in g)) in
    (λ h. all_to_true (room (starts_of p)) (inputs goes_to_text os) (same ∙ sym e ∙ h), λ h. e ∙ sym same ∙ all_from_true (room (starts_of p)) (inputs goes_to_text os) h)

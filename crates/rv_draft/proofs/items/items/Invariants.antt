use Rattle.std.proofs.Common.{◌≡◌, ◌≤◌, ◌^◌, ℕ, [], ◌∷◌, length, drop, reverse, None}
use Rattle.std.specs.Prelude.{slice_index}
use Rattle.rv_unit_laws.specs.Faults.{first_unit_fault}
use Rattle.rv_unit_laws.specs.Tables.{tables}
use Rattle.rv_source_laws.specs.Located.{located}
use Rattle.rv_assemble_laws.specs.Refusals.{size_fault_from}
use Rattle.rv_draft.specs.Sized.{bytes_of_sizes}
use Rattle.rv_draft.proofs.RoomsLemmas.{HasRoomLeft}
use Rattle.rv_unit.specs.Unit.{said, IsScope}
use Rattle.rv_draft.proofs.SoFarItemsLemmas.{AreItemsSoFar}
use Rattle.rv_draft.proofs.SoFarSizedLemmas.{AreSizedSoFar}
use Rattle.rv_draft.proofs.items.items.Given as goal

-- the items of the first statements, the scope of the next, and the sizes of those that are left, from the back
abbrev pub invariant-loop-index : goal.invariant-loop-index
invariant-loop-index l = record {
  unit : l.scope.unit.now ≡ l.unit;
  scope : IsScope l.scope l.index;
  items : AreItemsSoFar (said l.unit) l.index (λ j. slice_index l.ends.items j) l.items.items;
  sized : AreSizedSoFar (tables (said l.unit)) (said l.unit) l.fn.sizes.items l.index l.items.items;
  left : reverse l.sizes.items ≡ drop l.index l.fn.sizes.items;
  sections : length l.ends.items ≡ length l.unit.tables.extents.items;
  count : length l.items.items ≡ l.index;
  room : first_unit_fault (said l.unit) ≡ None → size_fault_from (λ j. 0) (located (said l.unit ∷ [])) (bytes_of_sizes l.fn.sizes.items) ≡ None
      → HasRoomLeft (said l.unit) l.fn.sizes.items l.index (λ j. slice_index l.ends.items j);
  low : (j : ℕ) → slice_index l.ends.items j ≤ 2 ^ 28;
}

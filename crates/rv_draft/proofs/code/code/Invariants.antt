use Rattle.std.proofs.Common.{◌≡◌, length, take}
use Rattle.rv_unit_laws.specs.Tables.{at_start, tables}
use Rattle.rv_unit.specs.Unit.{said, IsScope}
use Rattle.rv_source_laws.specs.Located.{located_from}
use Rattle.rv_draft.specs.Lengths.{code_lengths}
use Rattle.rv_draft.specs.Sized.{bytes_of_sizes}
use Rattle.rv_draft.proofs.WholeLemmas.{CodeTo}
use Rattle.rv_draft.proofs.code.code.Given as goal

-- the code of the first statements, in their lengths, and the scope of the next
abbrev pub invariant-loop-index : goal.invariant-loop-index
invariant-loop-index l =
    (l.scope.unit.now ≡ l.unit) × IsScope l.scope l.index × CodeTo (said l.unit) l.index l.coder
    × (length l.coder.sections.items ≡ length l.unit.tables.extents.items)
    × (bytes_of_sizes l.coder.sizes.items ≡ take l.index (code_lengths (tables (said l.unit)) (located_from 1 1 (at_start (said l.unit)) (said l.unit)) l.layout.sizes.items))

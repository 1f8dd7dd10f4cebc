use Rattle.std.proofs.Common.{◌≡◌, List, length}
use Rattle.rv_unit.specs.Unit.{said, IsScope}
use Rattle.rv_instruction.specs.declared.encoded.Coded.{Coded}
use Rattle.rv_draft.specs.DataParts.{HaveCode, IsDataTo}
use Rattle.rv_draft.proofs.data.data.Given as goal

-- the data of the first statements, and the scope of the next
abbrev pub invariant-loop-index : goal.invariant-loop-index
invariant-loop-index l =
    (l.scope.unit.now ≡ l.unit) × IsScope l.scope l.index
    × ((codes : List (List Coded)) → HaveCode (said l.unit) l.items codes
    → IsDataTo (said l.unit) l.items codes l.fn.code.items l.index l.sections.items l.fields.items)
    × (length l.sections.items ≡ length l.fn.code.items)

use Rattle.std.proofs.Common.{◌≡◌, ◌+◌, ◌++◌, length, drop, map}
use Rattle.rv_statement.specs.View.{statement_kind}
use Rattle.rv_assemble_laws.specs.Coded.{joined}
use Rattle.rv_instruction.specs.Code.{coded_by}
use Rattle.rv_draft.specs.Draft.{field_of}
use Rattle.rv_draft.specs.Spots.{fields_coded, AtOwn}
use Rattle.rv_draft.proofs.fields.put_parts.Given as goal

-- what is there so far, and what is left, are all parts
abbrev pub invariant-loop-part : goal.invariant-loop-part
invariant-loop-part l = record {
  place : l.place + length (joined (drop l.part-index (coded_by l.code))) ≡ l.fn.offset + length (joined (coded_by l.code));
  fields : AtOwn l.spot (λ index.
      map field_of l.fields.items ++ fields_coded l.spot index (statement_kind l.statement.kind) l.relax l.place (drop l.part-index l.code)
      ≡ map field_of l.fn.fields.items ++ fields_coded l.spot index (statement_kind l.statement.kind) l.relax l.fn.offset l.code);
}

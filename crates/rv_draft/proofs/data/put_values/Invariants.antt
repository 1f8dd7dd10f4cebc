use Rattle.std.proofs.Common.{◌≡◌, ◌+◌, ◌*◌, ◌++◌, drop, map}
use Rattle.std.specs.Prelude.{flat_map}
use Rattle.rv_expression.specs.Expr.{tree_of_expr}
use Rattle.rv_statement_laws.specs.Widths.{width_bytes}
use Rattle.rv_assemble_laws.specs.Templates.{value_bytes, Datum}
use Rattle.rv_assemble_laws.specs.LaidStatements.{laid_part}
use Rattle.rv_instruction.specs.Scoped.{values_at, AtNext}
use Rattle.rv_draft.specs.DataParts.{fields_said}
use Rattle.rv_draft.specs.Draft.{field_of}
use Rattle.rv_draft.proofs.data.put_values.Given as goal

-- what is there so far, and what is left, are all values
abbrev pub invariant-loop-value : goal.invariant-loop-value
invariant-loop-value l = record {
  place : l.place ≡ l.fn.offset + width_bytes l.width * l.value-index;
  bytes : AtNext l.spot.scope.now (λ index.
      l.bytes.items ++ flat_map (λ e. value_bytes (width_bytes l.width) (values_at l.spot.scope.now index l.spot.place e)) (drop l.value-index (map tree_of_expr l.values))
      ≡ l.fn.bytes.items ++ flat_map (λ e. value_bytes (width_bytes l.width) (values_at l.spot.scope.now index l.spot.place e)) (map tree_of_expr l.values));
  fields : AtNext l.spot.scope.now (λ index.
      map field_of l.fields.items ++ fields_said l.spot.loaded l.spot.place.section l.place
      (map (λ e. laid_part l.spot.ordinal (Datum (width_bytes l.width) (values_at l.spot.scope.now index l.spot.place e))) (drop l.value-index (map tree_of_expr l.values)))
      ≡ map field_of l.fn.fields.items ++ fields_said l.spot.loaded l.spot.place.section l.fn.offset
      (map (λ e. laid_part l.spot.ordinal (Datum (width_bytes l.width) (values_at l.spot.scope.now index l.spot.place e))) (map tree_of_expr l.values)));
}

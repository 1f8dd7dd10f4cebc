use Rattle.std.proofs.Common.{◌≡◌, ◌≤◌, ◌∙◌, None, length, map, sym, ap, subst, arith}
use Rattle.std.specs.Vec.{with_items}
use Rattle.std.proofs.lemmas.List.{length-map, with_items_is}
use Rattle.rv_fault.specs.SourceFault.{source_fault_number}
use Rattle.rv_statement_laws.specs.Limits.{most_statements}
use Rattle.rv_statement.specs.View.{statement_of}
use Rattle.rv_assemble_laws.specs.Refusals.{statements_fault, IsStatementsFault}
use Rattle.rv_assemble.specs.Ordinals.{by_ordinal, line_of}
use Rattle.rv_assemble.proofs.OrdinalsLemmas.{sound_at_home}
use Rattle.rv_assemble.proofs.PlacedLemmas.{ordinal_inside, placed_at}
use Rattle.rv_assemble.proofs.placed.fault_of.Goals.{In_ok-lines, In-Err-At}
use Rattle.rv_assemble.proofs.placed.fault_of.Goals as goal

-- The statements have their ordinals as their lines.
module _ (c : In_ok-lines) where
  few : length (map statement_of c.args.statements.items) ≤ most_statements
  few = subst (λ n. n ≤ most_statements) (sym (length-map c.args.statements.items statement_of)) c.requires.few

  are : map statement_of (with_items c.args.statements c.number.new.statements).items ≡ by_ordinal (map statement_of c.args.statements.items)
  are =
      let long : length c.number.new.statements ≡ c.args.statements.len = omega (arith, c.number.auto.statements, ap length c.as_mut_slice.ensures.value, c.args.statements.ok.0) in
      ap (map statement_of) (with_items_is c.args.statements c.number.new.statements long) ∙ c.in_ok-lines.ensures.numbered ∙ ap (λ l. by_ordinal (map statement_of l)) c.as_mut_slice.ensures.value

-- One of them is at fault.
module _ (c : In-Err-At) where
  fault : IsStatementsFault (map statement_of (with_items c.args.statements c.number.new.statements).items) (record { code = source_fault_number c.in-Err-At.code; line = c.in-Err-At.line })
  fault = rw c.in-Err-At.field-0-is at c.in-Err-At.ensures.refuses

  inside : (1 ≤ c.in-Err-At.line) × (c.in-Err-At.line ≤ length c.args.statements.items)
  inside =
      let all = (goal.at.In-Err-At c).In_ok-lines in
      subst (λ n. (1 ≤ c.in-Err-At.line) × (c.in-Err-At.line ≤ n)) (length-map c.args.statements.items statement_of)
      (ordinal_inside (map statement_of c.args.statements.items) (map statement_of (with_items c.args.statements c.number.new.statements).items) (source_fault_number c.in-Err-At.code) c.in-Err-At.line (few all) (are all) fault)

pub fault_at-requires-clause-first : goal.fault_at-requires-clause-first
fault_at-requires-clause-first c = (inside (goal.at.fault_at-requires-clause-first c).In-Err-At).0

pub fault_at-requires-clause-line : goal.fault_at-requires-clause-line
fault_at-requires-clause-line c =
    let h = inside (goal.at.fault_at-requires-clause-line c).In-Err-At in
    let lines : length c.as_slice.result.now ≡ length c.args.statements.items =
    ap length (c.as_slice.ensures.value ∙ c.in_ok-lines.ensures.lines) ∙ length-map (map statement_of c.as_mut_slice.result.now) line_of ∙ length-map c.as_mut_slice.result.now statement_of
    ∙ ap length c.as_mut_slice.ensures.value in
    subst (λ n. c.in-Err-At.line ≤ n) (sym lines) h.1

pub fault_at-requires-clause-offset : goal.fault_at-requires-clause-offset
fault_at-requires-clause-offset c =
    let h = inside (goal.at.fault_at-requires-clause-offset c).In-Err-At in
    subst (λ n. c.in-Err-At.line ≤ n) (sym c.requires.each) h.1

pub returns-in-Ok-clause-none : goal.returns-in-Ok-clause-none
returns-in-Ok-clause-none c =
    let all = (goal.at.returns-in-Ok-clause-none c).In_ok-lines in
    sound_at_home (map statement_of c.args.statements.items) (few all) (subst (λ ss. statements_fault ss ≡ None) (are all) c.in-Ok.ensures.sound)

pub returns-in-Err-At-clause-placed : goal.returns-in-Err-At-clause-placed
returns-in-Err-At-clause-placed c = λ text reads begin.
    let all = (goal.at.returns-in-Err-At-clause-placed c).In_ok-lines in
    let one = (goal.at.returns-in-Err-At-clause-placed c).In-Err-At in
    let ss = map statement_of c.args.statements.items in
    let lines = c.as_slice.ensures.value ∙ c.in_ok-lines.ensures.lines ∙ ap (λ l. map line_of (map statement_of l)) c.as_mut_slice.ensures.value in
    placed_at text ss (map statement_of (with_items c.args.statements c.number.new.statements).items) c.as_slice.result.now c.args.offsets.now c.fault_at.result c.in-Err-At.code c.in-Err-At.line (few all) (are all) (fault one)
    lines reads begin c.fault_at.ensures.code c.fault_at.ensures.line c.fault_at.ensures.culprit

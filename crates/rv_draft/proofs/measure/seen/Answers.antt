use Rattle.std.proofs.Common.{◌≡◌, ◌+◌, ◌∙◌, sym, ap, subst}
use Rattle.rv_statement.specs.View.{statement_kind}
use Rattle.rv_instruction.specs.Scoped.{values_at, faults_at}
use Rattle.rv_draft.specs.Contents.{beside_of}
use Rattle.rv_draft.specs.Measure.{HasLength}
use Rattle.rv_draft.proofs.measure.seen.Goals as goal

pub returns : goal.returns
returns c = λ index filled stands.
    let v = values_at c.args.scope.now index c.args.place in
    let kind = statement_kind c.args.statement.now.kind in
    let faults = faults_at c.args.scope.now index c.args.place kind in
    let beside = beside_of c.args.executable v c.args.place.offset kind in
    let bytes : beside + c.code_length-bytes.result ≡ c.beside-beside.result + c.from.result =
    ap (λ n. n + c.code_length-bytes.result) (sym (c.beside-beside.ensures.is index filled stands)) ∙ ap (λ n. c.beside-beside.result + n) (sym c.from.ensures) in (
      c.beside-beside.result + c.from.result,
      subst (HasLength v c.args.compressed faults beside kind) bytes (c.code_length-bytes.ensures index filled stands beside),
      c.item.ensures index filled stands,
    )

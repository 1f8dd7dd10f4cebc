use Rattle.std.proofs.Common.{ℕ, List, ◌++◌, ◌∙◌, ap}
use Rattle.std.specs.Prelude.{flat_map}
use Rattle.rv_statement.specs.View.{statement_kind}
use Rattle.rv_assemble_laws.specs.LaidStatements.{part_bytes}
use Rattle.rv_instruction.specs.Scoped.{values_at}
use Rattle.rv_draft.specs.DataParts.{data_said}
use Rattle.std.proofs.lemmas.Result.{on_ok_weaker}
use Rattle.rv_draft.proofs.GrowingLemmas.{read_at, grows_set}
use Rattle.rv_draft.proofs.data.put_section.Goals as goal

pub returns-clause-bytes : goal.returns-clause-bytes
returns-clause-bytes c =
    let old = c.args.sections.now in
    let k = c.args.spot.now.place.section in
    let x = c.index-sections-spot.result in
    let spot = c.args.spot.now in
    on_ok_weaker c.put_data.result
    (λ told index f s.
    let more : List ℕ = flat_map part_bytes (data_said spot.ordinal (λ e. values_at spot.scope.now index spot.place e) (statement_kind c.args.kind.now) c.args.item.bytes) in
    grows_set old k c.put_data.new.bytes more c.requires.section (told index f s ∙ ap (λ l. l ++ more) (read_at old k x c.requires.section)))
    c.put_data.ensures.bytes

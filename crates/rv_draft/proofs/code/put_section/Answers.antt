use Rattle.std.proofs.Common.{List, ℕ, ◌++◌, ◌∙◌, ap}
use Rattle.std.proofs.lemmas.Result.{on_ok_weaker}
use Rattle.rv_draft.specs.Code.{code_bytes}
use Rattle.rv_draft.proofs.GrowingLemmas.{read_at, grows_set}
use Rattle.rv_draft.proofs.code.put_section.Goals as goal

pub returns : goal.returns
returns c =
    let old = c.args.sections.now in
    let k = c.args.section in
    let more : List ℕ = code_bytes c.args.padding c.args.code.now in
    on_ok_weaker c.put_statement.result
    (λ told. grows_set old k c.put_statement.new.bytes more c.requires (told ∙ ap (λ l. l ++ more) (read_at old k c.index-sections-section.result c.requires)))
    c.put_statement.ensures

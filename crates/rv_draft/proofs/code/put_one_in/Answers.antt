use Rattle.std.proofs.Common.{List, ℕ, ◌++◌, ◌∙◌, ap}
use Rattle.std.proofs.lemmas.Result.{on_ok_weaker}
use Rattle.rv_instruction.specs.Code.{alone_coded}
use Rattle.rv_draft.specs.Code.{code_bytes}
use Rattle.rv_draft.proofs.GrowingLemmas.{read_at, grows_set}
use Rattle.rv_draft.proofs.code.put_one_in.Goals as goal

pub returns : goal.returns
returns c =
    let old = c.args.sections.now in
    let k = c.args.section in
    let more : List ℕ = code_bytes c.args.padding (alone_coded c.args.encoded).items in
    on_ok_weaker c.put_one.result
    (λ told. grows_set old k c.put_one.new.bytes more c.requires (told ∙ ap (λ l. l ++ more) (read_at old k c.index-sections-section.result c.requires)))
    c.put_one.ensures

use Rattle.std.proofs.Common.{◌≡◌, ◌++◌, List, ℕ, subst, ◌∙◌}
use Rattle.std.specs.Prelude.{OnOk}
use Rattle.rv_object_writer.proofs.CutLemmas.{row_cut}
use Rattle.rv_object_writer.proofs.tables.put_row.Goals as goal

pub returns : goal.returns
returns c =
    subst (λ (bs : List ℕ). OnOk c.raw.result (c.raw.new.self ≡ c.args.out.now ++ bs))
    (c.row_bytes.ensures ∙ row_cut c.args.row.now) c.raw.ensures.ok

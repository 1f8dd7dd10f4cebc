use Rattle.std.proofs.Common.{◌≡◌, ◌<◌, length, ap, ◌∙◌, set}
use Rattle.std.proofs.lemmas.List.{get_or_default}
use Rattle.rv_counts.specs.declared.rows.CountedInstruction.{CountedInstruction}
use Rattle.rv_counts.specs.Rows.{with_done}
use Rattle.rv_counts.proofs.RowsLemmas.{done_got, within_got}
use Rattle.rv_counts.proofs.rows.Rows.count.Goals as goal

pub returns-in-Got : goal.returns-in-Got
returns-in-Got c =
    let rows = c.args.self.now.rows.items in
    let found = c.args.found.now in
    let below : found.index < length rows = within_got rows found.index found.fetched _ _ c.in-Got.is c.requires in
    done_got rows _ found.index found.fetched _ _ c.args.done c.in-Got.is
    (λ row stands.
    let here : c.index.result.now ≡ row = c.index.ensures ∙ get_or_default rows found.index c.index.result.now row below ∙ stands in
    ap (λ (r : CountedInstruction). set rows found.index r) (c.with.ensures ∙ ap (λ (r : CountedInstruction). with_done r c.args.done) here))

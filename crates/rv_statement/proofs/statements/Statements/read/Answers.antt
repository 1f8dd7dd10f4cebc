use Rattle.std.proofs.Common.{◌≡◌, refl, ◌∙◌, ap, ⊎_elim}
use Rattle.std.proofs.lemmas.Option.{slice_get_read}
use Rattle.rv_statement.specs.Records.{least_whole}
use Rattle.rv_statement.specs.Statements.{statements_of}
use Rattle.rv_statement.proofs.RecordsLemmas.{record_at, recorded_at, kept_says, kept_at, kept_same}
use Rattle.rv_statement.proofs.statements.Statements.read.Goals as goal

pub returns-in-Whole : goal.returns-in-Whole
unfolding statements_of
returns-in-Whole c =
    let here = record_at _ _ c.args.self.now.records.items c.args.index c.index.result.now c.requires c.index.ensures in
    let at = kept_at c.args.self.now.records.items c.args.self.now.whole.items c.args.index c.index.result.now c.in-Whole.place here c.args.self.now.kept c.in-Whole.is in
    recorded_at _ _ c.args.self.now.records.items c.args.index c.index.result.now _ here
    (kept_says _ c.args.self.now.whole.items _ _ c.in-Whole.place c.index-in-Whole.result.now c.in-Whole.is
    (slice_get_read c.args.self.now.whole.items _ c.in-Whole.place c.index-in-Whole.result.now refl at c.index-in-Whole.ensures))

pub make-requires : goal.make-requires
unfolding statements_of
make-requires c =
    let here = record_at _ _ c.args.self.now.records.items c.args.index c.index.result.now c.requires c.index.ensures in
    let little : least_whole c.index.result.now.words ≡ 0 = ⊎_elim (λ h. ap least_whole h.1) (λ h. ap least_whole h.2) c.in-Plain.is in
    record {
      within = c.requires;
      little = λ found at. kept_same c.args.self.now.records.items c.args.index c.index.result.now found here at ∙ little;
    }

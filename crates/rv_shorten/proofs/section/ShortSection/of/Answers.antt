use Rattle.std.proofs.Common.{map}
use Rattle.rv_object_types.specs.Sections.{section_of}
use Rattle.rv_shorten.specs.Cut.{move_of}
use Rattle.rv_cut_laws.proofs.ShortLemmas.{size_left, fit_stays, paddings_stay}
use Rattle.rv_shorten.proofs.StepsLemmas.{stored_order}
use Rattle.rv_shorten.proofs.section.ShortSection.of.Goals as goal

pub invariant_of-result : goal.invariant_of-result
invariant_of-result c =
    let whole = c.args.whole.now in
    let s = section_of whole in
    let ms = map move_of c.args.cuts.items in
    record {
      order = c.requires.order;
      within = stored_order s ms whole.inside c.requires.cuts;
      sized = size_left s ms whole.inside c.requires.cuts;
      inside = fit_stays s ms whole.inside c.requires.cuts;
      paddings = paddings_stay s ms whole.executable whole.inside c.requires.cuts whole.paddings;
    }

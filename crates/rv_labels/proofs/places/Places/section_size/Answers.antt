use Rattle.std.proofs.Common.{◌∙◌, ap, sym}
use Rattle.rv_debug_laws.specs.Labels.{section_size, size_to}
use Rattle.rv_labels.proofs.places.Places.section_size.Goals as goal

pub returns-in-UpTo : goal.returns-in-UpTo
returns-in-UpTo c = λ known rows marks are.
    let file = c.args.self.now.file in
    c.size_to.ensures ∙ ap (size_to c.args.address) (c.end_before.ensures known rows marks are)
    ∙ ap (section_size known file rows c.args.section c.args.address) (sym c.in-UpTo.is)

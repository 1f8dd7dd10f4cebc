use Rattle.std.proofs.Common.{◌∙◌, ap, sym}
use Rattle.rv_object_laws.specs.declared.symbol.Definition.{Definition}
use Rattle.rv_debug_laws.specs.Labels.{size_of}
use Rattle.rv_labels.proofs.places.Places.size.Goals as goal

pub returns : goal.returns
returns c = λ known rows marks are.
    c.section_size.ensures known rows marks are
    ∙ ap (λ (d : Definition). size_of known c.args.self.now.file rows d c.args.address c.args.said) (sym c.in-InSection.is)

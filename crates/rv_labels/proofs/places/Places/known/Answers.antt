use Rattle.std.proofs.Common.{◌∙◌, ap, sym}
use Rattle.rv_object_types.specs.Parts.{symbol_of}
use Rattle.rv_debug_laws.specs.Labels.{known_symbol, said_of}
use Rattle.rv_labels.proofs.places.Places.known.Goals as goal

pub returns-in-Some : goal.returns-in-Some
returns-in-Some c = λ known rows marks are.
    let s = symbol_of c.args.symbol.now in
    c.known_at.ensures known rows marks are
    ∙ ap (known_symbol known c.args.self.now.file rows s (said_of marks s.name)) (sym c.in-Some.is ∙ c.address.ensures known rows marks are)

pub returns-in-None : goal.returns-in-None
returns-in-None c = λ known rows marks are.
    let s = symbol_of c.args.symbol.now in
    ap (known_symbol known c.args.self.now.file rows s (said_of marks s.name)) (sym c.in-None.is ∙ c.address.ensures known rows marks are)

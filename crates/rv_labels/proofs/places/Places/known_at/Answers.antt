use Rattle.std.proofs.Common.{◌≡◌, ◌∙◌, Some, ap}
use Rattle.rv_object_types.specs.Parts.{symbol_of}
use Rattle.rv_debug_laws.specs.declared.mark.NameSaid.{NameSaid}
use Rattle.rv_debug_laws.specs.Labels.{said_of, size_of}
use Rattle.rv_labels.proofs.places.Places.known_at.Goals as goal

pub returns : goal.returns
returns c = λ known rows marks are.
    let s = symbol_of c.args.symbol.now in
    let said : c.said_of-said.result ≡ said_of marks s.name = c.said_of-said.ensures marks are.said in
    let size : c.size-bytes.result ≡ size_of known c.args.self.now.file rows s.definition c.args.address (said_of marks s.name).size =
    c.size-bytes.ensures known rows marks are ∙ ap (λ (n : NameSaid). size_of known c.args.self.now.file rows s.definition c.args.address n.size) said in
    λ i. Some (record { name = s.name; address = c.args.address; kind = (said i).kind; size = size i })

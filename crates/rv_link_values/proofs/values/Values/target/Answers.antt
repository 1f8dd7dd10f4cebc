use Rattle.std.proofs.Common.{◌∙◌, ◌+◌, ap, sym}
use Rattle.std.specs.Prelude.{unwrap_or}
use Rattle.rv_link_laws.specs.Values.{target}
use Rattle.rv_link_laws.specs.Layout.{outer_in}
use Rattle.rv_placement.specs.Placement.{starts_of, layout_of}
use Rattle.rv_link_values.proofs.SymbolsLemmas.{address_is}
use Rattle.rv_link_values.proofs.values.Values.target.Goals as goal

pub returns-in-Some : goal.returns-in-Some
returns-in-Some c = λ os p o h at.
    c.unwrap_or.ensures
    ∙ ap (λ a. unwrap_or a 0) (address_is c.address.result c.args.file.0 c.in-Some.index c.args.self.now os p o h at c.address.ensures)
    ∙ ap (λ n. unwrap_or (target (outer_in os (layout_of p)) (starts_of p (c.args.file.0 + 1)) o n) 0) (sym c.in-Some.is)

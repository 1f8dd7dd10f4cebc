use Rattle.std.proofs.Common.{◌≡◌, ◌∙◌, ◌+◌, ap, sym, rules, Some, None}
use Rattle.rv_link_laws.specs.Values.{paired, value_at}
use Rattle.rv_link_laws.specs.Layout.{outer_in}
use Rattle.rv_placement.specs.Placement.{starts_of, layout_of}
use Rattle.rv_link_values.proofs.SymbolsLemmas.{place_is}
use Rattle.rv_link_values.proofs.values.Values.paired.Goals as goal

pub returns-in_err-index : goal.returns-in_err-index
returns-in_err-index c = λ os p o h at.
    let none : c.args.symbol ≡ None = search rules in
    c.from_residual.ensures ∙ ap (paired (outer_in os (layout_of p)) (starts_of p) os (c.args.file.0 + 1) o) (sym none)

pub returns-in_err-place : goal.returns-in_err-place
returns-in_err-place c = λ os p o h at.
    let is : c.args.symbol ≡ Some c.in_ok-index.index = search rules in
    c.from_residual-in_err-place.ensures
    ∙ ap (value_at (outer_in os (layout_of p)) (starts_of p) os) (place_is None c.args.file.0 c.in_ok-index.index c.args.self.now os p o h at c.in_err-place.ensures)
    ∙ ap (paired (outer_in os (layout_of p)) (starts_of p) os (c.args.file.0 + 1) o) (sym is)

pub returns : goal.returns
returns c = λ os p o h at.
    let is : c.args.symbol ≡ Some c.in_ok-index.index = search rules in
    c.value_at.ensures os p h
    ∙ ap (value_at (outer_in os (layout_of p)) (starts_of p) os) (place_is (Some c.in_ok-place.place) c.args.file.0 c.in_ok-index.index c.args.self.now os p o h at c.in_ok-place.ensures)
    ∙ ap (paired (outer_in os (layout_of p)) (starts_of p) os (c.args.file.0 + 1) o) (sym is)

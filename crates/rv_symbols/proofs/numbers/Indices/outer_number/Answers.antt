use Rattle.std.proofs.Common.{◌+◌, ◌∙◌, length, ap, sym}
use Rattle.std.specs.Prelude.{unwrap_or, position}
use Rattle.std.specs.Str.{bytes_eq}
use Rattle.rv_expression.specs.Nodes.{symbol_of}
use Rattle.rv_symbols.specs.Numbers.{outer_number}
use Rattle.rv_symbols.proofs.IndexingLemmas.{position_is}
use Rattle.rv_symbols.proofs.numbers.Indices.outer_number.Goals as goal

pub returns-in-Name : goal.returns-in-Name
returns-in-Name c = λ own names is.
    let x = c.args.self.now in
    let name = c.in-Name.name.now in
    ap (λ n. n + c.unwrap_or-after.result) is.counted
    ∙ ap (λ n. length own + n) (c.unwrap_or-after.ensures ∙ ap (λ o. unwrap_or o 0) (c.get_index_of.ensures.index ∙ position_is name x.missing.now.keys ∙ ap (position (bytes_eq name)) is.later))
    ∙ ap (λ s. outer_number (length own) names (symbol_of s)) (sym c.in-Name.is)

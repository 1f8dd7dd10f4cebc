use Rattle.std.proofs.Common.{◌≡◌, ◌<◌, ◌≤◌, ◌++◌, [], None, length, map, drop, get_or, sym, ap, ◌∙◌, subst, append-nil, rules}
use Rattle.std.proofs.lemmas.List.{length-map, at_drop_all}
use Rattle.rv_statement.specs.View.{now_of}
use Rattle.rv_object_types.specs.Parts.{symbol_of}
use Rattle.rv_assemble_laws.specs.Symbols.{SymbolUse as SaidUse}
use Rattle.rv_symbols.specs.declared.source.Source.{Source}
use Rattle.rv_symbols.specs.SymbolUse.{use_of, uses_of}
use Rattle.rv_symbols.specs.Source.{IsSource}
use Rattle.rv_symbols.specs.Numbers.{number_by}
use Rattle.rv_symbols.specs.Found.{definition_in}
use Rattle.rv_symbols.proofs.IndexingLemmas.{few_after}
use Rattle.rv_symbols.proofs.UsingLemmas.{use_at, found_at, numbers_more}
use Rattle.rv_symbols.proofs.numbers.numbers.Goals as goal

pub number-requires : goal.number-requires
number-requires c =
    few_after c.args.own.now c.in_ok-indices.indices.missing.now.keys c.args.missing.now.keys c.in_ok-indices.indices.count c.in_ok-indices.ensures.indices.counted c.in_ok-indices.ensures.indices.later c.requires.few

pub loop-i-preserved : goal.loop-i-preserved
loop-i-preserved c = λ laid t h defs.
    let i = c.loop-i.i in
    let us = c.args.uses.now in
    let ds = c.args.definitions.now in
    let d = c.index-uses-i.result in
    let own = map symbol_of c.args.own.now in
    let names = map now_of c.args.missing.now.keys in
    let r = use_of (get_or us i d) in
    let inside : i < length us = search rules in
    let within : i < length ds = search rules in
    numbers_more (λ r. number_by own names laid r.symbol (definition_in t r)) (uses_of us) i r c.loop-i.numbers.items _ _ _ (use_at us i d inside) c.in_ok-push.ensures.items
    (c.number.ensures laid own names (subst (λ (x : Source). IsSource x laid) (sym c.in_ok-indices.ensures.source) h) c.in_ok-indices.ensures.indices
    ∙ ap (number_by own names laid r.symbol) (found_at t us ds defs i d None inside within))
    (c.loop-i.invariant laid t h defs)

pub returns : goal.returns
returns c = λ laid t h defs.
    let i = c.loop-i.i in
    let us = c.args.uses.now in
    let past : length us ≤ i = c.loop-i-test.false in
    let none : drop i (uses_of us) ≡ [] = at_drop_all (λ l. l) (uses_of us) i (subst (λ n. n ≤ i) (sym (length-map us use_of)) past) in
    sym (append-nil c.loop-i.numbers.items)
    ∙ ap (λ l. c.loop-i.numbers.items ++ map (λ (r : SaidUse). number_by (map symbol_of c.args.own.now) (map now_of c.args.missing.now.keys) laid r.symbol (definition_in t r)) l) (sym none)
    ∙ c.loop-i.invariant laid t h defs

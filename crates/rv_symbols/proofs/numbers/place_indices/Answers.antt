use Rattle.std.proofs.Common.{◌≡◌, ◌<◌, ◌≤◌, ◌+◌, [], ◌∷◌, ◌++◌, length, map, take, sym, ap, ◌∙◌, subst, arith, rules}
use Rattle.std.proofs.lemmas.List.{take_all}
use Rattle.rv_object_types.specs.Parts.{symbol_of}
use Rattle.rv_symbols.specs.Indices.{ArePlaceIndices}
use Rattle.rv_symbols.proofs.IndexingLemmas.{symbols_next, symbols_count}
use Rattle.rv_symbols.proofs.numbers.place_indices.Goals as goal

pub loop-i-preserved : goal.loop-i-preserved
loop-i-preserved c =
    let i = c.loop-i.i in
    let xs = c.args.symbols.now in
    let x = c.index-symbols-i.result in
    let inside : i < length xs = search rules in
    let within : i ≤ length xs = omega (arith, inside) in
    let next : map symbol_of (take (i + 1) xs) ≡ map symbol_of (take i xs) ++ symbol_of x ∷ [] =
    symbols_next xs i x inside ∙ ap (λ y. map symbol_of (take i xs) ++ symbol_of y ∷ []) (sym c.index-symbols-i.is) in
    subst (ArePlaceIndices c.put_place.new.places) (sym next) (c.in_ok-put_place.ensures (map symbol_of (take i xs)) (symbols_count xs i within) c.loop-i.invariant)

pub returns : goal.returns
returns c =
    let i = c.loop-i.i in
    let xs = c.args.symbols.now in
    let past : length xs ≤ i = c.loop-i-test.false in
    subst (λ l. ArePlaceIndices c.loop-i.places (map symbol_of l)) (take_all i xs past) c.loop-i.invariant

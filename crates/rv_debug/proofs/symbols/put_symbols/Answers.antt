use Rattle.std.proofs.Common.{refl, ◌≡◌, ◌+◌, ◌∷◌, drop, subst}
use Rattle.std.proofs.lemmas.List.Elements.{All-more}
use Rattle.rv_list_laws.proofs.EachLemmas.{each_map_passed}
use Rattle.rv_list_laws.proofs.TakeDropLemmas.{drop_read}
use Rattle.rv_map.specs.Views.{map_of}
use Rattle.rv_labels.specs.declared.known.KnownName.{KnownName}
use Rattle.rv_labels.specs.Known.{known_of}
use Rattle.rv_debug_laws.specs.Symbols.{IsKnownName}
use Rattle.rv_debug.proofs.SymbolsLemmas.{offset_more, symbol_more}
use Rattle.rv_debug.proofs.symbols.put_symbols.Goals as goal

abbrev IsKnown : KnownName → Type 0
IsKnown k = IsKnownName (known_of k)

pub loop-known-preserved : goal.loop-known-preserved
loop-known-preserved c =
    let gs = c.args.names.now in
    let i = c.loop-known.known-index in
    let g = c.known-item.result in
    let here : drop i gs ≡ c.known-item.result ∷ drop (i + 1) gs = drop_read gs i g c.loop-known-test.true c.known-item.is in
    record {
      written = symbol_more (map_of c.args.map.now) c.args.binding c.loop-known.name _ _ _ _ gs i g refl here c.in_ok-put_symbol.ensures.written c.loop-known.invariant.written;
      offset = offset_more c.loop-known.name _ _ gs i g refl here c.loop-known.invariant.offset;
      known = All-more IsKnown gs i g c.loop-known-test.true c.loop-known.invariant.known (subst IsKnown c.known-item.is c.in_ok-put_symbol.ensures.known);
    }

pub returns-clause-known : goal.returns-clause-known
returns-clause-known c = each_map_passed IsKnownName known_of c.args.names.now c.loop-known.known-index c.loop-known-test.false c.loop-known.invariant.known

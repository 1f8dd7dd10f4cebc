use Rattle.std.proofs.Common.{List, map, refl, subst}
use Rattle.std.specs.Prelude.{flat_map}
use Rattle.std.proofs.lemmas.List.Elements.{All-more}
use Rattle.rv_list_laws.proofs.EachLemmas.{each_map_passed}
use Rattle.rv_elf_laws.specs.Records.{symbol_bytes}
use Rattle.rv_object_types.specs.declared.symbol.Symbol.{Symbol}
use Rattle.rv_object_types.specs.Parts.{symbol_of}
use Rattle.rv_object_file_laws.specs.Known.{IsSymbol}
use Rattle.rv_object_file_laws.specs.Written.{symbol_record}
use Rattle.rv_object_writer.proofs.StepsLemmas.{step}
use Rattle.rv_object_writer.proofs.tables.symbols_table.Goals as goal

abbrev IsKnown : Symbol → Type 0
IsKnown s = IsSymbol (symbol_of s)

pub loop-symbol-preserved : goal.loop-symbol-preserved
loop-symbol-preserved c =
    let xs : List Symbol = c.args.symbols.now in
    let x : Symbol = c.symbol-item.result in (
      λ ns table. step (λ l. flat_map (λ s. symbol_bytes (symbol_record ns c.args.last s)) (map symbol_of l))
          (λ s. symbol_bytes (symbol_record ns c.args.last (symbol_of s))) (λ y ys. refl) xs c.loop-symbol.symbol-index x x c.loop-symbol-test.true
          c.symbol-item.is _ _ _ (c.in_ok-put_symbol.ensures.written ns table) (c.loop-symbol.invariant.0 ns table),
      All-more IsKnown xs c.loop-symbol.symbol-index x c.loop-symbol-test.true c.loop-symbol.invariant.1
          (subst IsKnown c.symbol-item.is c.in_ok-put_symbol.ensures.known),
    )

pub returns-clause-known : goal.returns-clause-known
returns-clause-known c =
    each_map_passed IsSymbol symbol_of c.args.symbols.now c.loop-symbol.symbol-index c.loop-symbol-test.false c.loop-symbol.invariant.1

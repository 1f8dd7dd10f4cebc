use Rattle.std.proofs.Common.{◌<◌, ◌≤◌, ◌++◌, ◌+◌, length, drop, rules, refl, subst}
use Rattle.std.proofs.lemmas.List.{at_drop_all}
use Rattle.std.proofs.lemmas.Result.{err_from_is_err_and}
use Rattle.rv_object_types.specs.Parts.{symbol_of}
use Rattle.rv_object_laws.specs.Bindings.{is_global}
use Rattle.rv_names.specs.Chosen.{seen, definers_at, definers_in}
use Rattle.rv_names.specs.Names.{IsDefinitionTable}
use Rattle.rv_names.proofs.LoadingLemmas.{seen_symbols, symbols_left, HasBut, all_had, one_more, one_refused}
use Rattle.rv_names.proofs.definitions.Definitions.put_all.Goals as goal

pub loop-index-init : goal.loop-index-init
loop-index-init c = λ ds table. (ds, table, refl)

pub loop-index-preserved : goal.loop-index-preserved
loop-index-preserved c = λ ds table.
    let i = c.loop-index.index in
    let xs = c.args.symbols.now in
    let x = c.index-symbols-index.result in
    let file = c.args.file.0 in
    let inside : i < length xs = search rules in
    one_more (λ l. IsDefinitionTable l c.loop-index.self) (ds ++ definers_in is_global file 0 (seen_symbols xs)) _ (definers_at is_global file i (seen (symbol_of x))) (definers_in is_global file (i + 1) (seen_symbols (drop (i + 1) xs)))
    (symbols_left is_global file xs i x inside c.index-symbols-index.is) (c.loop-index.invariant ds table) (λ l. IsDefinitionTable l c.put.new.self) c.in_ok-put.ensures.added

pub returns-in_err-put-clause-refuses : goal.returns-in_err-put-clause-refuses
returns-in_err-put-clause-refuses c =
    let i = c.loop-index.index in
    let xs = c.args.symbols.now in
    let x = c.index-symbols-index.result in
    let file = c.args.file.0 in
    let inside : i < length xs = search rules in
    let found = err_from_is_err_and c.from_residual.result c.from_residual.ensures.1 in
    rw (found.1, found.2) (λ ds table.
    one_refused (λ l. IsDefinitionTable l c.loop-index.self) (ds ++ definers_in is_global file 0 (seen_symbols xs)) _ (definers_at is_global file i (seen (symbol_of x))) (definers_in is_global file (i + 1) (seen_symbols (drop (i + 1) xs)))
    (symbols_left is_global file xs i x inside c.index-symbols-index.is) (c.loop-index.invariant ds table) c.in_err-put.field-0.0 c.in_err-put.ensures.refuses)

pub returns-clause-added : goal.returns-clause-added
returns-clause-added c = λ ds table.
    let n = c.loop-index.index in
    let xs = c.args.symbols.now in
    let all = ds ++ definers_in is_global c.args.file.0 0 (seen_symbols xs) in
    let past : length xs ≤ n = search rules in
    all_had (λ l. IsDefinitionTable l c.loop-index.self) all (subst (HasBut (λ l. IsDefinitionTable l c.loop-index.self) all) (at_drop_all (λ l. definers_in is_global c.args.file.0 n (seen_symbols l)) xs n past) (c.loop-index.invariant ds table))

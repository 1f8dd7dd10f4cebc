use Rattle.std.proofs.Common.{◌<◌, ◌≤◌, ◌++◌, ◌+◌, length, drop, rules, refl, subst}
use Rattle.std.proofs.lemmas.List.{at_drop_all}
use Rattle.rv_object_types.specs.Parts.{symbol_of}
use Rattle.rv_object_laws.specs.Bindings.{is_weak}
use Rattle.rv_names.specs.Chosen.{seen, definers_at, definers_in}
use Rattle.rv_names.specs.Names.{AnswersFirst}
use Rattle.rv_names.proofs.LoadingLemmas.{seen_symbols, symbols_left, HasBut, all_had, one_more}
use Rattle.rv_names.proofs.definitions.Definitions.put_weak_of.Goals as goal

pub loop-index-init : goal.loop-index-init
loop-index-init c = λ ds h. (ds, h, refl)

pub loop-index-preserved : goal.loop-index-preserved
loop-index-preserved c = λ ds h.
    let i = c.loop-index.index in
    let xs = c.args.symbols.now in
    let x = c.index-symbols-index.result in
    let file = c.args.file.0 in
    let inside : i < length xs = search rules in
    one_more (λ l. AnswersFirst l c.loop-index.self) (ds ++ definers_in is_weak file 0 (seen_symbols xs)) _ (definers_at is_weak file i (seen (symbol_of x))) (definers_in is_weak file (i + 1) (seen_symbols (drop (i + 1) xs)))
    (symbols_left is_weak file xs i x inside c.index-symbols-index.is) (c.loop-index.invariant ds h) (λ l. AnswersFirst l c.put_weak_one.new.self) c.in_ok-put_weak_one.ensures

pub returns : goal.returns
returns c = λ ds h.
    let n = c.loop-index.index in
    let xs = c.args.symbols.now in
    let all = ds ++ definers_in is_weak c.args.file.0 0 (seen_symbols xs) in
    let past : length xs ≤ n = search rules in
    all_had (λ l. AnswersFirst l c.loop-index.self) all
    (subst (HasBut (λ l. AnswersFirst l c.loop-index.self) all) (at_drop_all (λ l. definers_in is_weak c.args.file.0 n (seen_symbols l)) xs n past) (c.loop-index.invariant ds h))

use Rattle.std.proofs.Common.{◌<◌, ◌≤◌, ◌+◌, ◌++◌, ◌∷◌, ◌∙◌, [], length, map, drop, rules, ap, sym, append-nil}
use Rattle.std.proofs.lemmas.List.{at_drop_all}
use Rattle.rv_list_laws.proofs.ElementsLemmas.{append_pushed}
use Rattle.rv_list_laws.proofs.TakeDropLemmas.{drop_read}
use Rattle.rv_object_types.specs.Parts.{symbol_of}
use Rattle.rv_names.specs.Chosen.{seen}
use Rattle.rv_names.specs.Names.{outside}
use Rattle.rv_names.proofs.LoadingLemmas.{seen_symbols}
use Rattle.rv_names.proofs.meanings.file_meanings.Goals as goal

pub loop-index-init : goal.loop-index-init
loop-index-init c = λ ds h has. ap (λ l. l ++ map (outside ds) (seen_symbols c.args.symbols.now)) c.in_ok-row.ensures.items

pub loop-index-preserved : goal.loop-index-preserved
loop-index-preserved c = λ ds h has.
    let i = c.loop-index.index in
    let xs = c.args.symbols.now in
    let x = c.index-symbols-index.result in
    let inside : i < length xs = search rules in
    let items = c.loop-index.row.items in
    append_pushed items c.push.new.self.items _ (map (outside ds) (seen_symbols (drop (i + 1) xs))) (map (outside ds) (seen_symbols xs)) (outside ds (seen (symbol_of x)))
    (c.in_ok-push.ensures.items ∙ ap (λ m. items ++ m ∷ []) (c.meaning.ensures ds h has)) (ap (λ l. map (outside ds) (seen_symbols l)) (drop_read xs i x inside c.index-symbols-index.is)) (c.loop-index.invariant ds h has)

pub returns : goal.returns
returns c = λ ds h has.
    let n = c.loop-index.index in
    let xs = c.args.symbols.now in
    let items = c.loop-index.row.items in
    let past : length xs ≤ n = search rules in
    sym (append-nil items) ∙ sym (at_drop_all (λ l. items ++ map (outside ds) (seen_symbols l)) xs n past) ∙ c.loop-index.invariant ds h has

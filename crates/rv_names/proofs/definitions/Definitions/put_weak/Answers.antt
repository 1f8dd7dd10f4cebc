use Rattle.std.proofs.Common.{◌<◌, ◌≤◌, ◌++◌, ◌+◌, List, length, map, drop, rules, refl, sym, ap, subst, ◌∙◌}
use Rattle.std.proofs.lemmas.List.{at_drop_all}
use Rattle.rv_object_types.specs.declared.object.Object.{Object as DeclaredObject}
use Rattle.rv_object_types.specs.View.{object_of}
use Rattle.rv_object_laws.specs.Bindings.{is_weak}
use Rattle.rv_names.specs.Chosen.{Definer, seen_of, definers_in, definers_from}
use Rattle.rv_names.specs.Names.{AnswersFirst}
use Rattle.rv_names.proofs.LoadingLemmas.{seen_symbols, files_left, HasBut, all_had, one_more}
use Rattle.rv_names.proofs.definitions.Definitions.put_weak.Goals as goal

pub loop-file-init : goal.loop-file-init
loop-file-init c = λ ds h. (ds, h, refl)

pub loop-file-preserved : goal.loop-file-preserved
loop-file-preserved c = λ ds h.
    let i = c.loop-file.file in
    let xs = c.args.objects.now in
    let x = c.index-objects-file.result in
    let inside : i < length xs = search rules in
    let own = definers_in is_weak i 0 (seen_symbols x.symbols.items) in
    let symbols = c.as_slice.ensures.value ∙ ap (λ (y : DeclaredObject). y.symbols.items) (sym c.index-objects-file.is) in
    let put : (es : List Definer) → AnswersFirst es c.loop-file.self → AnswersFirst (es ++ own) c.put_weak_of.new.self =
    subst (λ l. (es : List Definer) → AnswersFirst es c.loop-file.self → AnswersFirst (es ++ definers_in is_weak i 0 (seen_symbols l)) c.put_weak_of.new.self) symbols c.in_ok-put_weak_of.ensures in
    one_more (λ l. AnswersFirst l c.loop-file.self) (ds ++ definers_from is_weak 0 (seen_of (map object_of xs))) _ own (definers_from is_weak (i + 1) (seen_of (map object_of (drop (i + 1) xs))))
    (files_left is_weak xs i x inside c.index-objects-file.is) (c.loop-file.invariant ds h) (λ l. AnswersFirst l c.put_weak_of.new.self) put

pub returns : goal.returns
returns c = λ ds h.
    let n = c.loop-file.file in
    let xs = c.args.objects.now in
    let all = ds ++ definers_from is_weak 0 (seen_of (map object_of xs)) in
    let past : length xs ≤ n = search rules in
    all_had (λ l. AnswersFirst l c.loop-file.self) all
    (subst (HasBut (λ l. AnswersFirst l c.loop-file.self) all) (at_drop_all (λ l. definers_from is_weak n (seen_of (map object_of l))) xs n past) (c.loop-file.invariant ds h))

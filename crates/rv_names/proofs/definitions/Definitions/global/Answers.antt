use Rattle.std.proofs.Common.{◌<◌, ◌≤◌, ◌++◌, ◌+◌, [], List, ℕ, length, map, drop, rules, refl, sym, ap, subst, ◌∙◌}
use Rattle.std.specs.Borrow.{Bor}
use Rattle.std.specs.BTreeMap.{is_at}
use Rattle.std.specs.Cmp.Lexicographic.{slice_cmp}
use Rattle.std.specs.Ordering.{nat_cmp}
use Rattle.std.specs.Map.{lookup}
use Rattle.std.proofs.lemmas.List.{at_drop_all}
use Rattle.std.proofs.lemmas.Result.{err_from_is_err_and}
use Rattle.rv_object_types.specs.declared.object.Object.{Object as DeclaredObject}
use Rattle.rv_object_types.specs.View.{object_of}
use Rattle.rv_object_laws.specs.Bindings.{is_global}
use Rattle.rv_names.specs.Chosen.{Definer, seen_of, definers_in, definers_from}
use Rattle.rv_names.specs.Names.{IsDefinitionTable, IsRefused}
use Rattle.rv_names.proofs.LoadingLemmas.{seen_symbols, files_left, HasBut, all_had, one_more, one_refused, global_definers, table_distinct, first_refused}
use Rattle.rv_names.proofs.definitions.Definitions.global.Goals as goal

pub loop-file-init : goal.loop-file-init
loop-file-init c = (
  [],
  record {
    answers = λ name. ap (λ es. lookup (is_at (λ (k : Bor (List ℕ)). slice_cmp nat_cmp name k.now)) es) c.new.ensures.empty;
    fresh = λ rest. refl;
  },
  refl,
)

pub loop-file-preserved : goal.loop-file-preserved
loop-file-preserved c =
    let i = c.loop-file.file in
    let xs = c.args.objects.now in
    let x = c.index-objects-file.result in
    let inside : i < length xs = search rules in
    let own = definers_in is_global i 0 (seen_symbols x.symbols.items) in
    let symbols = c.as_slice.ensures.value ∙ ap (λ (y : DeclaredObject). y.symbols.items) (sym c.index-objects-file.is) in
    let put : (ds : List Definer) → IsDefinitionTable ds c.loop-file.definitions → IsDefinitionTable (ds ++ own) c.put_all.new.self =
    subst (λ l. (ds : List Definer) → IsDefinitionTable ds c.loop-file.definitions → IsDefinitionTable (ds ++ definers_in is_global i 0 (seen_symbols l)) c.put_all.new.self) symbols c.in_ok-put_all.ensures.added in
    one_more (λ l. IsDefinitionTable l c.loop-file.definitions) (global_definers (map object_of xs)) _ own (definers_from is_global (i + 1) (seen_of (map object_of (drop (i + 1) xs)))) (files_left is_global xs i x inside c.index-objects-file.is)
    c.loop-file.invariant (λ l. IsDefinitionTable l c.put_all.new.self) put

pub returns-in_err-put_all-clause-refuses : goal.returns-in_err-put_all-clause-refuses
returns-in_err-put_all-clause-refuses c =
    let i = c.loop-file.file in
    let xs = c.args.objects.now in
    let x = c.index-objects-file.result in
    let inside : i < length xs = search rules in
    let found = err_from_is_err_and c.from_residual.result c.from_residual.ensures.1 in
    let fault = c.in_err-put_all.field-0.0 in
    let own = definers_in is_global i 0 (seen_symbols x.symbols.items) in
    let symbols = c.as_slice.ensures.value ∙ ap (λ (y : DeclaredObject). y.symbols.items) (sym c.index-objects-file.is) in
    let put : (ds : List Definer) → IsDefinitionTable ds c.loop-file.definitions → IsRefused fault (ds ++ own) =
    subst (λ l. (ds : List Definer) → IsDefinitionTable ds c.loop-file.definitions → IsRefused fault (ds ++ definers_in is_global i 0 (seen_symbols l))) symbols c.in_err-put_all.ensures.refuses in
    rw (found.1, found.2) (first_refused (map object_of xs) fault
    (one_refused (λ l. IsDefinitionTable l c.loop-file.definitions) (global_definers (map object_of xs)) _ own (definers_from is_global (i + 1) (seen_of (map object_of (drop (i + 1) xs)))) (files_left is_global xs i x inside c.index-objects-file.is)
    c.loop-file.invariant fault put))

pub returns-clause-answers : goal.returns-clause-answers
returns-clause-answers c =
    let n = c.loop-file.file in
    let xs = c.args.objects.now in
    let all = global_definers (map object_of xs) in
    let past : length xs ≤ n = search rules in
    (all_had (λ l. IsDefinitionTable l c.loop-file.definitions) all (subst (HasBut (λ l. IsDefinitionTable l c.loop-file.definitions) all) (at_drop_all (λ l. definers_from is_global n (seen_of (map object_of l))) xs n past) c.loop-file.invariant)).answers

pub returns-clause-distinct : goal.returns-clause-distinct
returns-clause-distinct c =
    let n = c.loop-file.file in
    let xs = c.args.objects.now in
    let all = global_definers (map object_of xs) in
    let past : length xs ≤ n = search rules in
    table_distinct (map object_of xs) c.loop-file.definitions
    (all_had (λ l. IsDefinitionTable l c.loop-file.definitions) all (subst (HasBut (λ l. IsDefinitionTable l c.loop-file.definitions) all) (at_drop_all (λ l. definers_from is_global n (seen_of (map object_of l))) xs n past) c.loop-file.invariant))

use Rattle.std.proofs.Common.{◌<◌, ◌≤◌, ◌+◌, ◌++◌, ◌∷◌, ◌∙◌, [], Option, List, length, map, drop, rules, ap, sym, append-nil}
use Rattle.std.specs.Global.{Vec}
use Rattle.std.proofs.lemmas.List.{at_drop_all, map_push}
use Rattle.rv_list_laws.proofs.ElementsLemmas.{append_pushed}
use Rattle.rv_list_laws.proofs.TakeDropLemmas.{drop_read}
use Rattle.rv_object_types.specs.declared.object.Object.{Object as DeclaredObject}
use Rattle.rv_object_types.specs.View.{object_of}
use Rattle.rv_names.specs.declared.definitions.Exported.{Exported}
use Rattle.rv_names.specs.Chosen.{Seen, seen_of, definitions}
use Rattle.rv_names.specs.Names.{outside}
use Rattle.rv_names.proofs.LoadingLemmas.{seen_symbols}
use Rattle.rv_names.proofs.meanings.Meanings.of.Goals as goal

abbrev rows_of : List (Vec (Option Exported)) → List (List (Option Exported))
rows_of rows = map (λ (row : Vec (Option Exported)). row.items) rows

pub loop-file-init : goal.loop-file-init
loop-file-init c = λ h.
    let one = outside (definitions (map object_of c.args.objects.now)) in
    ap (λ l. rows_of l ++ map (map one) (seen_of (map object_of c.args.objects.now))) c.new-files.ensures.items

pub loop-file-preserved : goal.loop-file-preserved
loop-file-preserved c = λ h.
    let i = c.loop-file.file in
    let xs = c.args.objects.now in
    let x = c.index-objects-file.result in
    let inside : i < length xs = search rules in
    let ds = definitions (map object_of xs) in
    let all : List (List Seen) → List (List (Option Exported)) = map (map (outside ds)) in
    let symbols = c.as_slice-symbols.ensures.value ∙ ap (λ (y : DeclaredObject). y.symbols.items) (sym c.index-objects-file.is) in
    let known = ap (λ (l : List (Vec (Option Exported))). rows_of l ++ all (seen_of (map object_of (drop i xs)))) c.as_slice.ensures.value ∙ c.loop-file.invariant h in
    let row = c.in_ok-row.ensures ds h (all (seen_of (map object_of (drop i xs))), known) ∙ ap (λ l. map (outside ds) (seen_symbols l)) symbols in
    let rows = c.loop-file.files.items in
    append_pushed (rows_of rows) (rows_of c.push.new.self.items) _ (all (seen_of (map object_of (drop (i + 1) xs)))) (all (seen_of (map object_of xs))) (map (outside ds) (seen_symbols x.symbols.items))
    (ap rows_of c.in_ok-push.ensures.items ∙ map_push (λ (r : Vec (Option Exported)). r.items) rows c.in_ok-row.row ∙ ap (λ r. rows_of rows ++ r ∷ []) row)
    (ap (λ l. all (seen_of (map object_of l))) (drop_read xs i x inside c.index-objects-file.is)) (c.loop-file.invariant h)

pub returns : goal.returns
returns c = λ h.
    let n = c.loop-file.file in
    let xs = c.args.objects.now in
    let past : length xs ≤ n = search rules in
    let one = outside (definitions (map object_of xs)) in
    let rows = rows_of c.loop-file.files.items in
    sym (append-nil rows) ∙ sym (at_drop_all (λ l. rows ++ map (map one) (seen_of (map object_of l))) xs n past) ∙ c.loop-file.invariant h

use Rattle.std.proofs.Common.{◌≡◌, ◌≤◌, ◌++◌, ◌∷◌, ◌+◌, ◌∙◌, [], Bool, List, length, map, drop, rules, ap, sym, append-nil}
use Rattle.std.specs.Global.{Vec}
use Rattle.std.proofs.lemmas.List.{at_drop_all, map_push}
use Rattle.rv_list_laws.proofs.TakeDropLemmas.{drop_read}
use Rattle.rv_list_laws.proofs.ElementsLemmas.{append_one_more}
use Rattle.rv_collect.proofs.RowsLemmas.{empty_row, none_marked, none_like, row_in}
use Rattle.rv_collect.specs.Drops.{mark_in}
use Rattle.rv_collect.proofs.marks.Marks.none.Goals as goal

abbrev rows : List (Vec Bool) → List (List Bool)
rows files = map (λ (row : Vec Bool). row.items) files

pub loop-object-preserved : goal.loop-object-preserved
loop-object-preserved c =
    let i = c.loop-object.object-index in
    let xs = c.args.objects.now in
    let x = c.object-item.result in
    let files = c.loop-object.files.items in
    let row : c.in_ok-row.row.items ≡ empty_row x = search rules in
    append_one_more (rows files) (rows c.push.new.self.items) (empty_row x) (map empty_row (drop (i + 1) xs)) (map empty_row (drop i xs)) (map empty_row xs)
    (ap rows c.in_ok-push.ensures.items ∙ map_push (λ (r : Vec Bool). r.items) files c.in_ok-row.row ∙ ap (λ r. rows files ++ r ∷ []) row)
    (ap (map empty_row) (drop_read xs i x c.loop-object-test.true c.object-item.is)) c.loop-object.invariant

pub returns-clause-none : goal.returns-clause-none
returns-clause-none c = λ file index.
    let xs = c.args.objects.now in
    let n = c.loop-object.object-index in
    let files = rows c.loop-object.files.items in
    let past : length xs ≤ n = search rules in
    let all : files ≡ map empty_row xs = sym (append-nil files) ∙ sym (at_drop_all (λ l. files ++ map empty_row l) xs n past) ∙ c.loop-object.invariant in
    ap (λ l. mark_in (row_in l file) index) all ∙ none_marked xs file index

pub returns-clause-like : goal.returns-clause-like
returns-clause-like c =
    let xs = c.args.objects.now in
    let n = c.loop-object.object-index in
    let files = rows c.loop-object.files.items in
    let past : length xs ≤ n = search rules in
    let all : files ≡ map empty_row xs = sym (append-nil files) ∙ sym (at_drop_all (λ l. files ++ map empty_row l) xs n past) ∙ c.loop-object.invariant in
    ap (map length) all ∙ none_like xs

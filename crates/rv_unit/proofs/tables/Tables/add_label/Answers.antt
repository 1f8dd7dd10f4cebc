use Rattle.std.proofs.Common.{rules, ◌≡◌, ℕ, ◌∙◌, ap, sym, true, false, ◌||◌, map, option_map, List, [], ◌∷◌, ◌++◌, Some, None}
use Rattle.std.specs.Prelude.{is_some}
use Rattle.std.specs.Borrow.{Bor}
use Rattle.std.specs.Map.{lookup}
use Rattle.std.specs.Str.{bytes_eq}
use Rattle.std.proofs.lemmas.List.{map-append}
use Rattle.indexmap.specs.IndexMap.{insert_entry}
use Rattle.indexmap.proofs.CallerLemmas.{insert_entry-new}
use Rattle.rv_unit_laws.specs.Tables.{label_of, assigned_ever}
use Rattle.rv_unit.specs.Tables.{tables_of, labelled_of, label_at, assignment_of}
use Rattle.rv_unit.proofs.LookupsLemmas.{with_label_old, with_label_new, label_found, same_name, put_back}
use Rattle.rv_unit.proofs.tables.Tables.add_label.Goals as goal
use Rattle.std.proofs.lemmas.Bool.{or_left, or_from, or_right}
use Rattle.rv_list_laws.proofs.OptionsLemmas.{is_some_map_back}

pub returns-then-is_some-clause-tables : goal.returns-then-is_some-clause-tables
returns-then-is_some-clause-tables c = λ i h.
    let t = tables_of c.args.self.now in
    let is : is_some c.assignment.result ≡ true = search rules in
    with_label_old t c.args.ordinal c.args.name.now h
    (or_right (is_some (label_of t.labels true 0 c.args.name.now)) (is_some (assigned_ever t.assignments c.args.name.now))
    (ap is_some (sym (c.assignment.ensures i)) ∙ sym (is_some_map_back assignment_of c.assignment.result) ∙ is))

pub returns-in-Some-clause-tables : goal.returns-in-Some-clause-tables
returns-in-Some-clause-tables c = λ i h.
    let t = tables_of c.args.self.now in
    let es = c.args.self.now.labels.entries in
    let name = c.args.name.now in
    let found : lookup (λ (k : Bor (List ℕ)). bytes_eq name k.now) es ≡ Some c.in-Some.first = sym c.in_ok-before.ensures.old ∙ c.in-Some.is in
    let kept : c.insert-in-Some.new.self.entries ≡ es =
    c.in_ok-insert.ensures.entries ∙ ap (λ l. insert_entry same_name l c.args.name c.in-Some.first) c.in_ok-before.ensures.entries
    ∙ put_back c.args.name es (record { ordinal = c.args.ordinal; place = c.here-place.result }) c.in-Some.first found in
    let some : is_some (label_of t.labels true 0 name) ≡ true = ap is_some (sym (label_found name es) ∙ ap (option_map (label_at name)) found) in
    ap (λ l. record t { labels = map labelled_of l }) kept
    ∙ with_label_old t c.args.ordinal name h (or_left (is_some (label_of t.labels true 0 name)) (is_some (assigned_ever t.assignments name)) some)

pub returns-clause-tables : goal.returns-clause-tables
returns-clause-tables c = λ i h.
    let t = tables_of c.args.self.now in
    let es = c.args.self.now.labels.entries in
    let name = c.args.name.now in
    let none : lookup (λ (k : Bor (List ℕ)). bytes_eq name k.now) es ≡ None = sym c.in_ok-before.ensures.old ∙ c.in_default.is in
    let unset : is_some c.assignment.result ≡ false = search rules in
    let free : (is_some (label_of t.labels true 0 name) || is_some (assigned_ever t.assignments name)) ≡ false =
    or_from (is_some (label_of t.labels true 0 name)) (is_some (assigned_ever t.assignments name))
    (ap is_some (sym (label_found name es) ∙ ap (option_map (label_at name)) none))
    (ap is_some (sym (c.assignment.ensures i)) ∙ sym (is_some_map_back assignment_of c.assignment.result) ∙ unset) in
    with_label_new t c.args.ordinal name (map labelled_of c.insert.new.self.entries) h free
    (ap (map labelled_of) (c.in_ok-before.ensures.entries ∙ insert_entry-new (λ (a b : Bor (List ℕ)). bytes_eq a.now b.now) c.args.self.now.labels c.args.name (record { ordinal = c.args.ordinal; place = c.here-place.result }) none)
    ∙ map-append labelled_of es ((c.args.name, record { ordinal = c.args.ordinal; place = c.here-place.result }) ∷ [])
    ∙ ap (λ p. map labelled_of es ++ record { name = name; ordinal = c.args.ordinal; place = p } ∷ []) c.here-place.ensures)

use Rattle.std.proofs.Common.{◌∙◌, ap, sym, map}
use Rattle.std.specs.List.{list_any}
use Rattle.std.specs.Str.{bytes_eq}
use Rattle.rv_statement.specs.View.{now_of}
use Rattle.rv_unit_laws.specs.Bindings.{is_weak}
use Rattle.rv_unit.specs.Tables.{tables_of, binding_in}
use Rattle.rv_unit.proofs.BoundLemmas.{none_weak}
use Rattle.rv_unit.proofs.GivesLemmas.{on_ok}
use Rattle.rv_unit.proofs.tables.Tables.bind.Goals as goal

pub returns-clause-tables : goal.returns-clause-tables
returns-clause-tables c =
    on_ok c.bind_all.result _ _ (λ f i. record (tables_of c.args.self.now) { bindings = λ name. f name i }) c.bind_all.ensures

pub returns-clause-indexed : goal.returns-clause-indexed
returns-clause-indexed c =
    let b = c.args.self.now in
    on_ok c.bind_all.result _ _
    (λ f i. record {
      numbers = i.numbers;
      assignments = i.assignments;
      weak = λ name none.
          ap is_weak (f name)
          ∙ none_weak b.has_weak c.args.binding (binding_in b.bindings name) (list_any (λ n. bytes_eq n name) (map now_of c.args.names.now)) (i.weak name) (sym c.weak_after-self.ensures ∙ none);
      numbered = i.numbered;
    })
    c.bind_all.ensures

use Rattle.std.proofs.Common.{◌∙◌, ◌-◌, ap, sym, [], length, filter, option_map}
use Rattle.std.specs.Prelude.{slice_get}
use Rattle.std.specs.Option.{option_map_or, option_copied}
use Rattle.std.specs.Str.{bytes_eq}
use Rattle.rv_list_laws.proofs.FindLemmas.{last_found}
use Rattle.rv_unit.specs.declared.tables.Assignment.{Assignment}
use Rattle.rv_unit.specs.Tables.{assignment_of}
use Rattle.rv_unit.proofs.OrderedLemmas.{assigned_at}
use Rattle.rv_unit.proofs.tables.Tables.assignment.Goals as goal

pub returns-in-Some : goal.returns-in-Some
returns-in-Some c = λ i.
    let n = c.args.name.now in
    let xs = c.args.self.now.assignments.items in
    let kept = assigned_at c.get.result _ (filter (λ (g : Assignment). bytes_eq g.name.now n) xs) c.as_slice.result.now c.get.ensures.value (i.assignments n) (ap (λ o. option_map_or (λ v. v.items) (option_copied o) []) c.in-Some.is ∙ sym c.as_slice.ensures.value) in
    ap (option_map assignment_of) (c.copied.ensures ∙ c.last.ensures.value ∙ ap (λ l. slice_get l (length l - 1)) kept)
    ∙ last_found assignment_of (λ s. bytes_eq s.name n) xs

pub returns-in-None : goal.returns-in-None
returns-in-None c = λ i.
    let n = c.args.name.now in
    let xs = c.args.self.now.assignments.items in
    let kept = assigned_at c.get.result _ (filter (λ (g : Assignment). bytes_eq g.name.now n) xs) [] c.get.ensures.value (i.assignments n) (ap (λ o. option_map_or (λ v. v.items) (option_copied o) []) c.in-None.is) in
    ap (λ l. option_map assignment_of (slice_get l (length l - 1))) kept
    ∙ last_found assignment_of (λ s. bytes_eq s.name n) xs

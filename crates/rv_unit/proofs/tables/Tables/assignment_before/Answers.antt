use Rattle.std.proofs.Common.{◌∙◌, ap, sym, [], nat_lt, filter, option_map}
use Rattle.std.specs.List.{find}
use Rattle.std.specs.Prelude.{reverse}
use Rattle.std.specs.Option.{option_map_or, option_copied}
use Rattle.std.specs.Str.{bytes_eq}
use Rattle.rv_list_laws.proofs.FindLemmas.{before_found}
use Rattle.rv_unit.specs.declared.tables.Assignment.{Assignment}
use Rattle.rv_unit.specs.Tables.{assignment_of}
use Rattle.rv_unit.proofs.OrderedLemmas.{in_order, assigned_at}
use Rattle.rv_unit.proofs.tables.Tables.assignment_before.Goals as goal

pub returns-in-Some : goal.returns-in-Some
returns-in-Some c = λ i o h.
    let n = c.args.name.now in
    let xs = c.args.self.now.assignments.items in
    let kept = assigned_at c.get.result _ (filter (λ (g : Assignment). bytes_eq g.name.now n) xs) c.as_slice.result.now c.get.ensures.value (i.assignments n) (ap (λ o. option_map_or (λ v. v.items) (option_copied o) []) c.in-Some.is ∙ sym c.as_slice.ensures.value) in
    ap (option_map assignment_of)
    (c.latest_before.ensures (in_order assignment_of (λ s. s.ordinal) (λ (g : Assignment). bytes_eq g.name.now n) xs c.as_slice.result.now h.assignments_fall kept)
    ∙ ap (λ l. find (λ (g : Assignment). nat_lt g.ordinal c.args.ordinal) (reverse l)) kept)
    ∙ before_found assignment_of (λ s. nat_lt s.ordinal c.args.ordinal) (λ s. bytes_eq s.name n) xs

pub returns-in-None : goal.returns-in-None
returns-in-None c = λ i o h.
    let n = c.args.name.now in
    let xs = c.args.self.now.assignments.items in
    let kept = assigned_at c.get.result _ (filter (λ (g : Assignment). bytes_eq g.name.now n) xs) [] c.get.ensures.value (i.assignments n) (ap (λ o. option_map_or (λ v. v.items) (option_copied o) []) c.in-None.is) in
    ap (λ l. option_map assignment_of (find (λ (g : Assignment). nat_lt g.ordinal c.args.ordinal) (reverse l))) kept
    ∙ before_found assignment_of (λ s. nat_lt s.ordinal c.args.ordinal) (λ s. bytes_eq s.name n) xs

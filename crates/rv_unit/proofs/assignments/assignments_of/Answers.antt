use Rattle.std.proofs.Common.{◌∙◌, ap, sym, []}
use Rattle.std.specs.Option.{option_map_or}
use Rattle.rv_unit.proofs.assignments.assignments_of.Goals as goal

pub returns-in-Some-clause-items : goal.returns-in-Some-clause-items
returns-in-Some-clause-items c = ap (λ o. option_map_or (λ v. v.items) o []) (sym c.in-Some.is ∙ c.swap_remove.ensures.value)

pub returns-in-Some-clause-others : goal.returns-in-Some-clause-others
returns-in-Some-clause-others c = λ other apart. ap (λ o. option_map_or (λ v. v.items) o []) (c.swap_remove.ensures.updates.2 (record { ref_ptr = (0, 0); now = other }) apart)

pub returns-in-None-clause-items : goal.returns-in-None-clause-items
returns-in-None-clause-items c = c.new.ensures.items ∙ ap (λ o. option_map_or (λ v. v.items) o []) (sym c.in-None.is ∙ c.swap_remove.ensures.value)

pub returns-in-None-clause-others : goal.returns-in-None-clause-others
returns-in-None-clause-others c = λ other apart. ap (λ o. option_map_or (λ v. v.items) o []) (c.swap_remove.ensures.updates.2 (record { ref_ptr = (0, 0); now = other }) apart)

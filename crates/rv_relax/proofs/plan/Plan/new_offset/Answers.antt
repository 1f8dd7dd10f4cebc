use Rattle.std.proofs.Common.{[], ◌+◌, ◌++◌, ap, sym, ◌∙◌}
use Rattle.rv_relax.specs.Told.{offset_among, planned_text}
use Rattle.rv_relax.proofs.ToldLemmas.{all_passed}
use Rattle.rv_relax.proofs.plan.Plan.new_offset.Goals as goal

pub returns-in-Some : goal.returns-in-Some
returns-in-Some c =
    all_passed (planned_text c.args.self.now.objects.items) c.args.old c.in-Some.new (ap (λ l. 0 + offset_among (planned_text l ++ []) c.args.old) (sym c.as_slice.ensures.value) ∙ c.in-Some.ensures.passed [])

pub returns-in-None : goal.returns-in-None
returns-in-None c =
    let at = c.passed_all.new.standing in
    all_passed (planned_text c.args.self.now.objects.items) c.args.old (at.before + at.left) (ap (λ l. 0 + offset_among (planned_text l ++ []) c.args.old) (sym c.as_slice.ensures.value) ∙ c.in-None.ensures.passed [])

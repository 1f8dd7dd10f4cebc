use Rattle.std.proofs.Common.{[], ◌++◌, ap, sym, ◌∙◌}
use Rattle.std.specs.List.{slice_get}
use Rattle.rv_relax.specs.Told.{told_objects}
use Rattle.rv_relax.proofs.ToldLemmas.{at_index, past_all}
use Rattle.rv_relax.proofs.plan.Plan.told.Goals as goal

pub returns-in-Some : goal.returns-in-Some
returns-in-Some c =
    let told = told_objects c.args.counted in
    at_index (told c.args.self.now.objects.items) c.args.i c.in-Some.bytes (ap (λ l. slice_get (told l ++ []) c.args.i) (sym c.as_slice.ensures.value) ∙ c.in-Some.ensures [])

pub returns-in-None : goal.returns-in-None
returns-in-None c =
    let told = told_objects c.args.counted in
    past_all (told c.args.self.now.objects.items) c.args.i c.found_in_all.new.left (ap (λ l. slice_get (told l ++ []) c.args.i) (sym c.as_slice.ensures.value) ∙ c.in-None.ensures [])

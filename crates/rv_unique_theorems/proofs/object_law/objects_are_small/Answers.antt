use Rattle.rv_unique_theorems.proofs.SmallLemmas.{few_sections, short_sections}
use Rattle.rv_unique_theorems.proofs.object_law.objects_are_small.Goals as goal

pub returns-clause-few : goal.returns-clause-few
returns-clause-few c = few_sections

pub returns-clause-short : goal.returns-clause-short
returns-clause-short c = short_sections

use Rattle.rv_raw_theorems.proofs.MeaningLemmas.{parts_are, filled_is, forms_are}
use Rattle.rv_raw_theorems.proofs.reading.statements_are_instructions.Goals as goal

pub returns-clause-parts : goal.returns-clause-parts
returns-clause-parts c = parts_are

pub returns-clause-filled : goal.returns-clause-filled
returns-clause-filled c = filled_is

pub returns-clause-forms : goal.returns-clause-forms
returns-clause-forms c = forms_are

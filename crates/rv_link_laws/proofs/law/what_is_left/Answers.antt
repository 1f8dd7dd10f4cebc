use Rattle.rv_link_laws.proofs.InputsLeftLemmas.{loaded_is, text_is, rodata_is, data_is, bss_is, inputs_left}
use Rattle.rv_link_laws.proofs.WholeLemmas.{whole_left}
use Rattle.rv_link_laws.proofs.WithoutLemmas.{as_many_objects, object_left}
use Rattle.rv_link_laws.proofs.law.what_is_left.Goals as goal

pub returns-clause-whole : goal.returns-clause-whole
returns-clause-whole c = whole_left

pub returns-clause-many : goal.returns-clause-many
returns-clause-many c = as_many_objects

pub returns-clause-object : goal.returns-clause-object
returns-clause-object c = object_left

pub returns-clause-loaded : goal.returns-clause-loaded
returns-clause-loaded c = (loaded_is, text_is, rodata_is, data_is, bss_is)

pub returns-clause-inputs : goal.returns-clause-inputs
returns-clause-inputs c = inputs_left

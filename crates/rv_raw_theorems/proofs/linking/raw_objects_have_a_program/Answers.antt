use Rattle.rv_raw_theorems.proofs.ProgramsLemmas.{has_program}
use Rattle.rv_raw_theorems.proofs.linking.raw_objects_have_a_program.Goals as goal

pub returns : goal.returns
returns c before after h o is start begins fits relax gc fault n = has_program before after h o is start begins fits relax gc fault n

use Rattle.rv_reloc.proofs.ImmediatesLemmas.{i_held, s_held, b_held, u_held, j_held, cb_held, cj_held, six_held}
use Rattle.rv_reloc.proofs.laws.immediates_are_held.Goals as goal

pub returns-clause-i_type : goal.returns-clause-i_type
returns-clause-i_type c = i_held

pub returns-clause-s_type : goal.returns-clause-s_type
returns-clause-s_type c = s_held

pub returns-clause-b_type : goal.returns-clause-b_type
returns-clause-b_type c = b_held

pub returns-clause-u_type : goal.returns-clause-u_type
returns-clause-u_type c = u_held

pub returns-clause-j_type : goal.returns-clause-j_type
returns-clause-j_type c = j_held

pub returns-clause-cb_type : goal.returns-clause-cb_type
returns-clause-cb_type c = cb_held

pub returns-clause-cj_type : goal.returns-clause-cj_type
returns-clause-cj_type c = cj_held

pub returns-clause-low_six : goal.returns-clause-low_six
returns-clause-low_six c = six_held

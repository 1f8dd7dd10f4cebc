use Rattle.std.proofs.Common.{refl}
use Rattle.rv_archive_laws.specs.Names.{member_name}
use Rattle.rv_archive_laws.proofs.worked.slashes_end_names.Goals as goal

pub returns-clause-sharp : goal.returns-clause-sharp
unfolding member_name
returns-clause-sharp c = refl

pub returns-clause-index : goal.returns-clause-index
unfolding member_name
returns-clause-index c = refl

pub returns-clause-long : goal.returns-clause-long
unfolding member_name
returns-clause-long c = refl

pub returns-clause-sorted : goal.returns-clause-sorted
unfolding member_name
returns-clause-sorted c = refl

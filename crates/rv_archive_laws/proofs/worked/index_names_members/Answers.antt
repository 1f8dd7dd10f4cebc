use Rattle.std.proofs.Common.{refl}
use Rattle.rv_archive_laws.specs.Index.{entries_in}
use Rattle.rv_archive_laws.proofs.worked.index_names_members.Goals as goal

pub returns-clause-entries : goal.returns-clause-entries
unfolding entries_in
returns-clause-entries c = refl

pub returns-clause-nowhere : goal.returns-clause-nowhere
unfolding entries_in
returns-clause-nowhere c = refl

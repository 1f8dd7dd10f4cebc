use Rattle.std.proofs.Common.{refl, arith}
use Rattle.std.specs.Prelude.{Ok}
use Rattle.rv_archive_laws.specs.Parts.{part_at}
use Rattle.rv_archive_laws.specs.Names.{member_name}
use Rattle.rv_archive_laws.specs.Worked.{worked_parts}
use Rattle.rv_archive_laws.proofs.worked.texts_are_members.Goals as goal

pub returns-clause-parts : goal.returns-clause-parts
unfolding part_at
returns-clause-parts c = (226, (refl, (refl, (refl, refl))), omega arith)

pub returns-clause-members : goal.returns-clause-members
unfolding member_name
returns-clause-members c = refl

pub returns-clause-read : goal.returns-clause-read
unfolding part_at member_name
returns-clause-read c = (Ok worked_parts, (226, (refl, (refl, (refl, refl))), omega arith), refl)

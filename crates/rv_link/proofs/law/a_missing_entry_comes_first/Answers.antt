use Rattle.rv_link.proofs.MissingLemmas.{missing_undefined, missing_first, missing_told}
use Rattle.rv_link.proofs.law.a_missing_entry_comes_first.Goals as goal

pub returns-clause-references : goal.returns-clause-references
returns-clause-references c = missing_undefined

pub returns-clause-first : goal.returns-clause-first
returns-clause-first c = missing_first

pub returns-clause-told : goal.returns-clause-told
returns-clause-told c = missing_told

use Rattle.rv_archive_laws.proofs.OneSelectionLemmas as selections
use Rattle.rv_archive_laws.proofs.law.one_selection.Goals as goal

pub returns : goal.returns
returns c = selections.one_selection

use Rattle.rv_library.proofs.checking.rv_check.Goals as goal

pub returns : goal.returns
returns c = (c.findings_of-found.result, c.findings_of-found.ensures, c.give_checked.ensures)

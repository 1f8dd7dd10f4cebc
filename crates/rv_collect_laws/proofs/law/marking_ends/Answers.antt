use Rattle.rv_collect_laws.proofs.MarksLemmas.{marks_few, ends_least, closed_or_more}
use Rattle.rv_collect_laws.proofs.law.marking_ends.Goals as goal

pub returns-clause-few : goal.returns-clause-few
returns-clause-few c = marks_few

pub returns-clause-least : goal.returns-clause-least
returns-clause-least c = ends_least

pub returns-clause-more : goal.returns-clause-more
returns-clause-more c = closed_or_more

use Rattle.rv_examples.proofs.FiguresProgramLemmas.{fits}
use Rattle.rv_examples.proofs.worked.figures_fit.Goals as goal

pub returns : goal.returns
returns c = fits

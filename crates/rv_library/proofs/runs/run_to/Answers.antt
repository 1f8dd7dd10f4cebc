use Rattle.rv_image.specs.Views.{image_of}
use Rattle.rv_library.proofs.RunsLemmas.{reached_of}
use Rattle.rv_library.proofs.runs.run_to.Goals as goal

pub returns : goal.returns
returns c = reached_of c.args.file.now c.args.input.now c.args.steps (image_of c.in_ok-image.image) c.reached_from.result c.in_ok-image.ensures.image c.reached_from.ensures.reached c.reached_from.ensures.refused

use Rattle.rv_image.specs.Views.{image_of}
use Rattle.rv_library.proofs.RunsLemmas.{ran_of}
use Rattle.rv_library.proofs.runs.ran.Goals as goal

pub returns : goal.returns
returns c =
    ran_of c.args.file.now c.args.input.now c.args.limit (image_of c.in_ok-image.image) c.ran_image.result c.in_ok-image.ensures.image c.ran_image.ensures.runs c.ran_image.ensures.count
    c.ran_image.ensures.refused

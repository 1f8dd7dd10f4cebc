use Rattle.std.proofs.Common.{[], ◌∙◌}
use Rattle.rv_isa_laws.specs.Hart.{start}
use Rattle.rv_image.specs.Views.{image_of}
use Rattle.rv_image_laws.specs.Memory.{mem_of}
use Rattle.rv_memory.specs.HeldPages.{held_pages}
use Rattle.rv_machine.specs.Hart.{hart_of}
use Rattle.rv_library.proofs.RunsLemmas.{reached_on}
use Rattle.rv_library.proofs.runs.reached_from.Goals as goal

pub returns-clause-reached : goal.returns-clause-reached
returns-clause-reached c =
    let image = image_of c.args.image in
    let machine = c.new-machine.result in
    let input = c.args.input.now in
    reached_on c.run_on.result (hart_of machine.hart input []) (start image.entry input) (held_pages machine.memory) (mem_of image) input c.args.steps
    (c.new-machine.ensures.hart input) (c.new-machine.ensures.memory ∙ c.in_ok-new.ensures) c.run_on.ensures.reached

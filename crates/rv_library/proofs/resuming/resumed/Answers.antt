use Rattle.std.proofs.Common.{◌≡◌, [], drop, sym, ap, ◌∙◌, subst, Option, Some, IfOk}
use Rattle.rv_image.specs.Views.{image_of}
use Rattle.rv_image_laws.specs.Image.{Image}
use Rattle.rv_image_laws.specs.Memory.{mem_of}
use Rattle.rv_machine.specs.Hart.{hart_of}
use Rattle.rv_memory.specs.HeldPages.{held_pages}
use Rattle.rv_states.specs.Keeps.{Keeps}
use Rattle.rv_states.specs.Snapshot.{state_in}
use Rattle.rv_states.specs.Views.{resumed_state}
use Rattle.rv_states.specs.declared.snapshot_reading.Resumed.{Resumed}
use Rattle.rv_library.specs.Resumed.{IsResumedFrom}
use Rattle.rv_library.proofs.RunsLemmas.{resumed_of}
use Rattle.rv_library.proofs.resuming.resumed.Goals as goal

pub resumed_from-requires-clause-kept : goal.resumed_from-requires-clause-kept
resumed_from-requires-clause-kept c =
    let memory = held_pages c.in-Some.state.machine.memory in
    let image = image_of c.in_ok-image.image in
    let found : state_in image c.args.input.now c.args.from.now
    ≡ Some (hart_of c.in-Some.state.machine.hart (drop c.in-Some.state.taken c.args.input.now) [], memory) =
    sym c.in_ok-state.ensures.state ∙ ap (λ (o : Option Resumed). resumed_state o c.args.input.now) c.in-Some.is in
    subst (λ (i : Image). Keeps (mem_of i) memory) (sym c.in_ok-again.ensures.view) (c.snapshots_keep.ensures image c.args.input.now c.args.from.now _ memory found)

pub returns-in-Some : goal.returns-in-Some
returns-in-Some c =
    let memory = held_pages c.in-Some.state.machine.memory in
    let hart = hart_of c.in-Some.state.machine.hart (drop c.in-Some.state.taken c.args.input.now) [] in
    let image = image_of c.in_ok-image.image in
    let found : state_in image c.args.input.now c.args.from.now ≡ Some (hart, memory) =
    sym c.in_ok-state.ensures.state ∙ ap (λ (o : Option Resumed). resumed_state o c.args.input.now) c.in-Some.is in
    resumed_of c.args.file.now c.args.input.now c.args.from.now c.args.steps image hart memory c.resumed_from.result c.in_ok-image.ensures.image found
    (subst (λ (i : Image). IfOk c.resumed_from.result (IsResumedFrom i c.args.input.now hart memory c.args.steps)) c.in_ok-again.ensures.view c.resumed_from.ensures.resumed)
    c.resumed_from.ensures.refused

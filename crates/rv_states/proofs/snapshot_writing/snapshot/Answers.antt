use Rattle.std.proofs.Common.{[], Some, drop, ap, ◌∙◌}
use Rattle.rv_image.specs.Views.{image_of}
use Rattle.rv_machine.specs.declared.hart.Hart.{Hart}
use Rattle.rv_machine.specs.Hart.{hart_of}
use Rattle.rv_memory.specs.HeldPages.{held_pages}
use Rattle.rv_memory.specs.declared.paged.Paged.{Paged}
use Rattle.rv_states.proofs.StateLemmas.{whole_state}
use Rattle.rv_states.proofs.snapshot_writing.snapshot.Goals as goal

pub returns-clause-state : goal.returns-clause-state
returns-clause-state c = λ input within.
    let numbers = c.head_numbers-numbers in
    let pieces = c.in_ok-pieces.pieces in
    let made = c.in_ok-pieces.ensures ∙ ap (λ (p : Paged). Some (held_pages p)) c.memory.ensures in
    let hart = numbers.ensures.hart input ∙ ap (λ (h : Hart). hart_of h (drop c.args.taken input) []) c.hart.ensures in
    whole_state (image_of c.args.image.now) numbers.result pieces.bytes.items input c.in_ok-joined.field-0.items pieces.count c.args.taken
    (hart_of c.args.machine.now.hart (drop c.args.taken input) []) (held_pages c.args.machine.now.memory) c.in_ok-joined.ensures.long c.in_ok-joined.ensures.head
    (c.in_ok-joined.ensures.rest ∙ c.as_slice.ensures.value) numbers.ensures.taken numbers.ensures.count within made hart

use Rattle.std.proofs.Common.{sym, ◌∙◌, arith}
use Rattle.std.proofs.lemmas.Bool.Decides.{nat_tests}
use Rattle.rv_image.specs.Views.{image_of}
use Rattle.rv_states.proofs.StateLemmas.{same_state, state_at_start}
use Rattle.rv_states.proofs.snapshot_reading.resume.Goals as goal

pub returns-then-is_empty-clause-state : goal.returns-then-is_empty-clause-state
returns-then-is_empty-clause-state c =
    same_state _ _ _ _ (c.new-then-is_empty.ensures.hart c.args.input.now) (c.new-then-is_empty.ensures.memory ∙ c.in_ok-memory.ensures)
    ∙ sym (state_at_start (image_of c.args.image) c.args.input.now c.args.snapshot.now (grind (arith, nat_tests)))

use Rattle.std.proofs.Common.{◌≡◌, ◌%◌, [], ◌∷◌, true, false, refl, sym, ap, ◌∙◌}
use Rattle.std.proofs.KnownBytes.{Keeps-refl}
use Rattle.rv_isa_laws.specs.Hart.{advanced}
use Rattle.rv_machine.specs.Hart.{hart_of}
use Rattle.rv_machine.proofs.KnownLemmas.{appends_kept}
use Rattle.rv_board_laws.specs.Device.{is_latched}
use Rattle.rv_board.proofs.DevicesLemmas.{data_kept, data_sent}
use Rattle.rv_board.proofs.answering.send.Goals as goal

pub returns-then-is_latched-clause-written : goal.returns-then-is_latched-clause-written
returns-then-is_latched-clause-written g c =
    let m = g.M.Memory.mem c.args.machine.now.memory in
    let is : is_latched m 0x1000_0000 ≡ true = ap (λ k. is_latched (g.M.Memory.mem k) 0x1000_0000) (sym c.memory.ensures) ∙ sym c.is_latched.ensures ∙ c.if-is_latched.true in (
      [],
      appends_kept _ _ (Keeps-refl _),
      data_kept m _ 0x1000_0000 c.args.store.bytes c.args.store.value c.answer_store.new.self.hart (λ input console. advanced (hart_of c.args.machine.now.hart input console) c.args.length) is c.answer_store.ensures.hart c.answer_store.ensures.memory,
    )

pub returns-clause-written : goal.returns-clause-written
returns-clause-written g c =
    let m = g.M.Memory.mem c.args.machine.now.memory in
    let is : is_latched m 0x1000_0000 ≡ false = ap (λ k. is_latched (g.M.Memory.mem k) 0x1000_0000) (sym c.memory.ensures) ∙ sym c.is_latched.ensures ∙ c.if-is_latched.false in (
      c.args.store.value % 256 ∷ [],
      c.in_ok-put_byte.ensures.written,
      data_sent m _ 0x1000_0000 c.args.store.bytes c.args.store.value (c.args.store.value % 256) c.answer_store-2.new.self.hart (λ input console. advanced (hart_of c.args.machine.now.hart input console) c.args.length) is refl c.answer_store-2.ensures.hart
          (λ input console. refl) (λ input console more. refl) c.answer_store-2.ensures.memory,
    )

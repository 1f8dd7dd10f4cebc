use Rattle.std.proofs.Common.{[], List, ℕ, sym, ap, ◌∙◌}
use Rattle.std.proofs.KnownBytes.{Keeps-refl}
use Rattle.rv_isa_laws.specs.Hart.{Hart, advanced}
use Rattle.rv_machine.specs.Hart.{hart_of}
use Rattle.rv_machine.proofs.KnownLemmas.{appends_kept}
use Rattle.rv_board_laws.specs.Device.{Device, stored, finished}
use Rattle.rv_board.proofs.DevicesLemmas.{store_unseen}
use Rattle.rv_board.proofs.answering.answer_store.Goals as goal

pub returns-in-Constant-clause-written : goal.returns-in-Constant-clause-written
returns-in-Constant-clause-written g c =
    let m = g.M.Memory.mem c.args.machine.now.memory in
    let h : List ℕ → List ℕ → Hart = λ input console. advanced (hart_of c.args.machine.now.hart input console) c.args.length in (
      [],
      appends_kept _ _ (Keeps-refl _),
      λ input console. store_unseen _ m _ c.answer_store.new.self.hart h input console
          (ap (λ (d : Device). stored d m c.args.store.address c.args.store.bytes c.args.store.value (h input console)) (sym c.in-Constant.ensures.device))
          (c.answer_store.ensures.hart input console) c.answer_store.ensures.memory,
    )

pub returns-in-None-clause-written : goal.returns-in-None-clause-written
returns-in-None-clause-written g c =
    let m = g.M.Memory.mem c.args.machine.now.memory in
    let h : List ℕ → List ℕ → Hart = λ input console. advanced (hart_of c.args.machine.now.hart input console) c.args.length in (
      [],
      appends_kept _ _ (Keeps-refl _),
      λ input console. store_unseen _ m _ c.answer_store-in-None.new.self.hart h input console
          (ap (λ (d : Device). stored d m c.args.store.address c.args.store.bytes c.args.store.value (h input console)) (sym c.in-Power.ensures.device)
          ∙ ap (λ (v : ℕ). finished v m (h input console)) (sym c.low_of.ensures)
          ∙ c.in-None.ensures m (h input console))
          (c.answer_store-in-None.ensures.hart input console) c.answer_store-in-None.ensures.memory,
    )

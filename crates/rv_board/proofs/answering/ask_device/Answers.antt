use Rattle.std.proofs.Common.{◌≡◌, [], false, refl}
use Rattle.std.proofs.KnownBytes.{Keeps-refl}
use Rattle.rv_isa_laws.specs.Run.{fetch}
use Rattle.rv_machine.specs.declared.request.Request.TheVariants.{Load, Store}
use Rattle.rv_machine.specs.Hart.{hart_of}
use Rattle.rv_machine.proofs.KnownLemmas.{appends_kept}
use Rattle.rv_board_laws.specs.Virt.{virt}
use Rattle.rv_board.proofs.AnswersLemmas.{asked_as, load_answers, store_answers, none_answers}
use Rattle.rv_board.proofs.DevicesLemmas.{nothing_read}
use Rattle.rv_board_laws.proofs.PlatformLemmas.{some_reader}
use Rattle.rv_board.proofs.answering.ask_device.Goals as goal

pub answer_load-requires : goal.answer_load-requires
answer_load-requires g c =
    let asked = asked_as c.in-Some-Load.field-0 (Load c.in-Some-Load.load c.in-Some-Load.length) _ _ c.in-Some-Load.field-0-is (c.in-Some-Load.ensures some_reader [] []) in
    asked.0

pub answer_store-requires : goal.answer_store-requires
answer_store-requires g c =
    let asked = asked_as c.in-Some-Store.field-0 (Store c.in-Some-Store.store c.in-Some-Store.length) _ _ c.in-Some-Store.field-0-is (c.in-Some-Store.ensures some_reader [] []) in
    asked.0

pub returns-in-Some-Load-clause-answers : goal.returns-in-Some-Load-clause-answers
returns-in-Some-Load-clause-answers g c =
    let it = c.answer_load.ensures.read in (
      it.0,
      [],
      it.1,
      appends_kept _ _ (Keeps-refl _),
      λ r. load_answers c.answer_load.result c.in-Some-Load.load c.in-Some-Load.length it.0 (c.answer_load.new.machine.intake.ended ≡ false) c.args.machine.now.hart c.answer_load.new.machine.hart (g.M.Memory.mem c.args.machine.now.memory) (g.M.Memory.mem c.answer_load.new.machine.memory) it.2 r
          (λ input console. asked_as c.in-Some-Load.field-0 (Load c.in-Some-Load.load c.in-Some-Load.length) (fetch r (g.M.Memory.mem c.args.machine.now.memory) c.args.machine.now.hart.pc) (hart_of c.args.machine.now.hart input console) c.in-Some-Load.field-0-is (c.in-Some-Load.ensures r input console)),
    )

pub returns-in-Some-Store-clause-answers : goal.returns-in-Some-Store-clause-answers
returns-in-Some-Store-clause-answers g c =
    let it = c.answer_store.ensures.written in (
      [],
      it.0,
      nothing_read _ _ _ _ _ _ c.answer_store.ensures.ended refl (Keeps-refl _),
      it.1,
      λ r. store_answers c.answer_store.result c.in-Some-Store.store c.in-Some-Store.length it.0 (c.answer_store.new.machine.intake.ended ≡ false) c.args.machine.now.hart c.answer_store.new.machine.hart (g.M.Memory.mem c.args.machine.now.memory) (g.M.Memory.mem c.answer_store.new.machine.memory) it.2 r
          (λ input console. asked_as c.in-Some-Store.field-0 (Store c.in-Some-Store.store c.in-Some-Store.length) (fetch r (g.M.Memory.mem c.args.machine.now.memory) c.args.machine.now.hart.pc) (hart_of c.args.machine.now.hart input console) c.in-Some-Store.field-0-is (c.in-Some-Store.ensures r input console)),
    )

pub returns-in-None-clause-answers : goal.returns-in-None-clause-answers
returns-in-None-clause-answers g c = (
  [],
  [],
  nothing_read _ _ _ _ _ _ refl refl (Keeps-refl _),
  appends_kept _ _ (Keeps-refl _),
  λ r. (refl, (refl, λ rest console e over. none_answers virt r (hart_of c.args.machine.now.hart rest console) (g.M.Memory.mem c.args.machine.now.memory) e over (c.in-None.ensures r rest console))),
)

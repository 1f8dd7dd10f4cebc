use Rattle.std.proofs.Common.{[], refl, sym}
use Rattle.std.proofs.KnownBytes.{Keeps-refl}
use Rattle.rv_board_laws.specs.Device.{Constant, Power}
use Rattle.rv_board.proofs.DevicesLemmas.{nothing_read, number_loaded}
use Rattle.rv_board.proofs.answering.answer_load.Goals as goal

pub returns-in-Constant-clause-read : goal.returns-in-Constant-clause-read
returns-in-Constant-clause-read g c = (
  [],
  nothing_read _ _ _ _ _ _ c.answer_load.ensures.ended refl (Keeps-refl _),
  λ rest console may. number_loaded c.args.load c.args.length c.args.machine.now.hart c.answer_load.new.self.hart (g.M.Memory.mem c.args.machine.now.memory) _ c.args.load.address (Constant c.in-Constant.value) c.in-Constant.value (λ next. refl)
      c.answer_load.ensures.hart c.answer_load.ensures.memory _ (sym c.in-Constant.ensures.device) rest console,
)

pub returns-in-Power-clause-read : goal.returns-in-Power-clause-read
returns-in-Power-clause-read g c = (
  [],
  nothing_read _ _ _ _ _ _ c.answer_load-in-Power.ensures.ended refl (Keeps-refl _),
  λ rest console may. number_loaded c.args.load c.args.length c.args.machine.now.hart c.answer_load-in-Power.new.self.hart (g.M.Memory.mem c.args.machine.now.memory) _ c.args.load.address Power 0 (λ next. refl)
      c.answer_load-in-Power.ensures.hart c.answer_load-in-Power.ensures.memory _ (sym c.in-Power.ensures.device) rest console,
)

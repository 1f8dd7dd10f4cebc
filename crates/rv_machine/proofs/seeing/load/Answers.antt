use Rattle.std.proofs.Common.{refl}
use Rattle.rv_machine.proofs.AskingLemmas.{seen_load}
use Rattle.rv_machine.proofs.seeing.load.Goals as goal

pub returns : goal.returns
returns g c = λ input console.
    let loaded = c.in-Some.ensures in
    seen_load c.args.x c.args.bytes c.args.accesses.now _ c.args.hart.now c.set.new.hart (g.M.Memory.mem c.args.memory.now) input console _ _ c.requires.none refl loaded.0 loaded.1.0 loaded.1.1 (c.set.ensures input console)

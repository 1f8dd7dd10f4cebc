use Rattle.std.proofs.Common.{◌≡◌, true, false}
use Rattle.rv_memory.specs.Rights.{right_of}
use Rattle.rv_image_laws.specs.Memory.{gives_right}
use Rattle.rv_memory.proofs.FlatLemmas.{placed}
use Rattle.rv_memory.proofs.flat.Flat.run_from.Goals as goal

pub returns-then-is_given-clause-all : goal.returns-then-is_given-clause-all
returns-then-is_given-clause-all c =
    let p = placed c.args.self.now.segments.items c.args.i c.args.address c.index.result.now c.requires.within c.index.ensures c.requires.found in
    let right : gives_right c.index.result.now.flags (right_of c.args.right) ≡ true = cc in
    c.room_from.ensures.all (right_of c.args.right) (rw p.here right)

pub returns-else-is_given-clause-none : goal.returns-else-is_given-clause-none
returns-else-is_given-clause-none c = λ e.
    let p = placed c.args.self.now.segments.items c.args.i c.args.address c.index.result.now c.requires.within c.index.ensures c.requires.found in
    let right : gives_right c.index.result.now.flags (right_of c.args.right) ≡ false = cc in
    rw p.here right

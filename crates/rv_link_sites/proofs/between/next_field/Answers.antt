use Rattle.std.proofs.Common.{map, rules, ◌<◌, ◌≤◌}
use Rattle.rv_isa.specs.Kinds.{width_of}
use Rattle.rv_object_types.specs.Parts.{relocation_of}
use Rattle.rv_link_sites.specs.Between.{next_field}
use Rattle.rv_link_sites.proofs.LoopsLemmas.{at, field_found, field_past, field_none}
use Rattle.rv_link_sites.proofs.between.next_field.Goals as goal

pub loop-relocation-preserved : goal.loop-relocation-preserved
loop-relocation-preserved c =
    let none : width_of (at c.args.relocations.now c.loop-relocation.relocation-index).kind ≤ 0 = search rules in
    field_past c.args.relocations.now c.loop-relocation.relocation-index c.loop-relocation-test.true (next_field (map relocation_of c.args.relocations.now)) none c.loop-relocation.invariant

pub returns-then-width-gt0 : goal.returns-then-width-gt0
returns-then-width-gt0 c =
    let some : 0 < width_of (at c.args.relocations.now c.loop-relocation.relocation-index).kind = search rules in
    field_found c.args.relocations.now c.loop-relocation.relocation-index c.loop-relocation-test.true (next_field (map relocation_of c.args.relocations.now)) some c.loop-relocation.invariant

pub returns : goal.returns
returns c = field_none c.args.relocations.now c.loop-relocation.relocation-index (next_field (map relocation_of c.args.relocations.now)) c.loop-relocation-test.false c.loop-relocation.invariant

use Rattle.std.proofs.Common.{◌%◌, ◌≢◌, slice_index, arith}
use Rattle.std.proofs.lemmas.Grind.{common_steps}
use Rattle.rv_compress.proofs.AtFrontLemmas.{parcel-front, no_parcel-front}
use Rattle.rv_compress.proofs.front.next_inst.Goals as goal

pub returns-in-Some-parcel_inst-clause-exact : goal.returns-in-Some-parcel_inst-clause-exact
returns-in-Some-parcel_inst-clause-exact c =
    let begins : slice_index c.args.bytes.now 0 % 4 ≢ 3 = grind (arith, common_steps) in
    parcel-front c.args.bytes.now c.parcel_inst.result c.in-Some-parcel_inst.inst begins c.in-Some-parcel_inst.is c.parcel_inst.ensures.exact

pub returns-in-None-parcel_inst-clause-exact : goal.returns-in-None-parcel_inst-clause-exact
returns-in-None-parcel_inst-clause-exact c =
    let begins : slice_index c.args.bytes.now 0 % 4 ≢ 3 = grind (arith, common_steps) in
    no_parcel-front c.args.bytes.now c.parcel_inst.result begins c.in-None-parcel_inst.is c.parcel_inst.ensures.exact

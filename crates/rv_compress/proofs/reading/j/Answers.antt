use Rattle.std.proofs.Common.{to_z-of_z, SFits, w32, ◌∙◌, rules}
use Rattle.rv_parcel.proofs.JumpLemmas.{jump-form}
use Rattle.rv_compress.proofs.reading.j.Goals as goal

pub returns : goal.returns
returns c =
    let fits : SFits w32 c.signed_12.result = search rules in
    let ensures = c.signed_12.ensures in
    simp to_z-of_z (jump-form c.args.bits c.jump_bits.result c.signed_12.result c.jump_bits.ensures.rest c.jump_bits.ensures.below ensures.low ensures.high (ensures.same ∙ c.jump_offset.ensures))

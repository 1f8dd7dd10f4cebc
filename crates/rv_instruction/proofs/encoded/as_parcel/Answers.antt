use Rattle.rv_instruction.proofs.EncodingLemmas.{no_parcel}
use Rattle.rv_instruction.proofs.encoded.as_parcel.Goals as goal

pub returns-in-None-clause-is : goal.returns-in-None-clause-is
returns-in-None-clause-is c = no_parcel c.args.kind c.args.inst c.shrink.result _ c.requires.codable c.requires.short c.in-None.is c.shrink.ensures

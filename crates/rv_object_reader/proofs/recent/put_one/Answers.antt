use Rattle.std.proofs.lemmas.Bool.{leb-true}
use Rattle.rv_object_reader.proofs.recent.put_one.Goals as goal

pub put-requires : goal.put-requires
put-requires c = leb-true _ _ c.requires

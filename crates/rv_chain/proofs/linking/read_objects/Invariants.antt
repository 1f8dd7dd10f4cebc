use Rattle.std.proofs.Common.{map, take}
use Rattle.rv_statement.specs.View.{now_of}
use Rattle.rv_object_types.specs.View.{object_of}
use Rattle.rv_chain_laws.specs.Objects.{AreObjectsIn}
use Rattle.rv_chain.proofs.linking.read_objects.Given as goal

abbrev pub invariant-loop-index : goal.invariant-loop-index
invariant-loop-index l =
    AreObjectsIn (take l.index (map now_of l.files)) (map object_of l.objects.items)

-- What is left so far, with what comes, is all that is left.
use Rattle.std.proofs.Common.{◌≡◌, ◌++◌, suc, map, drop}
use Rattle.rv_object_types.specs.View.{object_of}
use Rattle.rv_link_laws.specs.Without.{without_from, without}
use Rattle.rv_collect.specs.Marks.{drops_of}
use Rattle.rv_collect.proofs.collection.Collection.left.Given as goal

abbrev pub invariant-loop-file : goal.invariant-loop-file
invariant-loop-file l =
    map object_of l.left.items ++ without_from (drops_of (map object_of l.objects) l.self) (suc l.file) (map object_of (drop l.file l.objects))
    ≡ without (drops_of (map object_of l.objects) l.self) (map object_of l.objects)

use Rattle.std.proofs.Common.{◌≡◌, ◌+◌, ◌++◌, drop}
use Rattle.rv_object_types.specs.View.{object_of}
use Rattle.rv_link_sites.specs.Line.{ended, object_sites}
use Rattle.rv_link_sites.specs.Text.{objects_of}
use Rattle.rv_link_sites.proofs.walk.put_object.Given as goal

-- what is there so far, and what is left, make up the whole
abbrev pub invariant-loop-index : goal.invariant-loop-index
invariant-loop-index l =
    let o = object_of l.object in
    let os = objects_of l.text in
    record {
      sites : l.sites.items ++ object_sites os (l.file.0 + 1) o l.index l.stop (drop l.index o.sections) ≡ l.fn.sites.items ++ object_sites os (l.file.0 + 1) o 0 l.first o.sections;
      ends : ended l.stop (drop l.index o.sections) ≡ ended l.first o.sections;
    }

use Rattle.std.proofs.Common.{◌≡◌, ◌++◌, map, take}
use Rattle.std.specs.Prelude.{filter}
use Rattle.rv_object_types.specs.Parts.{relocation_of}
use Rattle.rv_link_laws.specs.CallSites as laws
use Rattle.rv_link_sites.specs.Between.{IsBefore}
use Rattle.rv_link_sites.specs.Text.{objects_of, input_of}
use Rattle.rv_link_sites.proofs.changes.put_changes.Given as goal

-- the changes among the relocations so far are added
abbrev pub invariant-loop-i : goal.invariant-loop-i
invariant-loop-i l =
    (l.sites.items
    ≡ l.fn.sites.items ++ map (laws.site_of (objects_of l.text) (input_of l.input) l.first) (filter (laws.may_change (objects_of l.text) (input_of l.input)) (map relocation_of (take l.i l.sorted))))
    × IsBefore (map relocation_of (take l.i l.sorted)) l.before

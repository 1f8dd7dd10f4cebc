use Rattle.std.proofs.Common.{◌≡◌, ◌++◌, drop, map}
use Rattle.rv_debug_sections.specs.Views.{all_names}
use Rattle.rv_debug_sections.proofs.carried.copied.Given as goal

abbrev pub invariant-loop-name : goal.invariant-loop-name
invariant-loop-name l =
    all_names l.copies.items ++ map (λ name. name.now) (drop l.name-index l.names) ≡ map (λ name. name.now) l.names

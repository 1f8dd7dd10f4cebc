use Rattle.std.proofs.Common.{◌≡◌, drop}
use Rattle.std.specs.List.{list_any}
use Rattle.std.specs.Str.{bytes_eq}
use Rattle.rv_debug_sections.specs.Views.{all_names}
use Rattle.rv_debug_sections.proofs.carried.is_among.Given as goal

abbrev pub invariant-loop-known : goal.invariant-loop-known
invariant-loop-known l =
    list_any (λ known. bytes_eq known l.name) (all_names l.names)
    ≡ list_any (λ known. bytes_eq known l.name) (all_names (drop l.known-index l.names))

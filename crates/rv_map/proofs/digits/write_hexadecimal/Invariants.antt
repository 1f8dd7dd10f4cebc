use Rattle.std.proofs.Common.{◌+◌, ◌≡◌, ◌<◌, ◌++◌, ◌^◌, suc, drop, length}
use Rattle.rv_map_laws.specs.Text.{hexadecimal}
use Rattle.rv_map.proofs.digits.write_hexadecimal.Given as goal

abbrev pub invariant-loop-rest : goal.invariant-loop-rest
invariant-loop-rest l =
    (l.start < 16) × (length l.digits ≡ 16) × (l.rest < 16 ^ suc l.start)
    × (hexadecimal l.rest ++ drop (l.start + 1) l.digits ≡ hexadecimal l.number)

abbrev pub decreases-loop-rest : goal.decreases-loop-rest
decreases-loop-rest l = l.rest

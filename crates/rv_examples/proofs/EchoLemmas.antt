-- The worked program for the board virt: its run on it.

use Rattle.std.proofs.Common.{◌≡◌, [], ◌∷◌, refl}
use Rattle.std.specs.Prelude.{codes}
use Rattle.rv_board_laws.specs.Virt.{ram_from, virt_platform}
use Rattle.rv_chain_laws.specs.PlatformRun.{source_run_on}
use Rattle.rv_examples.specs.Echo.{echo, echo_map, sends}

pub echoes : source_run_on virt_platform (echo ∷ []) echo_map (codes "A") 7 ≡ sends (codes "A")
unfolding ram_from
echoes = refl

pub echoes_none : source_run_on virt_platform (echo ∷ []) echo_map [] 7 ≡ sends (0 ∷ [])
unfolding ram_from
echoes_none = refl

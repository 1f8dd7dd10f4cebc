-- What is known of each name that a map shows.

use Rattle.std.proofs.Common.{◌≡◌, ◌<◌, ◌^◌, List, [], ◌∷◌, ◌++◌, All}
use Rattle.std.proofs.lemmas.List.Elements.{All-same, All-push}
use Rattle.rv_map.specs.declared.map.Global.{Global}
use Rattle.rv_map_laws.specs.Limits.{IsGlobal}
use Rattle.rv_map.specs.Views.{global_of}

abbrev IsKnown : Global → Type 0
IsKnown g = IsGlobal (global_of g)

pub one_known : (old new : List Global) (g : Global) → All IsKnown old → g.address < 2 ^ 64 → new ≡ old ++ g ∷ [] → All IsKnown new
one_known old new g before low pushed = All-same IsKnown new (old ++ g ∷ []) pushed (All-push IsKnown old g before (g.named, low))

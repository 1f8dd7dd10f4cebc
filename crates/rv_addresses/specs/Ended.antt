-- What is left of objects whose symbols stand where they end.

use Rattle.std.specs.Prelude.{ℕ, suc, List, [], ◌∷◌, map}
use Rattle.rv_object_laws.specs.Object.{Symbol, Object}
use Rattle.rv_cut_laws.specs.Cutting.{cut_symbol}
use Rattle.rv_shorten.specs.declared.object.ShortObject.{ShortObject}
use Rattle.rv_shorten.specs.View.{moves_by_section, short_object_of, whole_object_of}
use Rattle.rv_addresses.specs.declared.resolution.Resolution.{Resolution}
use Rattle.rv_addresses.specs.Extents.{SymbolSizes, ended_symbols}

abbrev pub short_ends : (ℕ → ℕ) → ShortObject → List Symbol
short_ends sizes o =
    let whole = whole_object_of o in
    map (cut_symbol (moves_by_section o)) (ended_symbols whole sizes 0 whole.symbols)

abbrev pub short_ended : (ℕ → ℕ) → ShortObject → Object
short_ended sizes o = record (short_object_of o) { symbols = short_ends sizes o }

-- of files from a number on
abbrev pub short_ended_from : SymbolSizes → ℕ → List ShortObject → List Object
short_ended_from sizes file [] = []
short_ended_from sizes file (o ∷ os) =
    short_ended (sizes file) o ∷ short_ended_from sizes (suc file) os

abbrev pub all_ended : SymbolSizes → Resolution → List Object
all_ended sizes t = short_ended_from sizes 0 t.objects.now

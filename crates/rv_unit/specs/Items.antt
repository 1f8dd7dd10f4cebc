-- Where the statements of a source stand in its object.

use Rattle.std.specs.Prelude.{ℕ, List, map, false}
use Rattle.rv_unit.specs.declared.item.Item.{Item}

abbrev pub offsets_of : List Item → List ℕ
offsets_of items = map (λ (i : Item). i.offset) items

-- what stands for a missing item
abbrev pub zeros_item : Item
zeros_item =
    record { section = 0; offset = 0; bytes = 0; line = 0; shown = false; instructions = 0 }

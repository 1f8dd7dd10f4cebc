-- Statements in little memory: those of one form by their section and bytes, any other by its index
-- in a table of their own.

use Rattle.std.specs.Prelude.{ℕ, ◌≤◌, Bool, true, ltb, IsTrue, List, length, map, pos}
use Rattle.std.specs.List.{list_all}
use Rattle.rv_size_laws.specs.declared.item.Forms.TheVariants as forms
use Rattle.rv_size_laws.specs.declared.item.Item.{Item}
use Rattle.rv_size_laws.specs.Branches.{item_at}
use Rattle.rv_sizes.specs.declared.items.Packed.{Packed}
use Rattle.rv_sizes.specs.declared.items.Packed.TheVariants.{Settled, Other}
use Rattle.rv_sizes.specs.declared.items.Items.TheInside.{Inside}

-- the statement that a packed one stands for
abbrev pub stands_for : List Item → Packed → Item
stands_for others (Settled section bytes) =
    record { addend = pos 0; section = section; target = 0; forms = forms.Settled bytes }
stands_for others (Other index) = item_at others index

abbrev pub items_in : Inside → List Item
items_in items = map (stands_for items.others.items) items.packed.items

-- an index is one of so many others
abbrev pub is_inside : ℕ → Packed → Bool
is_inside count (Settled section bytes) = true
is_inside count (Other index) = ltb index count

-- so is each index, and there are no more others than statements
pub record AreInside (items : Inside) : Type 0 where
  pub inside : IsTrue (list_all (is_inside (length items.others.items)) items.packed.items)
  pub fewer : length items.others.items ≤ length items.packed.items

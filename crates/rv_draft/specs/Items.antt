-- The statements of a source as items.

use Rattle.std.specs.Prelude.{◌≡◌, ℕ, suc, false, List, [], ◌∷◌}
use Rattle.rv_statement_laws.specs.Statement.{Statement}
use Rattle.rv_unit_laws.specs.Tables.{Tables, after}
use Rattle.rv_source_laws.specs.Located.{Located, located_now, has_row}
use Rattle.rv_assemble_laws.specs.Refusals.{grown as grown_by}
use Rattle.rv_unit.specs.declared.item.Item.{Item}

-- the item of a statement, by the bytes before it in each section; one without a place has no bytes
pub record IsItem (s : Located) (before : ℕ → ℕ) (i : Item) : Type 0 where
  pub section : i.section ≡ s.section
  pub offset : i.offset ≡ before s.section
  pub line : i.line ≡ s.line
  pub shown : i.shown ≡ has_row s
  pub absent : s.placed ≡ false → i.bytes ≡ 0

-- the bytes of each section after an item
abbrev pub grown : (ℕ → ℕ) → Item → ℕ → ℕ
grown before i = grown_by before i.section i.bytes

-- the items of statements from an ordinal on, and the bytes of each section after the last of them
abbrev pub AreItems : ℕ → Tables → (ℕ → ℕ) → List Statement → List Item → (ℕ → ℕ) → Type 0
AreItems ordinal t before [] [] last = (j : ℕ) → last j ≡ before j
AreItems ordinal t before [] (i ∷ is) last = ⊥
AreItems ordinal t before (s ∷ ss) [] last = ⊥
AreItems ordinal t before (s ∷ ss) (i ∷ is) last =
    IsItem (located_now 1 ordinal t s) before i
    × AreItems (suc ordinal) (after t ordinal s.kind) (grown before i) ss is last

-- The value of an expression where its statement stands in the map, by plain arithmetic.

use Rattle.std.specs.Prelude.{◌≡◌, ℕ, true, Option, Some, None}
use Rattle.std.specs.List.{AllByRecursion}
use Rattle.rv_expression_laws.specs.Expression.{Primary}
use Rattle.rv_expression_laws.specs.Values.{Meaning, Known, InSection, Open, Refused, add}
use Rattle.rv_statement_laws.specs.Statement.{Expression}
use Rattle.rv_unit_laws.specs.Tables.{meaning}
use Rattle.rv_source_laws.specs.Located.{Located}
use Rattle.rv_source_laws.specs.Program.{Mapped, Program, tables_in, place_of, address, form, value}
use Rattle.rv_value_theorems.specs.Plain.{plain}
use Rattle.rv_value_theorems.specs.Agreement.{numbers, HasForm, HaveTheirNumbers}

-- what a name, a reference or `.` means in a statement
abbrev pub site_meaning : Program → Located → Primary → Meaning
site_meaning p s q = meaning (tables_in p s.file) true s.ordinal (place_of s) q

-- its number there: a constant's own, else its address
abbrev pub site_numbers : Program → Located → Primary → Option ℕ
site_numbers p s = numbers (site_meaning p s) (λ q. address p s q)

-- the address of a place, or where it would be if its section, which has none, began at a number
abbrev pub address_from : (begins : ℕ → ℕ) → Meaning → Option ℕ → Option ℕ
address_from begins (InSection section offset) None = Some (add (begins section) offset)
address_from begins at found = found

abbrev pub site_numbers_from : (begins : ℕ → ℕ) → Program → Located → Primary → Option ℕ
site_numbers_from begins p s =
    numbers (site_meaning p s) (λ q. address_from begins (site_meaning p s q) (address p s q))

-- every value in a statement is plain arithmetic
pub record IsPlain (p : Program) (s : Mapped) : Type 0 where
  -- an expression without a fault, of whose constants and places each has its number, is worth what
  -- plain arithmetic gives
  pub equal : (e : Expression) → HasForm (form p s.located e)
      → HaveTheirNumbers (site_meaning p s.located) (site_numbers p s.located) e
      → value p s e ≡ plain (site_numbers p s.located) e
  -- what plain arithmetic gives is the value
  pub found : (e : Expression) (x : ℕ) → HasForm (form p s.located e)
      → plain (site_numbers p s.located) e ≡ Some x
      → value p s e ≡ Some x
  -- each value is what plain arithmetic gives, wherever sections without addresses would begin
  pub anywhere : (begins : ℕ → ℕ) (e : Expression) (x : ℕ) → value p s e ≡ Some x
      → plain (site_numbers_from begins p s.located) e ≡ Some x

-- so in each statement that has a row
abbrev pub ArePlain : Program → Type 0
ArePlain p = AllByRecursion (IsPlain p) p.mapped

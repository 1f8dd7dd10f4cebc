-- The places of a statement from one of them on.

use Rattle.std.specs.Prelude.{ℕ, Bool, true, false, List, [], ◌∷◌, ◌++◌, Option, Some, None, Ok, if◌then◌else◌}
use Rattle.rv_expression_laws.specs.Lexing.{Token}
use Rattle.rv_expression_laws.specs.SyntaxError.{Read}
use Rattle.rv_parcel.specs.declared.parcel.RegisterSet.{RegisterSet}
use Rattle.rv_statement_laws.specs.Statement.{Operand, Register}
use Rattle.rv_parse_laws.specs.Syntax.{Slot, A_register_of, A_comma, A_value, A_target, An_address, Some_flags, At_sign, A_type, Slots, Takes, last, and_maybe}
use Rattle.rv_parse_laws.specs.Parsing.{◌>>=◌, seen_as, operand_at, operands_at, ended_at, target_next, further, items_at}
use Rattle.rv_parse_laws.specs.declared.role.Role.TheVariants as roles

-- what `.section` takes behind its name, and behind `@`
abbrev pub type_slots : Slots
type_slots = and_maybe A_type (last (A_value roles.Directive))

abbrev pub flags_slots : Slots
flags_slots = and_maybe Some_flags (Takes At_sign type_slots)

-- behind an item a comma and more, or the end
abbrev pub further_items : Slot → List Token → Read (List Operand)
further_items s ts = further s (λ us. items_at s us) ts

-- operands before those that are read
abbrev pub prepended : List Operand → Read (List Operand) → Read (List Operand)
prepended os r = seen_as (λ ps. os ++ ps) r

-- what stands where a load or a store goes, and whether it is a target
abbrev pub location_at : List Token → Read (Bool × List Operand)
location_at ts =
    if target_next ts
    then seen_as (λ os. (true, os)) (operand_at A_target ts)
    else seen_as (λ os. (false, os)) (operand_at An_address ts)

-- and what is behind it: these places behind a target, the end behind an address
abbrev pub placed_at : Slots → List Token → Read (List Operand)
placed_at rest ts =
    location_at ts >>=
    λ l. seen_as (λ os. l.0.1 ++ os)
    (if l.0.0 then operands_at rest l.1 else ended_at An_address l.1)

-- the sets of a register that a parcel has or has not, and that register among the operands
abbrev pub sets_in : Option RegisterSet → List RegisterSet
sets_in None = []
sets_in (Some set) = set ∷ []

abbrev pub own : Option RegisterSet → ℕ → List Operand
own None r = []
own (Some set) r = Register r ∷ []

-- what is read, and then the rest
abbrev pub followed : Read (List Operand) → (List Token → Read (List Operand)) → Read (List Operand)
followed r rest = r >>= λ o. seen_as (λ os. o.0 ++ os) (rest o.1)

-- a register of the set and a comma, if there is a set
abbrev pub leading_at : Option RegisterSet → List Token → Read (List Operand)
leading_at None ts = Ok ([], ts)
leading_at (Some set) ts =
    followed (operand_at (A_register_of set) ts) (λ us. operand_at (A_comma (A_register_of set)) us)

-- a register of each set, each with a comma behind it
abbrev pub leading_of : List RegisterSet → List Token → Read (List Operand)
leading_of [] ts = Ok ([], ts)
leading_of (set ∷ sets) ts = followed (leading_at (Some set) ts) (λ us. leading_of sets us)

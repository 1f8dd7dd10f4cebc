-- Branches and jumps as their sizes see them, by what a scope and the places of statements tell.

use Rattle.std.specs.Prelude.{ℕ, ◌-◌, pos, Bool, false, ◌==◌, List, Option, Some, None, option_map, slice_get, if◌then◌else◌}
use Rattle.std.specs.Int.{w64, int_wrap}
use Rattle.rv_expression_laws.specs.Values.{Value, Symbolic}
use Rattle.rv_statement_laws.specs.Statement.{StatementKind, Instruction, Expression}
use Rattle.rv_size_laws.specs.declared.item.Forms.{Forms}
use Rattle.rv_size_laws.specs.declared.item.Forms.TheVariants.{Settled}
use Rattle.rv_size_laws.specs.declared.item.Item.{Item}
use Rattle.rv_unit_laws.specs.Tables.{Tables, Definition, sure_definition}
use Rattle.rv_unit.specs.declared.section_offset.SectionOffset.{SectionOffset}
use Rattle.rv_statement_laws.specs.declared.pseudo.Function.{Function}
use Rattle.rv_statement_laws.specs.declared.pseudo.ZeroBranchOperation.{ZeroBranchOperation}
use Rattle.rv_statement_laws.specs.declared.pseudo.ZeroBranchOperation.TheVariants.{Beqz, Bnez}
use Rattle.rv_statement.specs.declared.statement.Operation.{Operation}
use Rattle.rv_pseudo.specs.Templates.{statement_with}
use Rattle.rv_source_laws.specs.Sizes.{Near, near_forms, far_form, target_in, is_short_register, jump_forms}

-- the section of a statement, by its ordinal
abbrev pub section_by_ordinal : List SectionOffset → ℕ → Option ℕ
section_by_ordinal places ordinal =
    if ordinal == 0 then None
    else option_map (λ (p : SectionOffset). p.section) (slice_get places (ordinal - 1))

-- where a branch leads, if that stands in its own section
abbrev pub near_by : Option ℕ → ℕ → ℕ → (plus : ℕ) → Option Near
near_by None section ordinal plus = None
near_by (Some other) section ordinal plus =
    if other == section
    then Some (record { ordinal = ordinal; addend = int_wrap w64 (pos plus) }) else None

abbrev pub near_in : (ℕ → Option ℕ) → ℕ → Option Definition → (plus : ℕ) → Option Near
near_in sections section None plus = None
near_in sections section (Some d) plus = near_by (sections d.ordinal) section d.ordinal plus

abbrev pub near_value_in : (ℕ → Option ℕ) → ℕ → Tables → ℕ → Value → Option Near
near_value_in sections section t ordinal (Symbolic symbol at plus) =
    near_in sections section (sure_definition t ordinal symbol) plus
near_value_in sections section t ordinal _ = None

abbrev pub near_target_in :
    (ℕ → Option ℕ) → ℕ → Tables → ℕ → (Expression → Value) → Option Expression → Option Near
near_target_in sections section t ordinal v None = None
near_target_in sections section t ordinal v (Some e) =
    near_value_in sections section t ordinal (v e)

-- what sizes see of a statement of a section
abbrev pub settled_in : ℕ → ℕ → Item
settled_in section bytes =
    record { addend = pos 0; section = section; target = 0; forms = Settled bytes }

abbrev pub branch_in : ℕ → Forms → Option Near → Item
branch_in section forms None = settled_in section (far_form forms)
branch_in section forms (Some n) =
    record { addend = n.addend; section = section; target = n.ordinal - 1; forms = forms }

abbrev pub item_by : ℕ → ℕ → Option Forms → Option Near → Item
item_by section bytes None near = settled_in section bytes
item_by section bytes (Some (Settled size)) near = settled_in section size
item_by section bytes (Some forms) near = branch_in section forms near

abbrev pub item_in :
    (ℕ → Option ℕ) → ℕ → Tables → ℕ → (Expression → Value) → Bool → ℕ → StatementKind → Item
item_in sections section t ordinal v rvc bytes (Instruction mnemonic operands) =
    item_by section bytes (near_forms rvc mnemonic operands)
    (near_target_in sections section t ordinal v (target_in operands))
item_in sections section t ordinal v rvc bytes kind = settled_in section bytes

-- ---- the forms by operations

abbrev pub is_short_zero_branch : ZeroBranchOperation → ℕ → Bool
is_short_zero_branch Beqz rs = is_short_register rs
is_short_zero_branch Bnez rs = is_short_register rs
is_short_zero_branch operation rs = false

abbrev pub jal_forms : ℕ → Bool → Option Forms
jal_forms rd rvc = if rd == 0 then Some (jump_forms rvc) else None

abbrev pub statement_of : Operation → Expression → StatementKind
statement_of operation e = statement_with operation None e

abbrev pub function_statement : Operation → Function → Expression → StatementKind
function_statement operation function e = statement_with operation (Some function) e

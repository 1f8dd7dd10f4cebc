-- The open field of a part of a statement's code, as the code holds it.

use Rattle.std.specs.Prelude.{◌≡◌, ℕ, Bool, true, ◌&&◌, if◌then◌else◌, List, [], ◌∷◌, Option, Some, None}
use Rattle.rv_isa.specs.Kinds.{is_low_part}
use Rattle.rv_isa.specs.declared.kind.Kind.{Kind}
use Rattle.rv_expression_laws.specs.Values.{Value}
use Rattle.rv_expression.specs.Nodes.{symbol_of}
use Rattle.rv_statement_laws.specs.declared.pseudo.Function.{Function}
use Rattle.rv_statement_laws.specs.declared.pseudo.Function.TheVariants.{Hi, Lo, PcrelHi, PcrelLo}
use Rattle.rv_statement_laws.specs.Statement.{StatementKind, Expression}
use Rattle.rv_pseudo_laws.specs.Code.{Part, Constants}
use Rattle.rv_pseudo_laws.specs.Filled.{are_closed}
use Rattle.rv_unit_laws.specs.Tables.{Tables}
use Rattle.rv_source_laws.specs.Lines.{operand_of, parts_by_size}
use Rattle.rv_assemble_laws.specs.Templates.{Open}
use Rattle.rv_assemble_laws.specs.CodeFields.{symbol_field, low_field, label_field, field_of}
use Rattle.rv_instruction.specs.declared.opened.Reference.{Reference}

-- the field under a kind of what a reference says
abbrev pub open_of : Kind → Reference → Open
open_of k r =
    record {
      kind = k;
      ordinal = r.ordinal;
      symbol = Some (symbol_of r.symbol);
      addend = r.addend;
    }

abbrev pub opens_of : Kind → Option Reference → List Open
opens_of k None = []
opens_of k (Some r) = open_of k r ∷ []

-- those with a function of a value, and with an expression that is a target or a number
abbrev pub function_field : Tables → Kind → ℕ → Function → Value → List Open
function_field t k ordinal Hi v = symbol_field k ordinal v
function_field t k ordinal Lo v = symbol_field k ordinal v
function_field t k ordinal PcrelHi v = symbol_field k ordinal v
function_field t k ordinal PcrelLo v = label_field t k ordinal v

abbrev pub value_field : Bool → Kind → ℕ → Value → List Open
value_field is_target k ordinal v =
    if is_target && is_low_part k then low_field k ordinal 0 else symbol_field k ordinal v

-- the fields of a statement's operand under a kind
abbrev pub fields_of : Tables → (Expression → Value) → ℕ → StatementKind → Kind → List Open
fields_of t v ordinal kind k = field_of t v ordinal (operand_of kind) k

-- no part has an open field, or there are none
abbrev pub are_free : Option (List Part) → Bool
are_free None = true
are_free (Some parts) = are_closed parts

-- the code of such a statement leaves no field open, whatever its names stand for
abbrev pub LeavesNone : StatementKind → Type 0
LeavesNone kind =
    (v : Constants) (rvc : Bool) (bytes : ℕ) → are_free (parts_by_size v rvc bytes kind) ≡ true

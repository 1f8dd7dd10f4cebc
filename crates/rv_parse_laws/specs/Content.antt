-- Operands that are spelled right and are refused for what they say: a fault of content, at the
-- operand's first token.

use Rattle.std.specs.Prelude.{ℕ, Bool, true, false, nat_lt, length, Option, Some, None, codes, if◌then◌else◌}
use Rattle.std.specs.List.{list_all}
use Rattle.std.specs.Str.{bytes_eq}
use Rattle.rv_expression_laws.specs.Codes.{unsupported_here, limit}
use Rattle.rv_expression_laws.specs.SyntaxError.{longest_name}
use Rattle.rv_statement_laws.specs.Statement.{Operand, Applied, Target, Word, Quoted}
use Rattle.rv_parse_laws.specs.Words.{is_among, section_types}
use Rattle.rv_parse_laws.specs.Syntax.{Slot, A_value, A_section, Some_flags, A_type, is_flag, is_of_numbers, is_refused_by}
use Rattle.rv_parse_laws.specs.Faults.{wrong_letters}

-- left out by what it says
abbrev pub left_out : Bool → Option ℕ
left_out true = Some unsupported_here
left_out false = None

-- the code of what an operand says in its slot, where its section's name is known, or new: a number
-- as a target, the name of the rows, flags and a type that are looked at for a new name alone
abbrev pub content_fault : Bool → Slot → Operand → Option ℕ
content_fault known (A_value role) (Target e) = left_out (is_of_numbers e)
content_fault known (A_value role) (Applied f e) = left_out (is_refused_by f e)
content_fault known A_section (Word name) = left_out (bytes_eq name (codes ".rv.rows"))
content_fault false Some_flags (Quoted letters) =
    if list_all is_flag letters then None else Some (wrong_letters letters)
content_fault true A_type (Word word) =
    if nat_lt longest_name (length word) then Some limit else None
content_fault false A_type (Word word) =
    if is_among section_types word then None else Some unsupported_here
content_fault _ _ _ = None

-- The faults of labels and directives, and of instructions outside code; the first of them (GNU as,
-- "Pseudo Ops", for what directives take).

use Rattle.std.specs.Prelude.{◌*◌, ℕ, suc, ◌+◌, ◌^◌, Bool, true, false, not, ◌&&◌, ◌||◌, ◌==◌, nat_lt, nat_le, List, [], ◌∷◌, ◌++◌, length, drop, flat_map, Option, Some, None, is_some, if◌then◌else◌}
use Rattle.rv_expression_laws.specs.Codes.{duplicate_label, not_constant, immediate_range, wrong_section, option_stack, limit, faulty_if, lowest}
use Rattle.rv_expression_laws.specs.Values.{Value, Constant, Symbolic, Difference, Faulty}
use Rattle.rv_statement_laws.specs.Limits.{most_statements}
use Rattle.rv_statement_laws.specs.Statement.{StatementKind, Label, Numbered, Instruction, Directs, Statement, Directive, Enters, Opens, Sets, Chooses, Data, Values, Strings, Zeros, AlignmentForm, As_power, As_bytes}
use Rattle.rv_statement_laws.specs.declared.directive.Choice.{Choice}
use Rattle.rv_statement_laws.specs.declared.directive.Choice.TheVariants.{Pop}
use Rattle.rv_expression_laws.specs.Expression.{Here}
use Rattle.rv_unit_laws.specs.Sections.{Section, is_nobits, current_section, place_of_name, most_sections, entered_by}
use Rattle.rv_unit_laws.specs.Contributions.{Contribution, Nothing, Bytes, Alignment, contribution}
use Rattle.rv_unit_laws.specs.Tables.{Tables, at_start, after, tables, here, value_by_tables, has_location, is_defined, is_power, greatest_alignment, longest_section, alignment_as, string_bytes, counted, padding, opened_of}

-- a value where a constant is wanted
abbrev pub constant_faults : Value → List ℕ
constant_faults (Constant n) = []
constant_faults (Faulty code) = code ∷ []
constant_faults _ = not_constant ∷ []

-- a size is not negative
abbrev pub size_faults : Value → List ℕ
size_faults (Constant n) = faulty_if (not (nat_lt n (2 ^ 63))) immediate_range
size_faults v = constant_faults v

-- an alignment is a power of two and not too great; as a power of two it is not negative
abbrev pub power_faults : Value → List ℕ
power_faults (Constant k) =
    if nat_lt k (2 ^ 63) then faulty_if (not (nat_lt k 13)) limit else immediate_range ∷ []
power_faults v = constant_faults v

abbrev pub bytes_faults : Value → List ℕ
bytes_faults (Constant n) =
    if is_power n then faulty_if (not (nat_le n greatest_alignment)) limit else immediate_range ∷ []
bytes_faults v = constant_faults v

-- a value of data of a width: a symbol alone takes 4 or 8
abbrev pub value_faults : ℕ → Value → List ℕ
value_faults width (Constant n) = []
value_faults width (Symbolic symbol at plus) = faulty_if (nat_lt width 4) not_constant
value_faults width (Difference symbol minus plus) = []
value_faults width (Faulty code) = code ∷ []

-- an alignment in code above 2 has bytes, which cannot stand in a section without them
abbrev pub code_alignment_faults : Bool → Option ℕ → List ℕ
code_alignment_faults nobits None = []
code_alignment_faults nobits (Some alignment) =
    faulty_if (nobits && not (nat_le alignment 2)) wrong_section

-- data at an offset
abbrev pub past_section : Bool → ℕ → ℕ → List ℕ
past_section executable offset bytes =
    faulty_if (not executable && not (nat_le (offset + bytes) longest_section)) limit

abbrev pub zero_faults : Section → ℕ → Value → List ℕ
zero_faults section offset v =
    size_faults v ++ (faulty_if section.executable wrong_section
    ++ elim (counted v) [
      | None ↦ []
      | Some n ↦ past_section section.executable offset n
    ])

abbrev pub alignment_faults : Section → ℕ → Option ℕ → List ℕ
alignment_faults section offset alignment =
    if section.executable
    then code_alignment_faults (is_nobits section) alignment
    else past_section false offset (padding alignment offset)

-- a second definition of a name of which either is a label or a location; a location stands in no
-- code
abbrev pub set_faults : Tables → ℕ → Section → List ℕ → Value → List ℕ
set_faults t ordinal section name (Symbolic Here at plus) =
    faulty_if (is_defined t ordinal name) duplicate_label
    ++ faulty_if section.executable wrong_section
set_faults t ordinal section name v =
    constant_faults v ++ faulty_if (has_location t ordinal name) duplicate_label

-- one section more than there may be
abbrev pub section_faults : List Section → Option Section → List ℕ
section_faults sections None = []
section_faults sections (Some section) =
    faulty_if
    (not (is_some (place_of_name sections section.name))
    && not (nat_lt (length sections) most_sections)) limit

-- a pop without its push
abbrev pub choice_faults : ℕ → Choice → List ℕ
choice_faults depth Pop = faulty_if (depth == 0) option_stack
choice_faults depth _ = []

abbrev pub number_faults : AlignmentForm → Value → List ℕ
number_faults As_power v = power_faults v
number_faults As_bytes v = bytes_faults v

-- of so many bytes of data after `offset` others of a section that has to have bytes in the file
abbrev pub stored_faults : Section → ℕ → ℕ → List ℕ
stored_faults section offset bytes =
    faulty_if (section.executable || is_nobits section) wrong_section
    ++ past_section section.executable offset bytes

-- the codes of the faults of data: `t` are the tables before it, `all` those of the whole source
abbrev pub data_faults : Tables → Tables → ℕ → Data → List ℕ
data_faults all t ordinal (Values width values) =
    flat_map (λ e. value_faults width (value_by_tables all true ordinal (here t) e)) values
    ++ stored_faults (current_section (opened_of t)) (here t).offset (width * length values)
data_faults all t ordinal (Strings ended strings) =
    stored_faults (current_section (opened_of t)) (here t).offset
    (length (string_bytes ended strings))
data_faults all t ordinal (Zeros count) =
    zero_faults (current_section (opened_of t)) (here t).offset
    (value_by_tables all false ordinal (here t) count)

-- those of what a directive contributes
abbrev pub contribution_faults : Tables → Tables → ℕ → Contribution → List ℕ
contribution_faults all t ordinal Nothing = []
contribution_faults all t ordinal (Bytes contents) = data_faults all t ordinal contents
contribution_faults all t ordinal (Alignment form number) =
    let v = value_by_tables all false ordinal (here t) number in
    number_faults form v
    ++ alignment_faults (current_section (opened_of t)) (here t).offset (alignment_as form v)

-- the codes of a directive's faults
abbrev pub directive_faults : Tables → Tables → ℕ → Directive → List ℕ
directive_faults all t ordinal (Enters standard) =
    section_faults (opened_of t).sections (entered_by (Enters standard))
directive_faults all t ordinal (Opens name flags kind) =
    section_faults (opened_of t).sections (entered_by (Opens name flags kind))
directive_faults all t ordinal (Sets name e) =
    set_faults t ordinal (current_section (opened_of t)) name
    (value_by_tables all false ordinal (here t) e)
directive_faults all t ordinal (Chooses choice) = choice_faults (length t.kept) choice
directive_faults all t ordinal d = contribution_faults all t ordinal (contribution d)

-- an instruction stands in a section of code that has its bytes in the file
abbrev pub faults : Tables → Tables → ℕ → StatementKind → List ℕ
faults all t ordinal (Label name) = faulty_if (is_defined t ordinal name) duplicate_label
faults all t ordinal (Numbered number) = []
faults all t ordinal (Instruction mnemonic operands) =
    faulty_if
    (not (current_section (opened_of t)).executable
    || is_nobits (current_section (opened_of t))) wrong_section
faults all t ordinal (Directs directive) = directive_faults all t ordinal directive

-- a fault: its code and its line
pub record StatementFault : Type 0 where
  pub code : ℕ
  pub line : ℕ

abbrev pub at_line : ℕ → Option ℕ → Option StatementFault → Option StatementFault
at_line line None others = others
at_line line (Some code) others = Some (record { code = code; line = line })

-- the first faulty statement, with the lowest code of its faults
abbrev pub first_fault_from : Tables → Tables → ℕ → List Statement → Option StatementFault
first_fault_from all t ordinal [] = None
first_fault_from all t ordinal (s ∷ ss) =
    at_line s.line (lowest (faults all t ordinal s.kind))
    (first_fault_from all (after t ordinal s.kind) (suc ordinal) ss)

-- statements that are too many: the first of them has the fault of the source
abbrev pub past_most : List Statement → Option StatementFault → Option StatementFault
past_most [] others = others
past_most (s ∷ ss) others = Some (record { code = limit; line = s.line })

-- the first fault of a source's labels and directives; before them all, that it has too many
-- statements
abbrev pub first_unit_fault : List Statement → Option StatementFault
first_unit_fault ss =
    past_most (drop most_statements ss) (first_fault_from (tables ss) (at_start ss) 1 ss)

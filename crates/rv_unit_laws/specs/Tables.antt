-- What the statements of a source define: sections with the bytes of their data, labels,
-- assignments (GNU as, "Symbols", "Expressions" and "Pseudo Ops").
--
-- One step a statement (`after`), and a source's tables are all steps in a row: so what stands
-- before a statement and what the whole source gives are one definition, at two lists of
-- statements. The bindings of names stand there from the start: sizes count at once,
-- and a distance from a weak label is no constant, wherever `.weak` stands.

use Rattle.std.specs.Prelude.{◌≡◌, ℕ, zero, suc, ◌+◌, ◌-◌, ◌*◌, ◌^◌, Bool, true, false, not, ◌&&◌, ◌||◌, ◌==◌, nat_lt, nat_le, max, List, [], ◌∷◌, ◌++◌, length, map, flat_map, reverse, Option, Some, None, is_some, slice_index_or, if◌then◌else◌}
use Rattle.std.specs.List.{find, list_any}
use Rattle.std.specs.Str.{bytes_eq}
use Rattle.rv_size_laws.specs.Alignment.{aligned}
use Rattle.rv_expression_laws.specs.Bytes.{digits_value}
use Rattle.rv_expression_laws.specs.Expression.{Primary, Literal, Symbol, Here, Reference}
use Rattle.rv_expression_laws.specs.Codes.{undefined_local, not_constant}
use Rattle.rv_expression_laws.specs.Values.{Meaning, Known, InSection, Open, Refused, Value, Constant, Symbolic, add, value_of}
use Rattle.rv_statement_laws.specs.Statement.{StatementKind, Label, Numbered, Instruction, Directs, Statement, Expression, Directive, Sets, Chooses, Data, Values, Strings, Zeros, AlignmentForm, As_power, As_bytes}
use Rattle.rv_statement_laws.specs.declared.directive.Choice.{Choice}
use Rattle.rv_unit_laws.specs.Sections.{Section, Opened, text_section, most_sections, place_of_name, entered_by, section_at}
use Rattle.rv_unit_laws.specs.Options.{Options, first_options, options_then, kept_then}
use Rattle.rv_statement_laws.specs.declared.directive.Binding.{Binding}
use Rattle.rv_unit_laws.specs.Bindings.{Bindings, bindings_after, bindings_of, is_weak}
use Rattle.rv_unit_laws.specs.Contributions.{Contribution, Nothing, Bytes, Alignment, contribution}

-- where something stands: the index of its section in the source, and the bytes of data before it
-- there
pub record SectionOffset : Type 0 where
  pub section : ℕ
  pub offset : ℕ

-- a label, by its name, and the ordinal of its statement
pub record Labelled : Type 0 where
  pub name : List ℕ
  pub ordinal : ℕ
  pub place : SectionOffset

-- a numeric label
pub record NumericLabel : Type 0 where
  pub number : ℕ
  pub ordinal : ℕ
  pub place : SectionOffset

-- what a `.set` gives a name: a number, or a location in a section of data, and how far after the
-- statement that is
pub record Assignment : Type 0 where
  pub name : List ℕ
  pub ordinal : ℕ
  pub meaning : Meaning
  pub plus : ℕ

-- a section, the bytes of its data, and its alignment
pub record Extent : Type 0 where
  pub section : Section
  pub bytes : ℕ
  pub alignment : ℕ

-- the alignment of a section without statements: code has parcels of two bytes
abbrev pub least_alignment : Section → ℕ
least_alignment section = if section.executable then 2 else 1

-- a section without statements; each may raise the alignment
abbrev pub empty_extent : Section → Extent
empty_extent section =
    record { section = section; bytes = 0; alignment = least_alignment section }

-- what the statements so far define; of assignments and numeric labels the latest stand first
pub record Tables : Type 0 where
  -- the sections that are open, in their order, and the current one's index among them, from 0
  pub extents : List Extent
  pub current : ℕ
  pub labels : List Labelled
  pub numeric_labels : List NumericLabel
  pub assignments : List Assignment
  -- the options that are set, and those that were kept, the latest first
  pub options : Options
  pub kept : List Options
  -- those of the whole source
  pub bindings : Bindings

-- the tables before the first statement of a source: it begins in .text, which is always its first
-- section
abbrev pub at_start : List Statement → Tables
at_start ss = record {
  extents = empty_extent text_section ∷ [];
  current = 0;
  labels = [];
  numeric_labels = [];
  assignments = [];
  options = first_options;
  kept = [];
  bindings = bindings_of ss;
}

-- tables with what statements say of bindings besides: with that of a source, those at the start of
-- an empty one are its own
abbrev pub bound_tables : List Statement → Tables → Tables
bound_tables ss t = record t { bindings = bindings_after ss t.bindings }

-- the sections alone, the bytes of each, and the alignment of each
abbrev pub opened_of : Tables → Opened
opened_of t =
    record { sections = map (λ (e : Extent). e.section) t.extents; current = t.current }

abbrev pub ends_of : Tables → List ℕ
ends_of t = map (λ (e : Extent). e.bytes) t.extents

abbrev pub alignments_of : Tables → List ℕ
alignments_of t = map (λ (e : Extent). e.alignment) t.extents

-- the alignment of the section of an index
abbrev pub alignment_at : Tables → ℕ → ℕ
alignment_at t index = slice_index_or (alignments_of t) index 1

-- where the next statement stands
abbrev pub here : Tables → SectionOffset
here t = record { section = t.current; offset = slice_index_or (ends_of t) t.current 0 }

-- ---- meanings

-- an offset in data has a known distance from others of its section, one in code has none
abbrev pub stands : Opened → SectionOffset → Meaning
stands opened p =
    if (section_at opened p.section).executable then Open else InSection p.section p.offset

-- the latest assignment of a name before an ordinal
abbrev pub assigned_before : List Assignment → ℕ → List ℕ → Option Assignment
assigned_before assignments ordinal name =
    find (λ s. nat_lt s.ordinal ordinal && bytes_eq s.name name) assignments

-- any assignment of a name
abbrev pub assigned_ever : List Assignment → List ℕ → Option Assignment
assigned_ever assignments name = find (λ s. bytes_eq s.name name) assignments

-- the label of a name; where `all` is false, one before an ordinal
abbrev pub label_of : List Labelled → Bool → ℕ → List ℕ → Option Labelled
label_of labels all ordinal name =
    find (λ l. bytes_eq l.name name && (all || nat_lt l.ordinal ordinal)) labels

-- the nearest numeric label before an ordinal, and after it
abbrev pub numeric_label_before : List NumericLabel → ℕ → ℕ → Option NumericLabel
numeric_label_before numeric_labels ordinal number =
    find (λ m. nat_lt m.ordinal ordinal && (m.number == number)) numeric_labels

abbrev pub numeric_label_after : List NumericLabel → ℕ → ℕ → Option NumericLabel
numeric_label_after numeric_labels ordinal number =
    find (λ m. nat_lt ordinal m.ordinal && (m.number == number)) (reverse numeric_labels)

-- a location may be named before its `.set`, a constant may not
abbrev pub assigned_later : Bool → Option Assignment → Meaning
assigned_later false found = Open
assigned_later true None = Open
assigned_later true (Some s) = elim s.meaning [
  | Known n ↦ Refused not_constant
  | InSection section offset ↦ InSection section offset
  | Open ↦ Open
  | Refused code ↦ Refused code
]

abbrev pub labelled : Opened → Option Labelled → Meaning → Meaning
labelled opened (Some l) other = stands opened l.place
labelled opened None other = other

abbrev pub assigned_first : Option Assignment → Meaning → Meaning
assigned_first (Some s) other = s.meaning
assigned_first None other = other

-- a name in its own file: its latest earlier assignment, else its label, else the location that it
-- is set to; else it is another file's
abbrev pub own_named : Tables → Bool → ℕ → List ℕ → Meaning
own_named t all ordinal name =
    assigned_first (assigned_before t.assignments ordinal name)
    (labelled (opened_of t) (label_of t.labels all ordinal name)
    (assigned_later all (assigned_ever t.assignments name)))

-- a place whose name is weak has no known distance from others: another file's may be meant; a
-- constant stays what it is
abbrev pub weakened : Binding → Meaning → Meaning
weakened binding (InSection section offset) =
    if is_weak binding then Open else InSection section offset
weakened binding other = other

abbrev pub named : Tables → Bool → ℕ → List ℕ → Meaning
named t all ordinal name = weakened (t.bindings name) (own_named t all ordinal name)

-- a numeric reference; where later definitions do not count, one that comes later is no constant
abbrev pub forward_in : Opened → Bool → Option NumericLabel → Meaning
forward_in opened all None = Refused undefined_local
forward_in opened false (Some m) = Refused not_constant
forward_in opened true (Some m) = stands opened m.place

abbrev pub backward_in : Opened → Option NumericLabel → Meaning
backward_in opened None = Refused undefined_local
backward_in opened (Some m) = stands opened m.place

abbrev pub referred : Tables → Bool → ℕ → ℕ → Bool → Meaning
referred t all ordinal number true =
    forward_in (opened_of t) all (numeric_label_after t.numeric_labels ordinal number)
referred t all ordinal number false =
    backward_in (opened_of t) (numeric_label_before t.numeric_labels ordinal number)

-- what stands in an expression of the statement of this ordinal at this offset: `all` says whether
-- later definitions count, as in values of data and in operands of instructions; in sizes,
-- alignments and assignments they don't
abbrev pub meaning : Tables → Bool → ℕ → SectionOffset → Primary → Meaning
meaning t all ordinal p (Literal number) = Known number
meaning t all ordinal p (Symbol name) = named t all ordinal name
meaning t all ordinal p Here = stands (opened_of t) p
meaning t all ordinal p (Reference digits forward) =
    referred t all ordinal (digits_value 10 digits) forward

abbrev pub value_by_tables : Tables → Bool → ℕ → SectionOffset → Expression → Value
value_by_tables t all ordinal p e = value_of (λ q. meaning t all ordinal p q) e

-- ---- where symbols are defined

-- the definition of a symbol: the statement of an ordinal, and the bytes after its start
pub record Definition : Type 0 where
  pub ordinal : ℕ
  pub plus : ℕ

abbrev pub definition_at : ℕ → Definition
definition_at ordinal = record { ordinal = ordinal; plus = 0 }

-- whether an assignment is a location
abbrev pub is_location : Assignment → Bool
is_location s = elim s.meaning [
  | Known n ↦ false
  | InSection section offset ↦ true
  | Open ↦ false
  | Refused code ↦ false
]

-- a location has a definition, a number has none
abbrev pub assigned_definition : Option Assignment → Option Definition
assigned_definition None = None
assigned_definition (Some s) =
    if is_location s then Some (record { ordinal = s.ordinal; plus = s.plus }) else None

abbrev pub labelled_definition : Option Labelled → Option Definition → Option Definition
labelled_definition (Some l) other = Some (definition_at l.ordinal)
labelled_definition None other = other

abbrev pub first_definition : Option Definition → Option Definition → Option Definition
first_definition (Some h) other = Some h
first_definition None other = other

abbrev pub numeric_definition : Option NumericLabel → Option Definition
numeric_definition None = None
numeric_definition (Some m) = Some (definition_at m.ordinal)

-- the definition in its file of a symbol in an expression of the statement of this ordinal; none
-- where it has none there
abbrev pub definition : Tables → ℕ → Primary → Option Definition
definition t ordinal (Literal number) = None
definition t ordinal (Symbol name) =
    first_definition (assigned_definition (assigned_before t.assignments ordinal name))
    (labelled_definition (label_of t.labels true ordinal name)
    (assigned_definition (assigned_ever t.assignments name)))
definition t ordinal Here = Some (definition_at ordinal)
definition t ordinal (Reference digits true) =
    numeric_definition (numeric_label_after t.numeric_labels ordinal (digits_value 10 digits))
definition t ordinal (Reference digits false) =
    numeric_definition (numeric_label_before t.numeric_labels ordinal (digits_value 10 digits))

-- whether another file's definition of a symbol may be meant in place of its own
abbrev pub gives_way : Tables → Primary → Bool
gives_way t (Symbol name) = is_weak (t.bindings name)
gives_way t _ = false

-- the definition that a symbol means whatever other files say; none where that is theirs to say
abbrev pub sure_definition : Tables → ℕ → Primary → Option Definition
sure_definition t ordinal q = if gives_way t q then None else definition t ordinal q

-- ---- sizes

-- the longest section, in bytes
abbrev pub longest_section : ℕ
longest_section = 2 ^ 28

-- the greatest alignment
abbrev pub greatest_alignment : ℕ
greatest_alignment = 4096

-- a number is a power of two below 2 ^ 63
abbrev pub is_power_below : ℕ → ℕ → Bool
is_power_below zero n = false
is_power_below (suc k) n = (n == 2 ^ k) || is_power_below k n

abbrev pub is_power : ℕ → Bool
is_power n = is_power_below 63 n

-- the alignment of a value: to that power of two, or to that number of bytes; none where it can't
-- be had
abbrev pub power_alignment : Value → Option ℕ
power_alignment (Constant k) = if nat_lt k 13 then Some (2 ^ k) else None
power_alignment _ = None

abbrev pub byte_alignment : Value → Option ℕ
byte_alignment (Constant n) = if is_power n && nat_le n greatest_alignment then Some n else None
byte_alignment _ = None

abbrev pub alignment_as : AlignmentForm → Value → Option ℕ
alignment_as As_power v = power_alignment v
alignment_as As_bytes v = byte_alignment v

-- the alignment of a contribution, by the value of its expression
abbrev pub contribution_alignment : (Expression → Value) → Contribution → Option ℕ
contribution_alignment v (Alignment form number) = alignment_as form (v number)
contribution_alignment v _ = None

abbrev pub alignment_of : (Expression → Value) → Directive → Option ℕ
alignment_of v d = contribution_alignment v (contribution d)

-- a count of bytes: a number below 2 ^ 63
abbrev pub counted : Value → Option ℕ
counted (Constant n) = if nat_lt n (2 ^ 63) then Some n else None
counted _ = None

-- the bytes of strings, where asked with a zero byte after each
abbrev pub string_bytes : Bool → List (List ℕ) → List ℕ
string_bytes ended strings = flat_map (λ s. s ++ (if ended then 0 ∷ [] else [])) strings

abbrev pub or_none : Option ℕ → ℕ
or_none None = 0
or_none (Some n) = n

-- the bytes of data, by the values of expressions: none where a count is faulty
abbrev pub data_size : (Expression → Value) → Data → ℕ
data_size v (Values width values) = width * length values
data_size v (Strings ended strings) = length (string_bytes ended strings)
data_size v (Zeros count) = or_none (counted (v count))

-- data has so many bytes
abbrev pub HasDataSize : (Expression → Value) → Data → ℕ → Type 0
HasDataSize v (Values width values) bytes = bytes ≡ width * length values
HasDataSize v (Strings ended strings) bytes = bytes ≡ length (string_bytes ended strings)
HasDataSize v (Zeros count) bytes = v count ≡ Constant bytes

-- the bytes at an offset where they don't pass the longest section, else none
abbrev pub within : ℕ → ℕ → ℕ
within offset bytes = if nat_le (offset + bytes) longest_section then bytes else 0

abbrev pub padding : Option ℕ → ℕ → ℕ
padding None offset = 0
padding (Some alignment) offset = aligned alignment offset - offset

-- the bytes that a contribution has at an offset of data: none where they would pass the longest
-- section, or where a count or an alignment is faulty. The statement of data that would pass it is
-- refused, so no end of a section passes 32 bits.
abbrev pub contributed : (Expression → Value) → ℕ → Contribution → ℕ
contributed v offset Nothing = 0
contributed v offset (Bytes contents) = within offset (data_size v contents)
contributed v offset (Alignment form number) =
    within offset (padding (alignment_as form (v number)) offset)

abbrev pub data_bytes : (Expression → Value) → ℕ → Directive → ℕ
data_bytes v offset d = contributed v offset (contribution d)

-- ---- what a statement changes

abbrev pub changed_at : {X : Type 0} → ℕ → (X → X) → List X → List X
changed_at i change [] = []
changed_at zero change (x ∷ xs) = change x ∷ xs
changed_at (suc i) change (x ∷ xs) = x ∷ changed_at i change xs

-- a label or a location has the name; a label or any assignment has it
abbrev pub has_location : Tables → ℕ → List ℕ → Bool
has_location t ordinal name =
    is_some (label_of t.labels false ordinal name)
    || list_any
    (λ s. nat_lt s.ordinal ordinal && bytes_eq s.name name && is_location s) t.assignments

abbrev pub is_defined : Tables → ℕ → List ℕ → Bool
is_defined t ordinal name =
    is_some (label_of t.labels false ordinal name)
    || is_some (assigned_before t.assignments ordinal name)

-- what `.set` assigns by the value of its expression: a number, a location where its symbol is `.`,
-- or nothing
abbrev pub assigned : List ℕ → ℕ → Value → Option Assignment
assigned name ordinal (Constant n) =
    Some (record { name = name; ordinal = ordinal; meaning = Known n; plus = 0 })
assigned name ordinal (Symbolic Here (InSection section offset) plus) =
    Some
    (record {
      name = name;
      ordinal = ordinal;
      meaning = InSection section (add offset plus);
      plus = plus;
    })
assigned name ordinal _ = None

-- whether a `.set` gives a location
abbrev pub gives_location : Option Assignment → Bool
gives_location None = false
gives_location (Some s) = is_location s

-- no second definition of a name of which either is a label or a location
abbrev pub may_set : Tables → ℕ → List ℕ → Meaning → Bool
may_set t ordinal name (InSection section offset) = not (is_defined t ordinal name)
may_set t ordinal name _ = not (has_location t ordinal name)

abbrev pub with_assignment : Tables → Option Assignment → Tables
with_assignment t None = t
with_assignment t (Some s) =
    if may_set t s.ordinal s.name s.meaning then record t { assignments = s ∷ t.assignments } else t

abbrev pub with_label : Tables → ℕ → List ℕ → Tables
with_label t ordinal name =
    if is_defined t ordinal name then t
    else record t {
      labels = t.labels ++ record { name = name; ordinal = ordinal; place = here t } ∷ [];
    }

abbrev pub with_numeric_label : Tables → ℕ → ℕ → Tables
with_numeric_label t ordinal number =
    record t {
      numeric_labels = record { number = number; ordinal = ordinal; place = here t } ∷
          t.numeric_labels;
    }

-- a name that was opened before keeps its section; a new one is a section after the others, while
-- there is room
abbrev pub entered_at : Tables → Section → Option ℕ → Tables
entered_at t section (Some index) = record t { current = index }
entered_at t section None =
    if nat_lt (length t.extents) most_sections
    then record t { extents = t.extents ++ empty_extent section ∷ []; current = length t.extents }
    else t

abbrev pub with_section : Tables → Option Section → Tables
with_section t None = t
with_section t (Some section) =
    entered_at t section (place_of_name (opened_of t).sections section.name)

-- the bytes of data that a section counts: one of code counts none
abbrev pub counted_in : Section → ℕ → ℕ
counted_in section bytes = if section.executable then 0 else bytes

-- a section with more data, and an alignment more
abbrev pub extended : ℕ → Option ℕ → Extent → Extent
extended bytes alignment e = record {
  section = e.section;
  bytes = e.bytes + counted_in e.section bytes;
  alignment = max e.alignment (max 1 (or_none alignment));
}

-- data at the end of the current section, and an alignment of that section
abbrev pub with_data : Tables → ℕ → Option ℕ → Tables
with_data t bytes alignment =
    record t { extents = changed_at t.current (extended bytes alignment) t.extents }

-- what a directive contributes, by the values of expressions
abbrev pub with_contribution : Tables → (Expression → Value) → Contribution → Tables
with_contribution t v Nothing = t
with_contribution t v c = with_data t (contributed v (here t).offset c) (contribution_alignment v c)

abbrev pub with_choice : Tables → Choice → Tables
with_choice t choice = record t {
  options = options_then t.options t.kept choice;
  kept = kept_then t.options t.kept choice;
}

-- the option that a directive chooses
abbrev pub choice_in : Directive → Option Choice
choice_in (Chooses choice) = Some choice
choice_in _ = None

abbrev pub with_chosen : Tables → Option Choice → Tables
with_chosen t None = t
with_chosen t (Some choice) = with_choice t choice

-- what a directive gives a name, by the values of expressions
abbrev pub assigned_by : (Expression → Value) → ℕ → Directive → Option Assignment
assigned_by v ordinal (Sets name e) = assigned name ordinal (v e)
assigned_by v ordinal _ = None

-- a directive enters a section, gives a name its value, chooses an option or contributes to its
-- section
abbrev pub after_directive : Tables → ℕ → Directive → Tables
after_directive t ordinal d =
    let v = value_by_tables t false ordinal (here t) in
    let named = with_assignment (with_section t (entered_by d)) (assigned_by v ordinal d) in
    with_contribution (with_chosen named (choice_in d)) v (contribution d)

-- the tables after a statement of this ordinal; a faulty one defines nothing
abbrev pub after : Tables → ℕ → StatementKind → Tables
after t ordinal (Label name) = with_label t ordinal name
after t ordinal (Numbered number) = with_numeric_label t ordinal number
after t ordinal (Instruction mnemonic operands) = t
after t ordinal (Directs directive) = after_directive t ordinal directive

-- the tables after statements from an ordinal on
abbrev pub after_all : Tables → ℕ → List Statement → Tables
after_all t ordinal [] = t
after_all t ordinal (s ∷ ss) = after_all (after t ordinal s.kind) (suc ordinal) ss

-- the tables of a source
abbrev pub tables : List Statement → Tables
tables ss = after_all (at_start ss) 1 ss

-- whether a statement enters a section
abbrev pub enters : StatementKind → Bool
enters (Directs directive) = is_some (entered_by directive)
enters _ = false

-- where a statement stands: in the section that is current after it
abbrev pub stood : Tables → ℕ → StatementKind → SectionOffset
stood t ordinal says = if enters says then here (after t ordinal says) else here t

abbrev pub places_from : Tables → ℕ → List Statement → List SectionOffset
places_from t ordinal [] = []
places_from t ordinal (s ∷ ss) =
    stood t ordinal s.kind ∷ places_from (after t ordinal s.kind) (suc ordinal) ss

abbrev pub places : List Statement → List SectionOffset
places ss = places_from (at_start ss) 1 ss

-- the options in which each statement stands: those that the statements before it set
abbrev pub options_from : Tables → ℕ → List Statement → List Options
options_from t ordinal [] = []
options_from t ordinal (s ∷ ss) = t.options ∷ options_from (after t ordinal s.kind) (suc ordinal) ss

abbrev pub all_options : List Statement → List Options
all_options ss = options_from (at_start ss) 1 ss

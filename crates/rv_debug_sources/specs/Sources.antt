-- How a source is changed, so that what sections without the flag `a` refer to is kept: each
-- statement that opens one has the flag, LEB128 numbers are bytes, `.loc` is a label, `.file N` is
-- nothing, a label stands where a section with such rows is left, and all else is the source's;
-- behind it stands the line table (GNU as, "Statements", ".section", ".uleb128", ".sleb128", ".loc",
-- ".file").

use Rattle.std.specs.Prelude.{ℕ, ◌+◌, ◌-◌, ◌^◌, ◌==◌, nat_lt, nat_le, Bool, true, false, ◌&&◌, List, [], ◌∷◌, ◌++◌, length, take, drop, codes, bytes_eq, Option, Some, None, option_map, option_and_then, slice_get, if◌then◌else◌}
use Rattle.std.specs.List.{list_any, find}
use Rattle.rv_expression_laws.specs.Front.{tokens_from}
use Rattle.rv_expression_laws.specs.Grammar.{Kind, Name, Text}
use Rattle.rv_expression_laws.specs.Lexing.{Token}
use Rattle.rv_unit_laws.specs.Sections.{section_with}
use Rattle.rv_debug_laws.specs.Marks.{token_number, is_minus, ends_statement, is_colon}
use Rattle.rv_debug_sources.specs.declared.edit.Change.{Change}
use Rattle.rv_debug_sources.specs.declared.edit.Change.TheVariants.{Flag, Flags, Unsigned, Signed, RowLabel, EndLabel, Nothing}
use Rattle.rv_debug_sources.specs.declared.edit.Edit.{Edit}
use Rattle.rv_debug_sources.specs.declared.edit.Statement.{Statement}
use Rattle.rv_debug_sources.specs.declared.edit.Statement.TheVariants.{Kept, Changed, Named, Placed}
use Rattle.rv_debug_sources.specs.declared.line.SaidFile.{SaidFile}
use Rattle.rv_debug_sources.specs.declared.line.LineRow.{LineRow}
use Rattle.rv_debug_sources.specs.Leb128.{unsigned_text, signed_text}
use Rattle.rv_debug_sources.specs.Lines as lines
use Rattle.rv_debug_sources.specs.Lines.{Said, nothing_said, file_said, may_stand, with_file, row_said, enters_section, is_string_kind}
use Rattle.rv_debug_sources.specs.LineText.{part, with_label, row_front, end_front, with_table}

-- ---- what edits make of a source

-- what a plain source has none of: flags, and labels of lines
abbrev pub is_mark : Change → Bool
is_mark (Unsigned number) = false
is_mark (Signed negative size) = false
is_mark _ = true

-- a text with a change behind it
abbrev pub with_change : List ℕ → Change → List ℕ
with_change text Flag = text ++ codes "a"
with_change text Flags = text ++ codes ",\"a\""
with_change text (Unsigned number) = text ++ (codes ".byte " ++ unsigned_text 10 number)
with_change text (Signed negative size) = text ++ (codes ".byte " ++ signed_text 10 negative size)
with_change text (RowLabel at) = with_label text row_front at ++ codes ":"
with_change text (EndLabel at) = with_label text end_front at ++ codes ": "
with_change text Nothing = text

abbrev pub with_change_in : (is_plain : Bool) → List ℕ → Change → List ℕ
with_change_in is_plain text change =
    if is_plain && is_mark change then text else with_change text change

-- a text with a source from an offset on behind it, but these edits: the bytes of each give way
abbrev pub with_edited :
    (is_plain : Bool) (source text : List ℕ) (at : ℕ) → List Edit → List ℕ
with_edited is_plain source text at [] = text ++ drop at source
with_edited is_plain source text at (e ∷ es) =
    with_edited is_plain source
    (with_change_in is_plain (text ++ part at e.start source) e.change) e.stop es

abbrev pub edited : (is_plain : Bool) (source : List ℕ) → List Edit → List ℕ
edited is_plain source es = with_edited is_plain source [] 0 es

-- ---- a statement, by its tokens

abbrev pub kind_in : Option Token → Option Kind
kind_in t = option_map (λ (t : Token). t.kind) t

-- a token is this word
abbrev pub is_this_word : (word : List ℕ) → Option Kind → Bool
is_this_word word (Some (Name name)) = bytes_eq name word
is_this_word word _ = false

abbrev pub insertion : ℕ → Change → Statement
insertion at change = Changed (record { start = at; stop = at; change = change })

-- a section that is opened without flags is loaded if the front of its name says so
abbrev pub is_loaded_name : Option Kind → Bool
is_loaded_name (Some (Name name)) = (section_with name None None).loaded
is_loaded_name _ = true

-- flags go behind a name, and the flag `a` behind the quote that opens others
abbrev pub behind_name : Option Token → Statement
behind_name None = Kept
behind_name (Some last) = insertion last.stop Flags

abbrev pub without_flags : List Token → Statement
without_flags ts =
    if is_loaded_name (kind_in (slice_get ts 1)) then Kept
    else behind_name (slice_get ts (length ts - 1))

abbrev pub flags_with : (start : ℕ) → List ℕ → Statement
flags_with start flags =
    if list_any (λ flag. flag == 97) flags then Kept else insertion (start + 1) Flag

abbrev pub flags_by : (start : ℕ) → Kind → Statement
flags_by start (Text flags) = flags_with start flags
flags_by start _ = Kept

abbrev pub opened_by : List Token → Option Token → Statement
opened_by ts None = without_flags ts
opened_by ts (Some flags) = flags_by flags.start flags.kind

-- `.section NAME` and `.section NAME,"FLAGS"`, where flags are the only string. Only the first flags
-- of a name count, so that those of a later statement may be what they like
abbrev pub opening_in : List Token → Statement
opening_in ts = opened_by ts (find (λ (t : Token). is_string_kind t.kind) ts)

-- a signed number, if it has 64 bits
abbrev pub above : ℕ → Option Change
above number = if nat_lt number (2 ^ 63) then Some (Signed false number) else None

abbrev pub below : ℕ → Option Change
below number =
    if number == 0 then Some (Signed false 0)
    else if nat_le number (2 ^ 63) then Some (Signed true (number - 1)) else None

-- the tokens from the first to another in its line give way to a text
abbrev pub replaced_by : Option Token → Option Token → Change → Statement
replaced_by (Some first) (Some last) change =
    if first.line == last.line
    then Changed (record { start = first.start; stop = last.stop; change = change }) else Kept
replaced_by _ _ change = Kept

abbrev pub replaced : List Token → (last : ℕ) → Option Change → Statement
replaced ts last None = Kept
replaced ts last (Some change) = replaced_by (slice_get ts 0) (slice_get ts last) change

-- `.uleb128 N`
abbrev pub unsigned_in : List Token → Statement
unsigned_in ts =
    if length ts == 2
    then replaced ts 1 (option_map Unsigned (token_number (kind_in (slice_get ts 1)))) else Kept

-- `.sleb128 N` and `.sleb128 -N`
abbrev pub signed_in : List Token → Statement
signed_in ts =
    if length ts == 2
    then replaced ts 1 (option_and_then above (token_number (kind_in (slice_get ts 1))))
    else if (length ts == 3) && is_minus (kind_in (slice_get ts 1))
    then replaced ts 2 (option_and_then below (token_number (kind_in (slice_get ts 2)))) else Kept

-- `.file N`, and `.loc`
abbrev pub naming_file : Statement → SaidFile → Statement
naming_file (Changed edit) f = Named edit f
naming_file _ f = Kept

abbrev pub placing_row : Statement → LineRow → Statement
placing_row (Changed edit) row = Placed edit row
placing_row _ row = Kept

-- a row's label stands in its place
abbrev pub change_of_row : LineRow → Change
change_of_row row = if row.line == 0 then Nothing else RowLabel row.at

abbrev pub whole_statement : List Token → Change → Statement
whole_statement ts change = replaced ts (length ts - 1) (Some change)

abbrev pub named_by : Said → List Token → Option SaidFile → Statement
named_by said ts None = Kept
named_by said ts (Some f) =
    if may_stand said f then naming_file (whole_statement ts Nothing) f else Kept

abbrev pub placed_by : List Token → Option LineRow → Statement
placed_by ts None = Kept
placed_by ts (Some row) = placing_row (whole_statement ts (change_of_row row)) row

abbrev pub loc_at : Said → List Token → Option Token → Statement
loc_at said ts None = Kept
loc_at said ts (Some t) = placed_by ts (row_said said t.start (drop 1 ts))

abbrev pub statement_in : Said → List Token → Statement
statement_in said ts =
    if is_this_word (codes ".section") (kind_in (slice_get ts 0)) then opening_in ts
    else if is_this_word (codes ".uleb128") (kind_in (slice_get ts 0)) then unsigned_in ts
    else if is_this_word (codes ".sleb128") (kind_in (slice_get ts 0)) then signed_in ts
    else if is_this_word (codes ".file") (kind_in (slice_get ts 0))
    then named_by said ts (file_said ts)
    else if is_this_word (codes ".loc") (kind_in (slice_get ts 0))
    then loc_at said ts (slice_get ts 0) else Kept

-- ---- the statements of a source, from its tokens

-- a label is a statement: a token, and a colon behind it
abbrev pub closes_label : List Token → Kind → Bool
closes_label ts kind = (length ts == 1) && is_colon kind

-- the statements among tokens, where these of the first stand before
abbrev pub statements_from : List Token → List Token → List (List Token)
statements_from begun [] = []
statements_from begun (t ∷ ts) =
    if ends_statement t.kind then begun ∷ statements_from [] ts
    else if closes_label begun t.kind then statements_from [] ts
    else statements_from (begun ++ t ∷ []) ts

abbrev pub statements_of : List ℕ → List (List Token)
statements_of source = statements_from [] (tokens_from 0 1 source)

-- ---- what is read of statements

-- the edits, and what is said of lines
pub record Read : Type 0 where
  pub edits : List Edit
  pub said : Said

abbrev pub with_edit : Read → Edit → Said → Read
with_edit r edit said = record r { edits = r.edits ++ edit ∷ []; said = said }

abbrev pub with_statement : Read → Statement → Read
with_statement r Kept = r
with_statement r (Changed edit) = with_edit r edit r.said
with_statement r (Named edit f) = with_edit r edit (with_file r.said f f.directory)
with_statement r (Placed edit row) = with_edit r edit (lines.with_row r.said row)

abbrev pub end_edit : (at : ℕ) → Edit
end_edit at = record { start = at; stop = at; change = EndLabel at }

-- where a section is left behind rows, a label in front of the statement ends them
abbrev pub ended_at : Read → (at : ℕ) → Read
ended_at r at = with_edit r (end_edit at) (lines.with_end r.said at)

abbrev pub left_at : Read → (first : Option Token) → Option ℕ
left_at r None = None
left_at r (Some t) = if r.said.is_open && enters_section t.kind then Some t.start else None

abbrev pub ended_by : Read → Option ℕ → Read
ended_by r None = r
ended_by r (Some at) = ended_at r at

abbrev pub sequence_ended : Read → (first : Option Token) → Read
sequence_ended r first = ended_by r (left_at r first)

abbrev pub read_next : Read → List Token → Read
read_next r ts = with_statement (sequence_ended r (slice_get ts 0)) (statement_in r.said ts)

abbrev pub read_all : Read → List (List Token) → Read
read_all r [] = r
read_all r (ts ∷ more) = read_all (read_next r ts) more

abbrev pub nothing_read : Read
nothing_read = record { edits = []; said = nothing_said }

abbrev pub read_of : List ℕ → Read
read_of source = read_all nothing_read (statements_of source)

-- ---- the changed source

-- none where nothing is changed
abbrev pub stays_as_it_is : Read → Bool
stays_as_it_is r = length r.edits == 0

abbrev pub changed_by : (source : List ℕ) → Read → Option (List ℕ)
changed_by source r =
    if stays_as_it_is r then None
    else Some (with_table source (edited false source r.edits) r.said)

abbrev pub changed : List ℕ → Option (List ℕ)
changed source = changed_by source (read_of source)

-- ---- the plain source: of these changes only LEB128 numbers are bytes, and nothing says lines

abbrev pub plain_by : (source : List ℕ) → Read → Option (List ℕ)
plain_by source r = if stays_as_it_is r then None else Some (edited true source r.edits)

abbrev pub plain_text : List ℕ → Option (List ℕ)
plain_text source = plain_by source (read_of source)

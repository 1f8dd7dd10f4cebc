-- The codes of the faults of phase one, by what stands before a token and at it (GNU as,
-- "Statements", for the syntax). What is wrong inside an expression is said with the expressions.

use Rattle.std.specs.Prelude.{ℕ, Bool, true, false, ◌||◌, ◌==◌, nat_lt, List, length, codes, take, if◌then◌else◌}
use Rattle.std.specs.List.{list_all}
use Rattle.std.specs.Str.{bytes_eq}
use Rattle.rv_expression_laws.specs.declared.punct.Punct.TheVariants.{DoubleSlash}
use Rattle.rv_expression_laws.specs.Grammar.{Kind, Punctuation, Name as NameToken, Bad_word, Text, Bad_byte, Bad_token}
use Rattle.rv_expression_laws.specs.Codes.{bad_byte, bad_token, unknown_mnemonic, bad_operands, unknown_directive, unsupported_here, limit}
use Rattle.rv_expression_laws.specs.SyntaxError.{SyntaxError, wrong, longest_name, is_long}
use Rattle.rv_expression_laws.specs.Lexing.{Token}
use Rattle.rv_parse_laws.specs.Words.{is_among, left_out_words, left_out_options, is_frame}
use Rattle.rv_parse_laws.specs.Syntax.{Slot, A_value, A_symbol, A_section, An_option, A_comma, An_opening, is_comma, is_flag}
use Rattle.rv_parse_laws.specs.declared.role.Role.{Role}
use Rattle.rv_parse_laws.specs.declared.role.Role.TheVariants as roles

-- a token that is wrong wherever it stands has a code of its own; every other has the code of its
-- place
abbrev pub wrong_or : Kind → ℕ → ℕ
wrong_or Bad_byte code = bad_byte
wrong_or Bad_token code = bad_token
wrong_or (Bad_word word) code = bad_token
wrong_or (Punctuation DoubleSlash) code = unsupported_here
wrong_or _ code = code

-- a name that is no symbol's, where a symbol may stand
abbrev pub wrong_name : List ℕ → ℕ
wrong_name name = if nat_lt longest_name (length name) then limit else bad_operands

-- where the name of a section begins; a string would be a quoted name
abbrev pub wrong_section_name : Kind → ℕ
wrong_section_name (Text bytes) = unsupported_here
wrong_section_name k = wrong_or k bad_operands

-- a function may stand in place of a value
abbrev pub may_call : Role → Bool
may_call roles.Operand = true
may_call roles.Source = true
may_call roles.Upper = true
may_call roles.PcrelUpper = true
may_call _ = false

-- after a whole expression: a fill or a limit of an alignment is left out
abbrev pub wrong_after_value : Role → Kind → ℕ
wrong_after_value roles.Alignment k =
    if is_comma k then unsupported_here else wrong_or k bad_operands
wrong_after_value _ k = wrong_or k bad_operands

-- behind what stands in a place
abbrev pub wrong_after : Slot → Kind → ℕ
wrong_after (A_value role) k = wrong_after_value role k
wrong_after _ k = wrong_or k bad_operands

abbrev pub is_name : Kind → Bool
is_name (NameToken name) = true
is_name _ = false

-- where a symbol is wanted in a directive, or a label
abbrev pub wrong_symbol : Kind → ℕ
wrong_symbol (NameToken name) = wrong_name name
wrong_symbol (Text bytes) = unsupported_here
wrong_symbol k = wrong_or k bad_operands

-- after `%`: a word that is no function that may stand there is refused at the `%`
abbrev pub wrong_function : Token → Token → SyntaxError
wrong_function percent name =
    if is_name name.kind
    then wrong percent bad_operands else wrong name (wrong_or name.kind bad_operands)

-- a letter of flags that the language leaves out: G and T
abbrev pub is_known_flag : ℕ → Bool
is_known_flag letter = is_flag letter || (letter == 71) || (letter == 84)

-- letters that are no flags of a section; an unknown one counts before those that are left out
abbrev pub wrong_letters : List ℕ → ℕ
wrong_letters letters = if list_all is_known_flag letters then unsupported_here else bad_operands

-- the word after `.option`
abbrev pub wrong_option : Kind → ℕ
wrong_option (NameToken name) =
    if is_among left_out_options name then unsupported_here else bad_operands
wrong_option k = wrong_or k bad_operands

-- where what stands in a place begins
abbrev pub wrong_first : Slot → Kind → ℕ
wrong_first A_symbol k = wrong_symbol k
wrong_first A_section k = wrong_section_name k
wrong_first An_option k = wrong_option k
wrong_first (A_comma behind) k = wrong_after behind k
wrong_first (An_opening behind) k = wrong_after behind k
wrong_first _ k = wrong_or k bad_operands

-- where operands are not looked at
abbrev pub wrong_any : Kind → ℕ
wrong_any k = if is_long k then limit else wrong_or k bad_operands

-- a word that begins a statement, and is neither a mnemonic nor a directive; call frame information
-- is none where its word is too long
abbrev pub wrong_word : List ℕ → ℕ
wrong_word word =
    if is_among left_out_words word then unsupported_here
    else if is_frame word then limit
    else (if bytes_eq (take 1 word) (codes ".") then unknown_directive else unknown_mnemonic)

-- a token that begins a statement, and no label
abbrev pub wrong_start : Kind → ℕ
wrong_start (NameToken name) = wrong_word name
wrong_start (Text bytes) = unsupported_here
wrong_start k = wrong_or k unknown_mnemonic

-- a token before a colon, at a statement's start
abbrev pub wrong_label : Kind → ℕ
wrong_label (NameToken name) = wrong_name name
wrong_label k = wrong_start k

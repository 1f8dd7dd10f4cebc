-- What the directives `.type` and `.size` of a source say of names (GNU as, "Statements", ".type",
-- ".size").

use Rattle.std.specs.Prelude.{ℕ, ◌+◌, ◌-◌, ◌^◌, min, ◌==◌, nat_lt, Bool, true, false, ◌&&◌, List, [], ◌∷◌, ◌++◌, length, codes, bytes_eq, Option, Some, None, option_map, option_and_then, slice_get, if◌then◌else◌}
use Rattle.rv_expression_laws.specs.declared.punct.Punct.TheVariants.{Comma, Colon, Semicolon, Minus, Percent, At}
use Rattle.rv_expression_laws.specs.Front.{tokens_from}
use Rattle.rv_expression_laws.specs.Grammar.{Kind, Newline, Punctuation, Name, Number, End}
use Rattle.rv_expression_laws.specs.Lexing.{Token}
use Rattle.rv_debug_laws.specs.declared.mark.Said.TheVariants.{Typed, Sized}
use Rattle.rv_debug_laws.specs.declared.mark.SaidSize.{SaidSize}
use Rattle.rv_debug_laws.specs.declared.mark.SaidSize.TheVariants.{UpTo, Bytes}
use Rattle.rv_debug_laws.specs.declared.mark.SymbolType.{SymbolType}
use Rattle.rv_debug_laws.specs.declared.mark.SymbolType.TheVariants.{NoType, Datum, Function}
use Rattle.rv_debug_laws.specs.Labels.{Mark, one_of}

-- ---- a directive, by the tokens of its statement

abbrev pub token_name : Option Kind → Option (List ℕ)
token_name (Some (Name name)) = Some name
token_name _ = None

abbrev pub token_number : Option Kind → Option ℕ
token_number (Some (Number word number)) = Some number
token_number _ = None

abbrev pub is_comma : Option Kind → Bool
is_comma (Some (Punctuation Comma)) = true
is_comma _ = false

abbrev pub is_minus : Option Kind → Bool
is_minus (Some (Punctuation Minus)) = true
is_minus _ = false

-- what stands in front of a type's name
abbrev pub is_type_sign : Option Kind → Bool
is_type_sign (Some (Punctuation At)) = true
is_type_sign (Some (Punctuation Percent)) = true
is_type_sign _ = false

abbrev pub says_name : (name : List ℕ) → Option (List ℕ) → Bool
says_name name None = false
says_name name (Some other) = bytes_eq other name

-- other types than these are not taken
abbrev pub type_named : List ℕ → Option SymbolType
type_named name =
    if bytes_eq name (codes "function") then Some Function
    else if bytes_eq name (codes "object") then Some Datum
    else if bytes_eq name (codes "notype") then Some NoType
    else None

-- .type NAME, @TYPE
abbrev pub type_said : List Kind → Option SymbolType
type_said ks =
    if (length ks == 5) && is_type_sign (slice_get ks 3)
    then option_and_then type_named (token_name (slice_get ks 4)) else None

-- .size NAME, . - NAME
abbrev pub is_up_to : (name : List ℕ) → List Kind → Bool
is_up_to name ks =
    (length ks == 6) && (says_name (codes ".") (token_name (slice_get ks 3))
    && (is_minus (slice_get ks 4) && says_name name (token_name (slice_get ks 5))))

-- that, or .size NAME, NUMBER; other expressions are not taken
abbrev pub size_said : (ordinal : ℕ) (name : List ℕ) → List Kind → Option SaidSize
size_said ordinal name ks =
    if is_up_to name ks then Some (UpTo ordinal)
    else if length ks == 4 then option_map Bytes (token_number (slice_get ks 3)) else None

-- what a directive of this word says of a name
abbrev pub mark_by : (ordinal : ℕ) (word name : List ℕ) → List Kind → Option Mark
mark_by ordinal word name ks =
    if bytes_eq word (codes ".type")
    then option_map (λ kind. record { name = name; said = Typed kind }) (type_said ks)
    else if bytes_eq word (codes ".size")
    then option_map (λ size. record { name = name; said = Sized size }) (size_said ordinal name ks)
    else None

-- what the statement of this ordinal says, if it is such a directive
abbrev pub mark_in : (ordinal : ℕ) → List Kind → Option Mark
mark_in ordinal ks =
    if is_comma (slice_get ks 2)
    then option_and_then (λ word. option_and_then (λ name. mark_by ordinal word name ks)
    (token_name (slice_get ks 1))) (token_name (slice_get ks 0))
    else None

-- ---- the statements of a source, from its tokens

-- a statement ends at its line's end, at `;` and at the source's end
abbrev pub ends_statement : Kind → Bool
ends_statement Newline = true
ends_statement (Punctuation Semicolon) = true
ends_statement End = true
ends_statement _ = false

abbrev pub is_colon : Kind → Bool
is_colon (Punctuation Colon) = true
is_colon _ = false

-- of a statement no more tokens are kept than a directive that is taken has, and one
abbrev pub with_token : List Kind → Kind → List Kind
with_token ks kind = if nat_lt (length ks) 7 then ks ++ kind ∷ [] else ks

-- ordinals have 32 bits
abbrev pub next_ordinal : ℕ → ℕ
next_ordinal ordinal = min (ordinal + 1) (2 ^ 32 - 1)

-- nothing is no statement
abbrev pub ordinal_behind : ℕ → List Kind → ℕ
ordinal_behind ordinal [] = ordinal
ordinal_behind ordinal (k ∷ ks) = next_ordinal ordinal

-- a label is a statement: a token, and a colon behind it
abbrev pub closes_label : List Kind → Kind → Bool
closes_label ks kind = (length ks == 1) && is_colon kind

-- what the directives among tokens say, where these of the statement of this ordinal stand before
abbrev pub marks_from : (ordinal : ℕ) → List Kind → List Token → List Mark
marks_from ordinal ks [] = []
marks_from ordinal ks (t ∷ ts) =
    if ends_statement t.kind
    then one_of (mark_in ordinal ks) ++ marks_from (ordinal_behind ordinal ks) [] ts
    else if closes_label ks t.kind then marks_from (next_ordinal ordinal) [] ts
    else marks_from ordinal (with_token ks t.kind) ts

-- what the directives of a source say
abbrev pub marks_of : List ℕ → List Mark
marks_of source = marks_from 1 [] (tokens_from 0 1 source)

-- What one token is in its place.

use Rattle.std.proofs.Common.{◌≡◌, ℕ, ◌<◌, Bool, true, false, cond, List, [], ◌∷◌, ◌++◌, length, Option, Some, None, option_map, Ok, Err, refl, sym, ◌∙◌, ap, codes, arith}
use Rattle.rv_expression_laws.specs.declared.punct.Punct.TheVariants.{Comma, Colon, Semicolon, Open, Close, At}
use Rattle.rv_expression_laws.specs.Grammar.{Kind, Newline, Punctuation, Name as NameToken, Number, Text, Bad_byte, Bad_token, End}
use Rattle.rv_expression_laws.specs.Lexing.{Token, is_last, is_ended}
use Rattle.rv_expression_laws.specs.SyntaxError.{SyntaxError, wrong}
use Rattle.rv_expression_laws.proofs.ExpressionWrongLemmas.{ended_more}
use Rattle.rv_isa.specs.RegisterNames.{abi_names}
use Rattle.rv_parcel.specs.declared.parcel.RegisterSet.{RegisterSet}
use Rattle.rv_parcel.specs.declared.parcel.RegisterSet.TheVariants.{Any, Nonzero, Short, Stack, Upper}
use Rattle.rv_parcel.specs.Mnemonics.{is_of_set}
use Rattle.rv_statement_laws.specs.Statement.{Operand, Register, Accesses, Word, Quoted}
use Rattle.rv_parse_laws.specs.Words.{register_names, register, choices}
use Rattle.rv_parse_laws.specs.Syntax.{is_symbol, register_of, kept_in, token_symbol, is_colon, is_end, access_sets, accesses, Slot, A_register_of, A_value, An_address_by, A_callee, A_zero, Some_accesses, A_symbol, A_string, A_section, Some_flags, At_sign, A_type, An_option, A_plt, A_comma, An_opening, A_closing, single}
use Rattle.rv_parse_laws.specs.Faults.{wrong_first}
use Rattle.rv_parse_laws.specs.Parsing.{single_at}
use Rattle.rv_parse_laws.proofs.StepsLemmas.{taken_ok, taken_err}
use Rattle.rv_parse_laws.proofs.FailingLemmas.{Failing, at_first}
pub use Rattle.rv_expression_laws.proofs.ExpressionFaultsLemmas.{of_kind as some_token}

-- the tokens are one, which stands in this place
abbrev pub IsSingle : Slot → List Token → List Operand → Type 0
IsSingle s text os = (t : Token) × (text ≡ t ∷ []) × (single s t.kind ≡ Some os)

-- what is no register is none of a set, and what is one of a set is a register
kept_none : (set : RegisterSet) → kept_in set None ≡ None
kept_none Any = refl
kept_none _ = refl

if_kept : (b : Bool) (r n : ℕ) → cond {A = Option ℕ} b (Some r) None ≡ Some n → r ≡ n
if_kept true r n h = cc
if_kept false r n h = absurd (cc)

pub kept_is : (set : RegisterSet) (o : Option ℕ) (n : ℕ) → kept_in set o ≡ Some n → o ≡ Some n
kept_is Any o n h = h
kept_is set None n h = h
kept_is set (Some r) n h = ap (λ m. Some m) (if_kept (is_of_set set r) r n h)

no_register : (set : RegisterSet) → option_map (λ r. Register r ∷ []) (kept_in set None) ≡ None
no_register set = rw (kept_none set) refl

bad_byte_in : (s : Slot) → single s Bad_byte ≡ None
bad_byte_in (A_register_of set) = no_register set
bad_byte_in _ = refl

bad_token_in : (s : Slot) → single s Bad_token ≡ None
bad_token_in (A_register_of set) = no_register set
bad_token_in _ = refl

end_in : (s : Slot) → single s End ≡ None
end_in (A_register_of set) = no_register set
end_in _ = refl

newline_in : (s : Slot) → single s Newline ≡ None
newline_in (A_register_of set) = no_register set
newline_in _ = refl

semicolon_in : (s : Slot) → single s (Punctuation Semicolon) ≡ None
semicolon_in (A_register_of set) = no_register set
semicolon_in _ = refl

-- what stands in a place is not the last token, and no end
pub single_no_last : (s : Slot) (k : Kind) (os : List Operand) → single s k ≡ Some os → is_last k ≡ false
single_no_last s Bad_byte os h = let none = bad_byte_in s in absurd (cc)
single_no_last s Bad_token os h = let none = bad_token_in s in absurd (cc)
single_no_last s End os h = let none = end_in s in absurd (cc)
single_no_last s _ os h = refl

pub end_none : (s : Slot) (k : Kind) → is_end k ≡ true → single s k ≡ None
end_none s Newline h = newline_in s
end_none s (Punctuation Semicolon) h = semicolon_in s
end_none s End h = end_in s
end_none s (Punctuation _) h = absurd (cc)
end_none s _ h = absurd (cc)

abbrev pub an_opening : Token
an_opening = some_token (Punctuation Open)

abbrev pub a_closing : Token
a_closing = some_token (Punctuation Close)

abbrev pub a_newline : Token
a_newline = some_token Newline

-- a register of each set
abbrev a_name : RegisterSet → List ℕ
a_name Stack = codes "sp"
a_name _ = codes "a0"

abbrev pub a_number : RegisterSet → ℕ
a_number Stack = 2
a_number _ = 10

abbrev pub a_register : RegisterSet → Token
a_register set = some_token (NameToken (a_name set))

pub a_register_is : (set : RegisterSet) → kept_in set (register_of (a_register set).kind) ≡ Some (a_number set)
unfolding register register_names abi_names
a_register_is Any = refl
a_register_is Nonzero = refl
a_register_is Short = refl
a_register_is Stack = refl
a_register_is Upper = refl

abbrev pub a_literal : Token
a_literal = some_token (Number [] 0)

abbrev pub a_symbol : Token
a_symbol = some_token (NameToken (codes "f"))

pub a_symbol_is : token_symbol a_symbol.kind ≡ Some (codes "f")
unfolding is_symbol register register_names abi_names
a_symbol_is = refl

-- one token and its operands
abbrev pub Goes : Slot → Type 0
Goes s = (t : Token) × (os : List Operand) × (single s t.kind ≡ Some os)

register_goes : (set : RegisterSet) → Goes (A_register_of set)
register_goes set = (a_register set, Register (a_number set) ∷ [], rw (a_register_is set) refl)

accesses_go : Goes Some_accesses
unfolding access_sets
accesses_go = (some_token (NameToken (codes "iorw")), Accesses (accesses true true true true) ∷ [], refl)

symbol_goes : Goes A_symbol
symbol_goes = (a_symbol, Word (codes "f") ∷ [], rw a_symbol_is refl)

type_goes : Goes A_type
type_goes = (some_token (NameToken (codes "note")), Word (codes "note") ∷ [], refl)

option_goes : Goes An_option
unfolding choices
option_goes = (some_token (NameToken (codes "rvc")), Word (codes "rvc") ∷ [], refl)

-- a place that one token stands in
abbrev pub is_single : Slot → Bool
is_single (A_value role) = false
is_single (An_address_by set) = false
is_single A_callee = false
is_single A_section = false
is_single _ = true

pub single_goes : (s : Slot) → is_single s ≡ true → Goes s
single_goes (A_register_of set) h = register_goes set
single_goes (A_value role) h = absurd (cc)
single_goes (An_address_by set) h = absurd (cc)
single_goes A_callee h = absurd (cc)
single_goes A_zero h = (a_literal, [], refl)
single_goes Some_accesses h = accesses_go
single_goes A_symbol h = symbol_goes
single_goes A_string h = (some_token (Text []), Quoted [] ∷ [], refl)
single_goes A_section h = absurd (cc)
single_goes Some_flags h = (some_token (Text []), Quoted [] ∷ [], refl)
single_goes At_sign h = (some_token (Punctuation At), [], refl)
single_goes A_type h = type_goes
single_goes An_option h = option_goes
single_goes A_plt h = (some_token (NameToken (codes "plt")), [], refl)
single_goes (A_comma behind) h = (some_token (Punctuation Comma), [], refl)
single_goes (An_opening behind) h = (some_token (Punctuation Open), [], refl)
single_goes A_closing h = (some_token (Punctuation Close), [], refl)

pub single_is : (s : Slot) (t : Token) (os : List Operand) (rest : List Token) → single s t.kind ≡ Some os → single_at s (t ∷ rest) ≡ Ok (os, rest)
single_is s t os rest is = rw is refl

pub single_found : (s : Slot) (ts : List Token) (os : List Operand) (rest : List Token) → single_at s ts ≡ Ok (os, rest)
    → (t : Token) × (ts ≡ t ∷ rest) × (single s t.kind ≡ Some os)
single_found s [] os rest e = absurd (cc)
single_found s (t ∷ ts) os rest e =
    let k = taken_ok t ts (single s t.kind) (wrong_first s t.kind) os rest e in
    (t, ap (λ us. t ∷ us) k.1, k.0)

pub single_err : (s : Slot) (t : Token) (text : List Token) (w : SyntaxError) → single s t.kind ≡ None → w ≡ wrong t (wrong_first s t.kind) → single_at s (t ∷ text) ≡ Err w
single_err s t text w none is = rw (none, is) refl

pub single_wrong : (s : Slot) (ts : List Token) (w : SyntaxError) → is_single s ≡ true → is_ended ts ≡ true → single_at s ts ≡ Err w → Failing (List Operand) (IsSingle s) (single_at s) ts w
single_wrong s [] w one end e = absurd (cc)
single_wrong s (t ∷ ts) w one end e =
    let k = taken_err t ts (single s t.kind) (wrong_first s t.kind) w e in
    let g = single_goes s one in
    at_first (List Operand) (IsSingle s) (single_at s) t ts w (wrong_first s t.kind) k.1 (λ text. single_err s t text w k.0 k.1) (g.0 ∷ [], g.1, (g.0, refl, g.2))

-- where one token is wrong
pub single_fault : (s : Slot) (ts : List Token) (w : SyntaxError) → is_ended ts ≡ true → single_at s ts ≡ Err w
    → (t : Token) × (us : List Token) × (ts ≡ t ∷ us) × (single s t.kind ≡ None) × (w ≡ wrong t (wrong_first s t.kind))
single_fault s [] w end e = absurd (cc)
single_fault s (t ∷ ts) w end e = let k = taken_err t ts (single s t.kind) (wrong_first s t.kind) w e in (t, ts, refl, k.0, k.1)

-- the tokens behind one that stands in a place
pub single_passed : (s : Slot) (ts : List Token) (os : List Operand) (rest : List Token) → is_ended ts ≡ true → single_at s ts ≡ Ok (os, rest)
    → (t : Token) × (ts ≡ t ∷ rest) × (single s t.kind ≡ Some os) × (is_ended rest ≡ true)
single_passed s ts os rest end e =
    let f = single_found s ts os rest e in
    (f.0, f.1, f.2, ended_more f.0 rest (single_no_last s f.0.kind os f.2) (ap is_ended (sym f.1) ∙ end))

pub one_is : (s : Slot) (text : List Token) (os : List Operand) → IsSingle s text os → (rest : List Token) → single_at s (text ++ rest) ≡ Ok (os, rest)
one_is s text os (t, w, is) rest = rw w (single_is s t os rest is)

pub one_some : (s : Slot) (text : List Token) (os : List Operand) → IsSingle s text os → 0 < length text
one_some s text os (t, w, is) = rw w (omega arith)

colon_in : (s : Slot) → single s (Punctuation Colon) ≡ None
colon_in (A_register_of set) = no_register set
colon_in _ = refl

pub single_no_colon : (s : Slot) (k : Kind) (os : List Operand) → single s k ≡ Some os → is_colon k ≡ false
single_no_colon s (Punctuation Colon) os h = let none = colon_in s in absurd (cc)
single_no_colon s (Punctuation _) os h = refl
single_no_colon s _ os h = refl

pub one_goes : (s : Slot) → is_single s ≡ true → (t : Token) × (us : List Token) × (os : List Operand) × IsSingle s (t ∷ us) os × (is_colon t.kind ≡ false)
one_goes s one = let g = single_goes s one in (g.0, [], g.1, (g.0, refl, g.2), single_no_colon s g.0.kind g.1 g.2)

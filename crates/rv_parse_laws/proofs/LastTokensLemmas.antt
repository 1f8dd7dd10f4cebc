-- A token that is taken somewhere is not the last of its source.

use Rattle.std.proofs.Common.{◌≡◌, ℕ, true, false, List, Some, refl}
use Rattle.rv_expression_laws.specs.Grammar.{Kind, Punctuation, Name as NameToken, Number, Reference, Character, Text, Bad_byte, Bad_token, End}
use Rattle.rv_expression_laws.specs.Lexing.{is_last}
use Rattle.rv_isa.specs.declared.operation.AccessSet.{AccessSet}
use Rattle.rv_statement_laws.specs.Statement.{Operand, Expression}
use Rattle.rv_parse_laws.specs.Syntax.{register_of, token_symbol, accesses_of, is_comma, is_colon, is_opening, is_closing, is_at_sign, is_plt, is_zero, is_any, is_percent, function_in, label_named, A_string, A_type, single}
use Rattle.rv_statement_laws.specs.declared.pseudo.Function.{Function}
use Rattle.rv_parse_laws.specs.declared.role.Role.{Role}
use Rattle.rv_parse_laws.specs.Parsing.{width}

pub register_no_last : (k : Kind) (r : ℕ) → register_of k ≡ Some r → is_last k ≡ false
register_no_last (NameToken name) r h = refl
register_no_last _ r h = absurd (cc)

pub percent_no_last : (k : Kind) → is_percent k ≡ true → is_last k ≡ false
percent_no_last (Punctuation sign) h = refl
percent_no_last _ h = absurd (cc)

pub function_no_last : (role : Role) (k : Kind) (f : Function) → function_in role k ≡ Some f → is_last k ≡ false
function_no_last role (NameToken name) f h = refl
function_no_last role _ f h = absurd (cc)

pub label_no_last : (k : Kind) (e : Expression) → label_named k ≡ Some e → is_last k ≡ false
label_no_last (NameToken name) e h = refl
label_no_last (Reference digits forward) e h = refl
label_no_last _ e h = absurd (cc)

pub accesses_no_last : (k : Kind) (set : AccessSet) → accesses_of k ≡ Some set → is_last k ≡ false
accesses_no_last (NameToken name) set h = refl
accesses_no_last _ set h = absurd (cc)

pub zero_no_last : (k : Kind) → is_zero k ≡ true → is_last k ≡ false
zero_no_last (Number word number) h = refl
zero_no_last (Character byte) h = refl
zero_no_last _ h = absurd (cc)

pub opening_no_last : (k : Kind) → is_opening k ≡ true → is_last k ≡ false
opening_no_last (Punctuation sign) h = refl
opening_no_last _ h = absurd (cc)

pub closing_no_last : (k : Kind) → is_closing k ≡ true → is_last k ≡ false
closing_no_last (Punctuation sign) h = refl
closing_no_last _ h = absurd (cc)

pub comma_no_last : (k : Kind) → is_comma k ≡ true → is_last k ≡ false
comma_no_last (Punctuation sign) h = refl
comma_no_last _ h = absurd (cc)

pub colon_no_last : (k : Kind) → is_colon k ≡ true → is_last k ≡ false
colon_no_last (Punctuation sign) h = refl
colon_no_last _ h = absurd (cc)

pub at_no_last : (k : Kind) → is_at_sign k ≡ true → is_last k ≡ false
at_no_last (Punctuation sign) h = refl
at_no_last _ h = absurd (cc)

pub plt_no_last : (k : Kind) → is_plt k ≡ true → is_last k ≡ false
plt_no_last (NameToken name) h = refl
plt_no_last _ h = absurd (cc)

pub symbol_no_last : (k : Kind) (name : List ℕ) → token_symbol k ≡ Some name → is_last k ≡ false
symbol_no_last (NameToken word) name h = refl
symbol_no_last _ name h = absurd (cc)

pub string_no_last : (k : Kind) (os : List Operand) → single A_string k ≡ Some os → is_last k ≡ false
string_no_last (Text bytes) os h = refl
string_no_last _ os h = absurd (cc)

pub type_no_last : (k : Kind) (os : List Operand) → single A_type k ≡ Some os → is_last k ≡ false
type_no_last (NameToken name) os h = refl
type_no_last _ os h = absurd (cc)

pub any_no_last : (k : Kind) → is_any k ≡ true → is_last k ≡ false
any_no_last Bad_byte h = absurd (cc)
any_no_last Bad_token h = absurd (cc)
any_no_last End h = absurd (cc)
any_no_last _ h = refl

-- the last token is no part of a name
pub last_width : (k : Kind) → is_last k ≡ true → width k ≡ 0
last_width Bad_byte h = refl
last_width Bad_token h = refl
last_width End h = refl
last_width _ h = absurd (cc)

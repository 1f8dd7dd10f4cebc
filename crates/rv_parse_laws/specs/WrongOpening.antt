-- Openings of sections whose flags or type are wrong: the fault of the token that shows it (GNU as,
-- ".section").

use Rattle.std.specs.Prelude.{◌≡◌, ℕ, Bool, true, false, List, [], ◌∷◌, ◌++◌, Option, Some, None, codes, ◌⊎◌}
use Rattle.std.specs.Str.{bytes_eq}
use Rattle.rv_expression_laws.specs.Grammar.{Kind, Name as NameToken, Text}
use Rattle.rv_expression_laws.specs.Lexing.{Token}
use Rattle.rv_expression_laws.specs.Joined.{IsJoined}
use Rattle.rv_statement_laws.specs.Statement.{Word, Quoted, Statement}
use Rattle.rv_parse_laws.specs.Syntax.{is_comma, is_at_sign, is_section_name, Some_flags, A_type}
use Rattle.rv_parse_laws.specs.Content.{content_fault}
use Rattle.rv_parse_laws.specs.Opening.{is_opened}

-- the code of a string as the flags of a name that is known, or new
abbrev pub flags_fault : Bool → Kind → Option ℕ
flags_fault false (Text letters) = content_fault false Some_flags (Quoted letters)
flags_fault _ k = None

-- the code of a word as the type of a name that is known, or new
abbrev pub type_fault : Bool → Kind → Option ℕ
type_fault true (NameToken word) = content_fault true A_type (Word word)
type_fault false (NameToken word) = content_fault false A_type (Word word)
type_fault _ k = None

abbrev pub is_text : Kind → Bool
is_text (Text bytes) = true
is_text _ = false

-- the word `.section`
abbrev pub is_section : Kind → Bool
is_section (NameToken word) = bytes_eq word (codes ".section")
is_section _ = false

-- the tokens are `.section`, this name and a comma
abbrev pub OpensNamed : List Token → List ℕ → Type 0
OpensNamed ts name =
    (word : Token) × (text : List Token) × (comma : Token) × (ts ≡ word ∷ (text ++ comma ∷ []))
    × (is_section word.kind ≡ true)
    × IsJoined text name × (is_section_name name ≡ true) × (is_comma comma.kind ≡ true)

-- behind such tokens a string is wrong as flags
pub record WrongFlags (known : List ℕ → Bool) (before : List Token) (at : Token)
    (code : ℕ) : Type 0 where
  pub name : List ℕ
  pub named : OpensNamed before name
  pub wrong : flags_fault (known name) at.kind ≡ Some code

-- behind such tokens, flags that are not wrong, a comma and `@`, a word is wrong as a type
pub record WrongType (known : List ℕ → Bool) (before : List Token) (at : Token)
    (code : ℕ) : Type 0 where
  pub name : List ℕ
  pub front : List Token
  pub flags : Token
  pub comma : Token
  pub sign : Token
  pub whole : before ≡ front ++ flags ∷ comma ∷ sign ∷ []
  pub named : OpensNamed front name
  pub text : is_text flags.kind ≡ true
  pub good : flags_fault (known name) flags.kind ≡ None
  pub comma_is : is_comma comma.kind ≡ true
  pub sign_is : is_at_sign sign.kind ≡ true
  pub wrong : type_fault (known name) at.kind ≡ Some code

-- behind the statements ss the tokens `before` begin an opening with whose name the token `at` is
-- wrong
abbrev pub IsWrongOpening : List Statement → List Token → Token → ℕ → Type 0
IsWrongOpening ss before at code =
    WrongFlags (is_opened ss) before at code ⊎ WrongType (is_opened ss) before at code

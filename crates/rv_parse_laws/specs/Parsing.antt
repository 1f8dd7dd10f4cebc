-- Parts of statements at the front of a list of tokens, as functions: what stands there and the
-- tokens after it, or the first token that is wrong there, with its code.

use Rattle.std.specs.Prelude.{ℕ, zero, suc, ◌+◌, Bool, false, ◌&&◌, not, nat_lt, List, [], ◌∷◌, ◌++◌, length, Option, Some, None, option_map, unwrap_or, Result, Ok, Err, if◌then◌else◌}
use Rattle.std.specs.Option.{option_or}
use Rattle.rv_expression_laws.specs.Grammar.{Kind}
use Rattle.rv_expression_laws.specs.Lexing.{Token}
use Rattle.rv_expression_laws.specs.Codes.{unsupported_here, limit}
use Rattle.rv_expression_laws.specs.SyntaxError.{SyntaxError, wrong, Read, nowhere, longest_name}
use Rattle.rv_expression_laws.specs.Joined.{joined_bytes, joined_at}
use Rattle.rv_expression_laws.specs.Expression.{tree_of}
use Rattle.rv_expression_laws.specs.ExpressionAt.{expression_at}
use Rattle.rv_statement_laws.specs.Statement.{Expression, Operand, Value, Applied, Target, Word, StatementKind, Instruction, Directs}
use Rattle.rv_parse_laws.specs.Syntax.{is_register, label_of, begins, is_comma, is_percent, is_end, is_any, is_section_name, valued, is_refused, function_in, label_named, is_refused_by, Slot, A_register_of, A_register, A_value, A_target, An_address_by, An_address, A_callee, A_section, Some_flags, At_sign, A_plt, A_comma, A_closing, An_opening, single, front_begins, Slots, Stops, Takes, Chooses, Locates, Lists, Anything, slots, operand_slots, directed, colon_next, SourcePart, Ends, Says}
pub use Rattle.rv_parse_laws.specs.Syntax.{base_next, plt_next}
use Rattle.rv_parse_laws.specs.Faults.{may_call, wrong_function, wrong_symbol, wrong_first, wrong_after, wrong_any, wrong_start, wrong_label}
use Rattle.rv_parse_laws.specs.WrongOpening.{flags_fault, type_fault, is_section}
use Rattle.rv_parcel.specs.declared.parcel.RegisterSet.{RegisterSet}
use Rattle.rv_statement_laws.specs.declared.pseudo.Function.{Function}
use Rattle.rv_statement_laws.specs.declared.pseudo.Function.TheVariants.{PcrelLo}
use Rattle.rv_parse_laws.specs.declared.role.Role.{Role}
use Rattle.rv_parse_laws.specs.declared.role.Role.TheVariants as roles
use Rattle.rv_parse_laws.specs.declared.beginning.Beginning.{Beginning}
use Rattle.rv_parse_laws.specs.declared.beginning.Beginning.TheVariants as beginnings

infixl 10 ◌>>=◌
abbrev pub ◌>>=◌ : {A B : Type 0} → Result A SyntaxError → (A → Result B SyntaxError) →
    Result B SyntaxError
(Ok x) >>= f = f x
(Err e) >>= f = Err e

-- another view of what was read
abbrev pub seen_as : {X Y : Type 0} → (X → Y) → Read X → Read Y
seen_as view (Ok x) = Ok (view x.0, x.1)
seen_as view (Err e) = Err e

-- the token t before the tokens ts is taken for this, or it is wrong
abbrev pub taken : {X : Type 0} → Token → List Token → Option X → ℕ → Read X
taken t ts (Some x) code = Ok (x, ts)
taken t ts None code = Err (wrong t code)

-- an expression
abbrev pub value_at : List Token → Read Expression
value_at ts = seen_as tree_of (expression_at is_register ts)

-- what is read, unless it is refused: the fault stands at the token t
abbrev pub allowed : (Expression → Bool) → Token → Read Expression → Read Expression
allowed refused t (Ok x) = if refused x.0 then Err (wrong t unsupported_here) else Ok x
allowed refused t (Err w) = Err w

abbrev pub single_at : Slot → List Token → Read (List Operand)
single_at s [] = Err nowhere
single_at s (t ∷ ts) = taken t ts (single s t.kind) (wrong_first s t.kind)

-- a label as an argument
abbrev pub label_at : List Token → Read Expression
label_at [] = Err nowhere
label_at (t ∷ ts) = taken t ts (label_named t.kind) (wrong_symbol t.kind)

-- the argument of a function
abbrev pub argument_at : Function → List Token → Read Expression
argument_at PcrelLo ts = label_at ts
argument_at f ts = value_at ts

-- an argument in parentheses
abbrev pub enclosed_at : Function → List Token → Read Expression
enclosed_at f ts =
    single_at (An_opening A_register) ts >>= λ q. argument_at f q.1 >>=
    λ a. seen_as (λ none. a.0) (single_at A_closing a.1)

-- what is after the word of a function whose `%` is the token p
abbrev pub called_at : Function → Token → List Token → Read Operand
called_at f p ts = seen_as (Applied f) (allowed (λ e. is_refused_by f e) p (enclosed_at f ts))

abbrev pub named_at : Token → Token → List Token → Option Function → Read Operand
named_at p n ts (Some f) = called_at f p ts
named_at p n ts None = Err (wrong_function p n)

-- a function of a value, after its `%`
abbrev pub applied_at : Role → Token → List Token → Read Operand
applied_at role p [] = Err nowhere
applied_at role p (n ∷ ts) = named_at p n ts (function_in role n.kind)

-- an expression, or a function of one, where it stands so
abbrev pub value_operand_at : Role → List Token → Read Operand
value_operand_at role [] = Err nowhere
value_operand_at role (t ∷ ts) =
    if may_call role && is_percent t.kind then applied_at role t ts
    else seen_as (valued role) (allowed (λ e. is_refused role e) t (value_at (t ∷ ts)))

-- a register of a set in parentheses
abbrev pub base_at : RegisterSet → List Token → Read (List Operand)
base_at set ts =
    single_at (An_opening A_register) ts >>= λ o. single_at (A_register_of set) o.1 >>=
    λ r. seen_as (λ none. r.0) (single_at A_closing r.1)

-- an expression, and then a register of a set in parentheses
abbrev pub offset_at : RegisterSet → List Token → Read (List Operand)
offset_at set ts =
    value_operand_at roles.Operand ts >>= λ v. seen_as (λ os. v.0 ∷ os) (base_at set v.1)

-- a target comes next: an expression that no `(` stands behind
abbrev pub is_target_next : Read Expression → Bool
is_target_next (Ok read) = not (front_begins (An_opening A_register) read.1)
is_target_next (Err w) = false

-- what is read as a value is a target where it is no function and has no `(` behind it
abbrev pub target_behind : Operand → List Token → Bool
target_behind (Value e) rest = not (front_begins (An_opening A_register) rest)
target_behind _ rest = false

abbrev pub target_next : List Token → Bool
target_next ts = is_target_next (value_at ts)

-- a symbol, `@` and `plt`
abbrev pub plt_at : List Token → Read (List Operand)
plt_at ts =
    label_at ts >>= λ f. single_at At_sign f.1 >>=
    λ a. seen_as (λ none. Target f.0 ∷ []) (single_at A_plt a.1)

-- how many bytes a token gives to a section's name
abbrev pub width : Kind → ℕ
width k = length (unwrap_or (joined_bytes k) [])

-- the first token with which such a name is too long, where so many bytes of it stand before
abbrev pub too_long : ℕ → List Token → SyntaxError
too_long before [] = nowhere
too_long before (t ∷ ts) =
    let bytes = before + width t.kind in if nat_lt longest_name bytes
    then wrong t limit else too_long bytes ts

-- a fault at the first of these tokens
abbrev pub wrong_front : List Token → ℕ → SyntaxError
wrong_front [] code = nowhere
wrong_front (t ∷ ts) code = wrong t code

-- the name that is joined at the front of tokens, where a section may have it
abbrev pub named_or : List Token → Option (List ℕ × List Token) → Read (List ℕ)
named_or [] None = Err nowhere
named_or (t ∷ ts) None = Err (wrong t (wrong_first A_section t.kind))
named_or ts (Some read) =
    if is_section_name read.0 then Ok read
    else (if nat_lt longest_name (length read.0) then Err (too_long 0 ts)
    else Err (wrong_front ts unsupported_here))

-- the name of a section
abbrev pub section_name_at : List Token → Read (List ℕ)
section_name_at ts = named_or ts (joined_at ts)

-- what stands in a place
abbrev pub operand_at : Slot → List Token → Read (List Operand)
operand_at (A_value role) ts = seen_as (λ o. o ∷ []) (value_operand_at role ts)
operand_at (An_address_by set) ts = if base_next ts then base_at set ts else offset_at set ts
operand_at A_callee ts =
    if plt_next ts then plt_at ts else seen_as (λ o. o ∷ []) (value_operand_at roles.Target ts)
operand_at A_section ts = seen_as (λ name. Word name ∷ []) (section_name_at ts)
operand_at s ts = single_at s ts

-- the tokens, where a statement ends before them
abbrev pub end_at : Slot → List Token → Result (List Token) SyntaxError
end_at s [] = Err nowhere
end_at s (t ∷ ts) = if is_end t.kind then Ok (t ∷ ts) else Err (wrong t (wrong_after s t.kind))

-- no further operands
abbrev pub ended_at : Slot → List Token → Read (List Operand)
ended_at s ts = end_at s ts >>= λ r. Ok ([], r)

-- what stands in a place, and then the rest
abbrev pub taking : Slot → (List Token → Read (List Operand)) → List Token → Read (List Operand)
taking s rest ts = operand_at s ts >>= λ o. seen_as (λ os. o.0 ++ os) (rest o.1)

-- a comma and then the rest, or the end
abbrev pub further : Slot → (List Token → Read (List Operand)) → List Token → Read (List Operand)
further s rest [] = Err nowhere
further s rest (t ∷ ts) = if is_comma t.kind then rest ts else ended_at s (t ∷ ts)

-- items, at most so many
abbrev pub items_in : ℕ → Slot → List Token → Read (List Operand)
items_in zero s ts = Err nowhere
items_in (suc room) s ts = taking s (further s (λ us. items_in room s us)) ts

-- one item or more with commas between, up to the end: each item takes a token at least
unfoldable pub items_at : Slot → List Token → Read (List Operand)
items_at s ts = items_in (length ts) s ts

-- any tokens up to the end
abbrev pub any_at : List Token → Read (List Operand)
any_at [] = Err nowhere
any_at (t ∷ ts) =
    if is_end t.kind
    then Ok ([], t ∷ ts)
    else (if is_any t.kind then any_at ts else Err (wrong t (wrong_any t.kind)))

unfoldable pub operands_at : Slots → List Token → Read (List Operand)
operands_at (Stops s) ts = ended_at s ts
operands_at (Takes s rest) ts = taking s (λ us. operands_at rest us) ts
operands_at (Chooses s rest others) ts =
    if front_begins s ts then taking s (λ us. operands_at rest us) ts else operands_at others ts
operands_at (Locates rest) ts =
    if target_next ts
    then taking A_target (λ us. operands_at rest us) ts
    else taking An_address (ended_at An_address) ts
operands_at (Lists s) ts = items_at s ts
operands_at Anything ts = any_at ts

-- the statement that begins with the token t, before the tokens ts
unfoldable pub begun_at : Beginning → Token → List Token → Read StatementKind
begun_at (beginnings.Instruction m) t ts = seen_as (Instruction m) (operands_at (slots m) ts)
begun_at (beginnings.Directive word) t ts =
    seen_as (λ os. Directs (directed word os)) (operands_at (operand_slots word) ts)
begun_at beginnings.Nothing t ts = Err (wrong t (wrong_start t.kind))

abbrev pub after_first : List Token → List Token
after_first [] = []
after_first (t ∷ ts) = ts

-- a label or another statement, at a token that ends none
unfoldable pub statement_at : Token → List Token → Read StatementKind
statement_at t ts =
    if colon_next ts then taken t (after_first ts) (label_of t.kind) (wrong_label t.kind)
    else begun_at (begins t.kind) t ts

unfoldable pub part_at : List Token → Read SourcePart
part_at [] = Err nowhere
part_at (t ∷ ts) = if is_end t.kind then Ok (Ends, ts) else seen_as Says (statement_at t ts)

-- the fault of the token at the front
abbrev pub front_fault : (Kind → Option ℕ) → List Token → Option SyntaxError
front_fault fault [] = None
front_fault fault (t ∷ ts) = option_map (λ code. wrong t code) (fault t.kind)

-- what is wrong behind what is read, if anything
abbrev pub behind_read : {X : Type 0} → (List Token → Option SyntaxError) → Read X →
    Option SyntaxError
behind_read f (Ok x) = f x.1
behind_read f (Err w) = None

-- what is wrong with a type behind flags, a comma and `@`, where the name is known, or new
abbrev pub type_wrong : Bool → List Token → Option SyntaxError
type_wrong known ts =
    behind_read
    (λ us. behind_read
    (λ vs. behind_read (front_fault (type_fault known)) (single_at At_sign vs))
    (single_at (A_comma Some_flags) us))
    (single_at Some_flags ts)

-- what is wrong with flags, and a type behind them
abbrev pub flags_wrong : Bool → List Token → Option SyntaxError
flags_wrong known ts = option_or (front_fault (flags_fault known) ts) (type_wrong known ts)

-- what is wrong behind a section's name
abbrev pub named_wrong : (List ℕ → Bool) → Read (List ℕ) → Option SyntaxError
named_wrong known (Ok read) =
    behind_read (λ us. flags_wrong (known read.0) us) (single_at (A_comma A_section) read.1)
named_wrong known (Err w) = None

-- what is wrong with an opening of a section at the front, where these names are known
unfoldable pub opening_at : (List ℕ → Bool) → List Token → Option SyntaxError
opening_at known [] = None
opening_at known (t ∷ ts) =
    if is_section t.kind then named_wrong known (section_name_at ts) else None

-- a part at the front, or what is wrong with it: an opening's flags or type, or the first token
-- with which nothing goes on
abbrev pub unless : {X : Type 0} → Option SyntaxError → Read X → Read X
unless (Some w) r = Err w
unless None r = r

abbrev pub checked_at : (List ℕ → Bool) → List Token → Read SourcePart
checked_at known ts = unless (opening_at known ts) (part_at ts)

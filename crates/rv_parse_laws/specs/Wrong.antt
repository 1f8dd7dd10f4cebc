-- The token that is wrong at the front of tokens, and its code, by the slots that a statement
-- awaits: tokens before it fill the slots before, this slot is next, and the token cannot stand
-- there. The code is by slot and token. What is spelled right and refused is wrong at its first
-- token.

use Rattle.std.specs.Prelude.{◌≡◌, ℕ, zero, suc, ◌<◌, ◌≤◌, Bool, true, false, ◌&&◌, List, [], ◌∷◌, ◌++◌, length, Some, None, ◌⊎◌}
use Rattle.std.specs.List.{list_all}
use Rattle.rv_expression_laws.specs.Lexing.{Token}
use Rattle.rv_expression_laws.specs.Codes.{bad_operands, limit}
use Rattle.rv_expression_laws.specs.SyntaxError.{longest_name}
use Rattle.rv_expression_laws.specs.Joined.{IsJoined, ReadsJoined, first_name}
use Rattle.rv_expression_laws.specs.Expression.{EndsBefore}
use Rattle.rv_expression_laws.specs.ExpressionFault.{FailsAt}
use Rattle.rv_statement_laws.specs.Statement.{Expression, Operand, Applied, Word}
use Rattle.rv_parcel.specs.declared.parcel.RegisterSet.{RegisterSet}
use Rattle.rv_statement_laws.specs.declared.pseudo.Function.{Function}
use Rattle.rv_statement_laws.specs.declared.pseudo.Function.TheVariants.{PcrelLo}
use Rattle.rv_parse_laws.specs.declared.role.Role.{Role}
use Rattle.rv_parse_laws.specs.declared.role.Role.TheVariants as roles
use Rattle.rv_parse_laws.specs.declared.beginning.Beginning.{Beginning}
use Rattle.rv_parse_laws.specs.declared.beginning.Beginning.TheVariants as beginnings
use Rattle.rv_parse_laws.specs.Syntax.{is_register, register_of, kept_in, label_of, begins, is_comma, is_percent, is_end, is_opening, is_closing, is_any, is_section_name, valued, function_in, label_named, IsValue, IsArgument, IsValueIn, IsLinked, IsOperand, Slot, A_register_of, A_register, A_value, A_target, An_address_by, An_address, A_callee, A_section, A_plt, A_closing, An_opening, single, front_begins, base_next, plt_next, Slots, Stops, Takes, Chooses, Locates, Lists, Anything, slots, operand_slots, colon_next}
use Rattle.rv_parse_laws.specs.Content.{content_fault}
use Rattle.rv_parse_laws.specs.Faults.{may_call, is_name, wrong_or, wrong_symbol, wrong_first, wrong_after, wrong_any, wrong_start, wrong_label}

-- the token at the front cannot stand in this slot
abbrev pub IsWrongFirst : Slot → List Token → Token → ℕ → Type 0
IsWrongFirst s ts t code =
    (us : List Token) × (ts ≡ t ∷ us) × (single s t.kind ≡ None) × (code ≡ wrong_first s t.kind)

-- after an expression's first tokens none goes on with this one
abbrev pub IsWrongInside : List Token → Token → ℕ → Type 0
IsWrongInside ts t code =
    (front more : List Token) × (ts ≡ front ++ t ∷ more) × FailsAt is_register front t code

-- a whole expression stands at the front, and is refused for what it says
abbrev pub IsRefusedExpression : Role → List Token → ℕ → Type 0
IsRefusedExpression role ts code =
    (one rest : List Token) × (e : Expression) × (ts ≡ one ++ rest)
    × IsValue one e × EndsBefore rest
    × (content_fault true (A_value role) (valued role e) ≡ Some code)

-- after the `%` p no function stands that may stand there; if it is a name, it is wrong at the `%`
abbrev pub IsWrongFunction : Role → Token → List Token → Token → ℕ → Type 0
IsWrongFunction role p ts t code =
    (n : Token) × (us : List Token) × (ts ≡ n ∷ us) × (function_in role n.kind ≡ None)
    × (((is_name n.kind ≡ true) × (t ≡ p) × (code ≡ bad_operands))
    ⊎ ((is_name n.kind ≡ false) × (t ≡ n) × (code ≡ wrong_or n.kind bad_operands)))

-- the argument of a function
abbrev pub IsWrongArgument : Function → List Token → Token → ℕ → Type 0
IsWrongArgument PcrelLo ts t code =
    (us : List Token) × (ts ≡ t ∷ us) × (label_named t.kind ≡ None) × (code ≡ wrong_symbol t.kind)
IsWrongArgument f ts t code = IsWrongInside ts t code

-- these tokens do not go on with an argument before them
abbrev pub EndsArgument : Function → List Token → Type 0
EndsArgument PcrelLo rest = Unit {0}
EndsArgument f rest = EndsBefore rest

-- after the word of a function: an argument in parentheses
abbrev pub IsWrongCall : Function → List Token → Token → ℕ → Type 0
IsWrongCall f ts t code =
    IsWrongFirst (An_opening A_register) ts t code
    ⊎ ((q : Token) × (us : List Token) × (ts ≡ q ∷ us) × (is_opening q.kind ≡ true)
    × (IsWrongArgument f us t code
    ⊎ ((one rest : List Token) × (e : Expression) × (us ≡ one ++ rest)
    × IsArgument f one e × EndsArgument f rest × IsWrongFirst A_closing rest t code)))

-- a whole argument in parentheses, which is refused for what it says
abbrev pub IsRefusedCall : Role → Function → List Token → ℕ → Type 0
IsRefusedCall role f ts code =
    (q : Token) × (one : List Token) × (c : Token) × (rest : List Token) × (e : Expression)
    × (ts ≡ q ∷ (one ++ c ∷ rest)) × (is_opening q.kind ≡ true) × IsArgument f one e
    × (is_closing c.kind ≡ true) × (content_fault true (A_value role) (Applied f e) ≡ Some code)

-- a function comes next, where one may stand
abbrev pub function_next : Role → List Token → Bool
function_next role [] = false
function_next role (t ∷ ts) = may_call role && is_percent t.kind

-- a function of a value, after its `%` p
abbrev pub IsWrongApplied : Role → Token → List Token → Token → ℕ → Type 0
IsWrongApplied role p ts t code =
    IsWrongFunction role p ts t code
    ⊎ ((n : Token) × (us : List Token) × (f : Function)
    × (ts ≡ n ∷ us) × (function_in role n.kind ≡ Some f)
    × (IsWrongCall f us t code ⊎ ((t ≡ p) × IsRefusedCall role f us code)))

-- an expression in its place
abbrev pub IsWrongPlain : Role → List Token → Token → ℕ → Type 0
IsWrongPlain role ts t code =
    IsWrongInside ts t code ⊎ ((us : List Token) × (ts ≡ t ∷ us) × IsRefusedExpression role ts code)

-- a function, or an expression
abbrev pub IsWrongValue : Role → List Token → Token → ℕ → Type 0
IsWrongValue role ts t code =
    ((function_next role ts ≡ true)
    × ((p : Token) × (us : List Token) × (ts ≡ p ∷ us) × IsWrongApplied role p us t code))
    ⊎ ((function_next role ts ≡ false) × IsWrongPlain role ts t code)

-- these tokens do not go on with a value before them
abbrev pub EndsValue : Operand → List Token → Type 0
EndsValue (Applied f e) rest = Unit {0}
EndsValue _ rest = EndsBefore rest

-- a register of a set in parentheses
abbrev pub IsWrongBase : RegisterSet → List Token → Token → ℕ → Type 0
IsWrongBase set ts t code =
    IsWrongFirst (An_opening A_register) ts t code
    ⊎ ((o : Token) × (us : List Token) × (ts ≡ o ∷ us) × (is_opening o.kind ≡ true)
    × (IsWrongFirst (A_register_of set) us t code
    ⊎ ((r : Token) × (vs : List Token) × (number : ℕ) × (us ≡ r ∷ vs)
    × (kept_in set (register_of r.kind) ≡ Some number) × IsWrongFirst A_closing vs t code)))

-- an expression, or a function of one, and then a register of a set in parentheses
abbrev pub IsWrongOffset : RegisterSet → List Token → Token → ℕ → Type 0
IsWrongOffset set ts t code =
    IsWrongValue roles.Operand ts t code
    ⊎ ((one rest : List Token) × (o : Operand) × (ts ≡ one ++ rest)
    × IsValueIn roles.Operand one o × EndsValue o rest × IsWrongBase set rest t code)

-- an address: a register in parentheses, where the first two tokens are `(` and a register; else
-- with an offset
abbrev pub IsWrongAddress : RegisterSet → List Token → Token → ℕ → Type 0
IsWrongAddress set ts t code =
    ((base_next ts ≡ true) × IsWrongBase set ts t code)
    ⊎ ((base_next ts ≡ false) × IsWrongOffset set ts t code)

-- what a call calls: a symbol and `@plt`, where the first two tokens are a symbol and `@`; else a
-- target
abbrev pub IsWrongCallee : List Token → Token → ℕ → Type 0
IsWrongCallee ts t code =
    ((plt_next ts ≡ true)
    × ((f a : Token) × (us : List Token) × (ts ≡ f ∷ a ∷ us) × IsWrongFirst A_plt us t code))
    ⊎ ((plt_next ts ≡ false) × IsWrongValue roles.Target ts t code)

-- a target comes next: an expression after which no `(` stands
abbrev pub IsTargetNext : List Token → Type 0
IsTargetNext ts =
    (one rest : List Token) × (e : Expression) × (ts ≡ one ++ rest)
    × IsValue one e × EndsBefore rest × (front_begins (An_opening A_register) rest ≡ false)

-- the token with which the name of a section becomes too long
abbrev pub IsLongName : List Token → Token → Type 0
IsLongName ts t =
    (front more : List Token) × (name longer : List ℕ) × (ts ≡ front ++ t ∷ more)
    × ((front ≡ []) ⊎ IsJoined front name) × (length name ≤ longest_name)
    × IsJoined (front ++ t ∷ []) longer × (longest_name < length longer)

-- a section's name: none, one that is too long, or one that is refused
abbrev pub IsWrongSection : List Token → Token → ℕ → Type 0
IsWrongSection ts t code =
    ((us : List Token) × (ts ≡ t ∷ us) × (first_name t.kind ≡ None)
    × (code ≡ wrong_first A_section t.kind))
    ⊎ (IsLongName ts t × (code ≡ limit))
    ⊎ ((us : List Token) × (name : List ℕ) × (rest : List Token)
    × (ts ≡ t ∷ us) × ReadsJoined ts name rest
    × (content_fault true A_section (Word name) ≡ Some code))

-- what stands in a slot
abbrev pub IsWrongOperand : Slot → List Token → Token → ℕ → Type 0
IsWrongOperand (A_value role) ts t code = IsWrongValue role ts t code
IsWrongOperand (An_address_by set) ts t code = IsWrongAddress set ts t code
IsWrongOperand A_callee ts t code = IsWrongCallee ts t code
IsWrongOperand A_section ts t code = IsWrongSection ts t code
IsWrongOperand s ts t code = IsWrongFirst s ts t code

-- these tokens are what stands in a slot, and end before the rest
abbrev pub Passes : Slot → List Token → List Token → Type 0
Passes (A_value role) one rest = (o : Operand) × IsValueIn role one o × EndsValue o rest
Passes A_callee one rest =
    ((o : Operand) × IsValueIn roles.Target one o × EndsValue o rest
    × (plt_next (one ++ rest) ≡ false))
    ⊎ ((os : List Operand) × IsLinked one os)
Passes A_section one rest =
    (name : List ℕ) × IsJoined one name × (is_section_name name ≡ true)
    × ((t : Token) (us : List Token) (longer : List ℕ) → rest ≡ t ∷ us →
    IsJoined (one ++ t ∷ []) longer → ⊥)
Passes s one rest = (os : List Operand) × IsOperand s one os

-- what stands in a slot is wrong, or W says what is after it
abbrev pub IsWrongTaken : Slot → (List Token → Token → ℕ → Type 0) → List Token → Token → ℕ → Type 0
IsWrongTaken s W ts t code =
    IsWrongOperand s ts t code
    ⊎ ((one rest : List Token) × (ts ≡ one ++ rest) × Passes s one rest × W rest t code)

-- after what stands in a slot the statement does not end
abbrev pub IsNoEnd : Slot → List Token → Token → ℕ → Type 0
IsNoEnd s ts t code =
    (us : List Token) × (ts ≡ t ∷ us) × (is_end t.kind ≡ false) × (code ≡ wrong_after s t.kind)

-- after an item neither a comma nor the end stands, or W says what is after the comma
abbrev pub IsWrongNext : Slot → (List Token → Token → ℕ → Type 0) → List Token → Token → ℕ → Type 0
IsWrongNext s W ts t code =
    ((c : Token) × (us : List Token) × (ts ≡ c ∷ us) × (is_comma c.kind ≡ true) × W us t code)
    ⊎ ((is_comma t.kind ≡ false) × IsNoEnd s ts t code)

-- of n items with commas between, the last, or what is after it
abbrev pub IsWrongItem : ℕ → Slot → List Token → Token → ℕ → Type 0
IsWrongItem zero s ts t code = ⊥
IsWrongItem (suc n) s ts t code =
    IsWrongTaken s (IsWrongNext s (λ us u d. IsWrongItem n s us u d)) ts t code

-- a token, where operands are not looked at
abbrev pub IsWrongAny : List Token → Token → ℕ → Type 0
IsWrongAny ts t code =
    (front more : List Token) × (ts ≡ front ++ t ∷ more)
    × (list_all (λ (u : Token). is_any u.kind) front ≡ true) × (is_end t.kind ≡ false)
    × (is_any t.kind ≡ false) × (code ≡ wrong_any t.kind)

-- the operands of a statement
abbrev pub IsWrongIn : Slots → List Token → Token → ℕ → Type 0
IsWrongIn (Stops slot) ts t code = IsNoEnd slot ts t code
IsWrongIn (Takes s rest) ts t code = IsWrongTaken s (λ us u d. IsWrongIn rest us u d) ts t code
IsWrongIn (Chooses s rest others) ts t code =
    ((front_begins s ts ≡ true) × IsWrongTaken s (λ us u d. IsWrongIn rest us u d) ts t code)
    ⊎ ((front_begins s ts ≡ false) × IsWrongIn others ts t code)
IsWrongIn (Locates rest) ts t code =
    (IsTargetNext ts × IsWrongTaken A_target (λ us u d. IsWrongIn rest us u d) ts t code)
    ⊎ ((IsTargetNext ts → ⊥)
    × IsWrongTaken An_address (λ us u d. IsNoEnd An_address us u d) ts t code)
IsWrongIn (Lists item) ts t code = (n : ℕ) × IsWrongItem n item ts t code
IsWrongIn Anything ts t code = IsWrongAny ts t code

-- a statement after its first token
abbrev pub IsWrongAfter : Beginning → Token → List Token → Token → ℕ → Type 0
IsWrongAfter (beginnings.Instruction mnemonic) first ts t code =
    IsWrongIn (slots mnemonic) ts t code
IsWrongAfter (beginnings.Directive word) first ts t code = IsWrongIn (operand_slots word) ts t code
IsWrongAfter beginnings.Nothing first ts t code = (t ≡ first) × (code ≡ wrong_start first.kind)

-- a statement: a label, where a colon stands after the first token; else a word and its operands
abbrev pub IsWrongStatement : List Token → Token → ℕ → Type 0
IsWrongStatement ts t code =
    (first : Token) × (us : List Token) × (ts ≡ first ∷ us) × (is_end first.kind ≡ false)
    × (((colon_next us ≡ true) × (label_of first.kind ≡ None)
    × (t ≡ first) × (code ≡ wrong_label first.kind))
    ⊎ ((colon_next us ≡ false) × IsWrongAfter (begins first.kind) first us t code))

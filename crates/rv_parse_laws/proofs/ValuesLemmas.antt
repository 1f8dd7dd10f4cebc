-- Expressions in their places.

use Rattle.std.proofs.Common.{◌≡◌, ℕ, ◌<◌, Bool, true, false, cond, ◌||◌, List, [], ◌∷◌, ◌++◌, append_assoc, length, length-append, Some, Ok, Err, refl, sym, ◌∙◌, ap, subst, codes, ◌≤◌, arith, ◌⊎◌, inl, inr}
use Rattle.std.proofs.lemmas.Bool.{and_right}
use Rattle.rv_expression_laws.specs.declared.punct.Punct.TheVariants.{Comma, Semicolon, Open, Plus, Percent}
use Rattle.rv_expression_laws.specs.declared.operator.BinaryOperator.TheVariants.{Add}
use Rattle.rv_expression_laws.specs.Grammar.{Kind, Punctuation}
use Rattle.rv_expression_laws.specs.Lexing.{Token, is_ended}
use Rattle.rv_expression_laws.specs.SyntaxError.{SyntaxError, wrong, Read}
use Rattle.rv_expression_laws.specs.Expression.{Tree, Leaf, Unary, Paren, Binary, Symbol, A_primary, begins, follows, No_operand, Nothing_more, SpellsTree, Node, postfix, IsAt, nesting, deepest, EndsBefore, tree_of, bare}
use Rattle.rv_expression_laws.specs.ExpressionAt.{Wants, Fails, step, read_from, expression_at, EndsAt}
use Rattle.rv_expression_laws.specs.ExpressionFault.{FailsAt}
use Rattle.rv_expression_laws.proofs.ExpressionsLemmas.{fails, expression_is}
use Rattle.rv_expression_laws.proofs.ExpressionWrongLemmas.{can_go_on, ends_there, end_at, whole_there}
use Rattle.rv_expression_laws.proofs.ExpressionFaultsLemmas.{stuck, fails_there, wrong_at}
use Rattle.rv_expression_laws.proofs.TreesLemmas.{postfix_tree}
use Rattle.rv_statement_laws.specs.Statement.{Expression}
use Rattle.rv_parse_laws.specs.Syntax.{is_register, is_comma, is_opening, is_end, is_percent, is_of_numbers, IsValue}
use Rattle.rv_expression_laws.specs.Codes.{unsupported_here}
use Rattle.rv_parse_laws.specs.Parsing.{seen_as, value_at, allowed}
use Rattle.rv_isa.specs.RegisterNames.{abi_names}
use Rattle.rv_parse_laws.specs.Words.{register_names, register}
use Rattle.rv_parse_laws.proofs.StepsLemmas.{seen_ok, seen_err}
use Rattle.rv_parse_laws.proofs.FailingLemmas.{first_of, first_is, never, wrongs}
use Rattle.rv_parse_laws.proofs.SinglesLemmas.{some_token, a_symbol}

-- what may stand behind a section's name: a comma, an opening parenthesis or the end
abbrev pub closes : Kind → Bool
closes k = is_comma k || is_opening k || is_end k

abbrev pub Closes : List Token → Type 0
Closes rest = (t : Token) × (us : List Token) × (rest ≡ t ∷ us) × (closes t.kind ≡ true)

follows_none : (k : Kind) → closes k ≡ true → follows k ≡ Nothing_more
follows_none (Punctuation Comma) h = refl
follows_none (Punctuation Open) h = refl
follows_none (Punctuation Semicolon) h = refl
follows_none (Punctuation _) h = absurd (cc)
follows_none _ h = refl

pub closed_before : (rest : List Token) → Closes rest → EndsBefore rest
closed_before rest (t, us, e, h) = (t, us, e, inl (follows_none t.kind h))

pub value_before : (text rest : List Token) (e : Expression) → IsValue text e → EndsBefore rest → value_at (text ++ rest) ≡ Ok (e, rest)
value_before text rest e (tree, spelled, ordered, within, is) ends =
    let read : expression_at is_register (text ++ rest) ≡ Ok (postfix tree, rest) =
    expression_is is_register (text ++ rest) tree rest
    (record { tokens = text; whole = refl; spelled = spelled; ordered = ordered; within = within; ends = ends }) in
    ap (seen_as tree_of) read ∙ ap (λ (x : Tree). Ok (x, rest)) (postfix_tree tree ∙ sym is)

pub value_is : (text rest : List Token) (e : Expression) → IsValue text e → Closes rest → value_at (text ++ rest) ≡ Ok (e, rest)
value_is text rest e v closes = value_before text rest e v (closed_before rest closes)

spelled_some : (tree : Tree) (ts : List Token) → SpellsTree is_register tree ts → 0 < length ts
spelled_some (Leaf p) ts (t, w, b) = rw w (omega arith)
spelled_some (Unary o x) ts (t, us, w, b, s) = rw w (omega arith)
spelled_some (Paren x) ts (t, u, us, w, b, c, s) = rw w (omega arith)
spelled_some (Binary o x y) ts (us, vs, t, w, b, s, s') = rw w (omega (arith, length-append us (t ∷ vs)))

pub value_some : (ts : List Token) (e : Expression) → IsValue ts e → 0 < length ts
value_some ts e (tree, spelled, ordered, within, is) = spelled_some tree ts spelled

percent_none : (k : Kind) → is_percent k ≡ true → begins is_register k ≡ No_operand 7
percent_none (Punctuation Percent) h = refl
percent_none (Punctuation _) h = absurd (cc)
percent_none _ h = absurd (cc)

pub no_percent : (t : Token) (ts : List Token) (e : Expression) (rest : List Token) → value_at (t ∷ ts) ≡ Ok (e, rest) → is_percent t.kind ≡ false
unfolding expression_at
no_percent t ts e rest read = go (is_percent t.kind) refl
  where
    go : (b : Bool) → is_percent t.kind ≡ b → b ≡ false
    go false h = refl
    go true h =
        let no : read_from is_register (Wants [] []) (t ∷ ts) ≡ Err (wrong t 7) = fails is_register (Wants [] []) 7 t ts (rw (percent_none t.kind h) refl) in
        absurd (never (e, rest) (wrong t 7) (sym read ∙ ap (seen_as tree_of) no))

-- what is allowed is read, and not refused
pub is_allowed : (T : Expression → Bool) (t : Token) (e : Expression) (rest : List Token) → T e ≡ false → allowed T t (Ok (e, rest)) ≡ Ok (e, rest)
is_allowed T t e rest h = rw h refl

pub allowed_ok : (T : Expression → Bool) (t : Token) (r : Read Expression) (e : Expression) (rest : List Token) → allowed T t r ≡ Ok (e, rest) → (r ≡ Ok (e, rest)) × (T e ≡ false)
allowed_ok T t (Ok (x, us)) e rest h = go (T x) refl h
  where
    go : (b : Bool) → T x ≡ b → cond {A = Read Expression} b (Err (wrong t unsupported_here)) (Ok (x, us)) ≡ Ok (e, rest) → (◌≡◌ {A = Read Expression} (Ok (x, us)) (Ok (e, rest))) × (T e ≡ false)
    go true is h = absurd (cc)
    go false is h =
        let pair : (x, us) ≡ (e, rest) = cc in
        (h, ap (λ (y : Expression × List Token). T y.0) (sym pair) ∙ is)
allowed_ok T t (Err w) e rest h = absurd (cc)

-- what is not allowed is wrong, or refused
pub allowed_err : (T : Expression → Bool) (t : Token) (r : Read Expression) (w : SyntaxError) → allowed T t r ≡ Err w
    → (r ≡ Err w) ⊎ ((e : Expression) × (rest : List Token) × (r ≡ Ok (e, rest)) × (T e ≡ true) × (w ≡ wrong t unsupported_here))
allowed_err T t (Ok (x, us)) w h = go (T x) refl h
  where
    go : (b : Bool) → T x ≡ b → cond {A = Read Expression} b (Err (wrong t unsupported_here)) (Ok (x, us)) ≡ Err w
        → (◌≡◌ {A = Read Expression} (Ok (x, us)) (Err w)) ⊎ ((e : Expression) × (rest : List Token) × (◌≡◌ {A = Read Expression} (Ok (x, us)) (Ok (e, rest))) × (T e ≡ true) × (w ≡ wrong t unsupported_here))
    go true is h = inr (x, us, refl, is, sym (wrongs _ w h))
    go false is h = absurd (never (x, us) w h)
allowed_err T t (Err v) w h = inl h

-- an expression and what stands behind it, of which the first token alone is looked at
pub record Ended (ts : List Token) (e : Expression) (rest : List Token) : Type 0 where
  pub text : List Token
  pub at : Token
  pub more : List Token
  pub whole : ts ≡ text ++ rest
  pub rest_is : rest ≡ at ∷ more
  pub is : IsValue text e
  pub steady : (us : List Token) → first_of us ≡ first_of rest → value_at (text ++ us) ≡ Ok (e, us)

pub value_ended : (ts : List Token) (e : Expression) (rest : List Token) → value_at ts ≡ Ok (e, rest) → Ended ts e rest
value_ended ts e rest read =
    let s = seen_ok tree_of (expression_at is_register ts) e rest read in
    let f = end_at is_register ts s.0 rest s.1 in
    let w = whole_there is_register f.0 f.1 s.0 f.5 in
    let is : e ≡ bare w.0 = s.2 ∙ ap tree_of w.4 ∙ postfix_tree w.0 in
    record {
      text = f.0;
      at = f.1;
      more = f.2;
      whole = f.3 ∙ ap (λ us. f.0 ++ us) (sym f.4);
      rest_is = f.4;
      is = (w.0, w.1, w.2, w.3, is);
      steady = steady s.0 f.0 f.1 f.2 f.4 f.5 s.2;
    }
  where
    steady : (nodes : List Node) (front : List Token) (at : Token) (more : List Token) → rest ≡ at ∷ more → EndsAt is_register front at nodes → e ≡ tree_of nodes
        → (us : List Token) → first_of us ≡ first_of rest → value_at (front ++ us) ≡ Ok (e, us)
    steady nodes front at more is ends same us first =
        let k = first_is at more us (first ∙ ap first_of is) in
        ap (λ xs. value_at (front ++ xs)) k.1 ∙ ap (seen_as tree_of) (ends_there is_register front at nodes k.0 ends)
        ∙ ap (λ (x : Tree). Ok (x, at ∷ k.0)) (sym same) ∙ ap (λ xs. Ok (e, xs)) (sym k.1)

pub symbol_begins : begins is_register a_symbol.kind ≡ A_primary (Symbol (codes "f"))
unfolding register register_names abi_names
symbol_begins = refl

abbrev pub a_name : Expression
a_name = Leaf (Symbol (codes "f"))

pub name_goes : IsValue (a_symbol ∷ []) a_name
name_goes = (a_name, (a_symbol, refl, symbol_begins), tt, omega arith, refl)

abbrev a_plus : Token
a_plus = some_token (Punctuation Plus)

-- a value goes on with a sum that has a name
pub sum_goes : (text : List Token) (e : Expression) → IsValue text e → (us : List Token) × (x : Expression) × IsValue (text ++ us) x × (is_of_numbers x ≡ false)
sum_goes text e (tree, spelled, ordered, within, is) = (
  a_plus ∷ a_symbol ∷ [],
  Binary Add (bare tree) a_name,
  (
    Binary Add tree a_name,
    (text, a_symbol ∷ [], a_plus, refl, refl, spelled, (a_symbol, refl, symbol_begins)),
    (omega arith, ordered, tt),
    grind (arith, within),
    refl,
  ),
  and_right (is_of_numbers (bare tree)) false refl,
)

-- a token that no expression begins with is no opening parenthesis
no_opening : (k : Kind) (code : ℕ) → step is_register (Wants [] []) k ≡ Fails code → is_opening k ≡ false
no_opening (Punctuation Open) code h = absurd (cc)
no_opening (Punctuation _) code h = refl
no_opening _ code h = refl

fails_first : (front : List Token) (at : Token) (code : ℕ) → FailsAt is_register front at code → front ≡ [] → is_opening at.kind ≡ false
fails_first [] at code f e = let s = stuck is_register [] at code f in go s.stage s.taken s.fails
  where
    go : (s : _) → Some (Wants [] []) ≡ Some s → step is_register s at.kind ≡ Fails code → is_opening at.kind ≡ false
    go s same h = let is : s ≡ Wants [] [] = cc in no_opening at.kind code (ap (λ x. step is_register x at.kind) (sym is) ∙ h)
fails_first (t ∷ ts) at code f e = absurd (cc)

-- where no expression is read; an opening parenthesis can begin one
pub record Unread (ts : List Token) (w : SyntaxError) : Type 0 where
  pub before : List Token
  pub at : Token
  pub more : List Token
  pub code : ℕ
  pub whole : ts ≡ before ++ at ∷ more
  pub is_wrong : w ≡ wrong at code
  pub fails : (text : List Token) → value_at (before ++ at ∷ text) ≡ Err w
  pub goes : (us : List Token) × (x : Expression) × IsValue (before ++ us) x × (is_of_numbers x ≡ false)
  pub closed : before ≡ [] → is_opening at.kind ≡ false

pub value_unread : (ts : List Token) (w : SyntaxError) → is_ended ts ≡ true → value_at ts ≡ Err w → Unread ts w
value_unread ts w end e =
    let f = wrong_at is_register ts w end (seen_err tree_of (expression_at is_register ts) w e) in
    let s = stuck is_register f.0 f.1 f.3 f.5 in
    let g = can_go_on is_register f.0 s.stage s.taken in
    record {
      before = f.0;
      at = f.1;
      more = f.2;
      code = f.3;
      whole = f.4;
      is_wrong = f.6;
      fails = λ text. ap (seen_as tree_of) (fails_there is_register f.0 f.1 f.3 text f.5 ∙ ap (λ (x : SyntaxError). Err x) (sym f.6));
      goes = goes f.0 g.0 g.1 g.2 g.3 g.4;
      closed = fails_first f.0 f.1 f.3 f.5;
    }
  where
    goes : (front more : List Token) (tree : Tree) → SpellsTree is_register tree (front ++ more) → IsAt 0 tree → nesting tree ≤ deepest
        → (us : List Token) × (x : Expression) × IsValue (front ++ us) x × (is_of_numbers x ≡ false)
    goes front more tree spelled ordered within =
        let g = sum_goes (front ++ more) (bare tree) (tree, spelled, ordered, within, refl) in
        (more ++ g.0, g.1, subst (λ us. IsValue us g.1) (append_assoc front more g.0) g.2, g.3)

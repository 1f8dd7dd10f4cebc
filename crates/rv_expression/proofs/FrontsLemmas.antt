-- The first tokens of an expression, one by one.

use Rattle.std.proofs.Common.{◌≡◌, ℕ, Bool, true, cond, List, [], ◌∷◌, ◌++◌, Ok, sym, ◌∙◌, ap, arith}
use Rattle.rv_list_laws.proofs.NumbersLemmas.{le_true}
use Rattle.rv_expression_laws.specs.declared.operator.Frame.{Frame}
use Rattle.rv_expression_laws.specs.declared.operator.Frame.TheVariants.{Prefix, Infix}
use Rattle.rv_expression_laws.specs.declared.operator.BinaryOperator.{BinaryOperator}
use Rattle.rv_expression_laws.specs.declared.operator.UnaryOperator.TheVariants.{Negate}
use Rattle.rv_expression_laws.specs.Grammar.{Kind}
use Rattle.rv_expression_laws.specs.Lexing as lexing
use Rattle.rv_expression_laws.specs.Expression.{Node, Primary, Primary_node, Binary_node, Follow, Begin, A_primary, A_prefix, An_operator, A_closing, A_comparison, Nothing_more, begins, follows, level_of}
use Rattle.rv_expression_laws.specs.ExpressionAt.{Stage, Wants, Has, Goes, Ends, step, step_wants, step_has, settle, end, close, read_from, expression_at}
use Rattle.rv_expression_laws.specs.ExpressionFault.{unclosed}
use Rattle.rv_expression_laws.proofs.ExpressionsLemmas.{goes, ends}
use Rattle.rv_lexer.specs.declared.cursor.Cursor.{Cursor}
use Rattle.rv_lexer.specs.Token.{token_of, kind_of}
use Rattle.rv_lexer.specs.Left.{tokens_left}
use Rattle.rv_lexer.specs.Cursor.{remaining}
use Rattle.rv_expression.specs.Expr.{stack_of, ends_operand, Reached}

-- a token is taken
pub on : (r : List ℕ → Bool) (c d : Cursor) (s u : Stage) → remaining c ≡ token_of c.next ∷ remaining d → step r s (kind_of c.next.kind) ≡ Goes u
    → read_from r s (remaining c) ≡ read_from r u (remaining d)
on r c d s u one e = ap (read_from r s) one ∙ goes r s u (token_of c.next) (remaining d) e

-- the reading ends before a token
ends_here : (r : List ℕ → Bool) (c : Cursor) (s : Stage) (ns : List Node) → step r s (kind_of c.next.kind) ≡ Ends ns → read_from r s (remaining c) ≡ Ok (ns, remaining c)
unfolding remaining
ends_here r c s ns e = ends r s ns (token_of c.next) (cond (lexing.is_last (kind_of c.next.kind)) [] (tokens_left c.lexer)) e

ends_by : (k : Kind) (fs : List Frame) (ns ms : List Node) (f : Follow) → ends_operand f ≡ true → settle 0 fs ns ≡ ([], ms) → step_has k fs ns f ≡ Ends ms
ends_by k fs ns ms Nothing_more t e = ap (λ (s : List Frame × List Node). end (unclosed k) s.0 s.1) e
ends_by k fs ns ms A_closing t e = ap (λ (s : List Frame × List Node). close s.0 s.1) e
ends_by k fs ns ms (An_operator o) t e = absurd (cc)
ends_by k fs ns ms A_comparison t e = absurd (cc)

pub ended_at : (r : List ℕ → Bool) (c : Cursor) (fs : List Frame) (ns ms : List Node) → ends_operand (follows (kind_of c.next.kind)) ≡ true → settle 0 fs ns ≡ ([], ms)
    → read_from r (Has fs ns) (remaining c) ≡ Ok (ms, remaining c)
ended_at r c fs ns ms t e = ends_here r c (Has fs ns) ms (ends_by (kind_of c.next.kind) fs ns ms (follows (kind_of c.next.kind)) t e)

pub settled_infix : (o : BinaryOperator) (ns : List Node) → settle 0 (Infix o ∷ []) ns ≡ ([], ns ++ Binary_node o ∷ [])
settled_infix o ns = ap (λ (b : Bool). cond b (settle 0 [] (ns ++ Binary_node o ∷ [])) (Infix o ∷ [], ns)) (le_true 0 (level_of o) (omega arith))

-- what each token makes of a stage
pub primary_step : (r : List ℕ → Bool) (fs : List Frame) (ns : List Node) (k : Kind) (b : Begin) (p : Primary) → b ≡ begins r k → A_primary p ≡ b
    → step r (Wants fs ns) k ≡ Goes (Has fs (ns ++ Primary_node p ∷ []))
primary_step r fs ns k b p e f = ap (step_wants fs ns) (sym (f ∙ e))

pub minus_step : (r : List ℕ → Bool) (k : Kind) (b : Begin) → b ≡ begins r k → A_prefix Negate ≡ b → step r (Wants [] []) k ≡ Goes (Wants (Prefix Negate ∷ []) [])
minus_step r k b e f = ap (step_wants [] []) (sym (f ∙ e))

-- from the start
pub started : (r : List ℕ → Bool) (c d : Cursor) (u : Stage) → remaining c ≡ token_of c.next ∷ remaining d → step r (Wants [] []) (kind_of c.next.kind) ≡ Goes u → Reached r u (remaining d)
unfolding expression_at
started r c d u one e = (remaining c, on r c d (Wants [] []) u one e)

pub at_start : (r : List ℕ → Bool) (ts : List lexing.Token) (items : List Frame) → stack_of items ≡ [] → Reached r (Wants (stack_of items) []) ts
unfolding expression_at
at_start r ts items e = (ts, ap (λ (l : List Frame). read_from r (Wants l []) ts) (sym e))

-- one token further
pub continued : (r : List ℕ → Bool) (c d : Cursor) (s u : Stage) → Reached r s (remaining c) → remaining c ≡ token_of c.next ∷ remaining d → step r s (kind_of c.next.kind) ≡ Goes u → Reached r u (remaining d)
continued r c d s u h one e = (h.0, h.1 ∙ on r c d s u one e)

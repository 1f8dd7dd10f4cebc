-- Reading an expression token by token, as the code holds what is read.

use Rattle.std.proofs.Common.{◌≡◌, ℕ, Bool, true, cond, List, [], Ok, Err, sym, ◌∙◌, ap}
use Rattle.rv_expression_laws.specs.Lexing as lexing
use Rattle.rv_expression_laws.specs.Expression.{Tree, ReadsTree, Node, postfix}
use Rattle.rv_expression_laws.specs.SyntaxError as syntax
use Rattle.rv_expression_laws.specs.ExpressionAt.{Stage, Ends, Fails, step, read_from, expression_at}
use Rattle.rv_expression_laws.specs.SyntaxError.{wrong}
use Rattle.rv_expression_laws.specs.Values.{nodes_fit}
use Rattle.rv_expression_laws.proofs.ExpressionsLemmas.{ends, fails, expression_is}
use Rattle.rv_expression_laws.proofs.ExpressionFoundLemmas.{expression_found}
use Rattle.rv_expression_laws.proofs.ExpressionValuesLemmas.{postfix_fits}
use Rattle.rv_lexer.specs.declared.cursor.Cursor.{Cursor}
use Rattle.rv_lexer.specs.declared.syntax_error.SyntaxError.{SyntaxError}
use Rattle.rv_fault.specs.SourceFault.{source_fault_number}
use Rattle.rv_lexer.specs.Token.{token_of, kind_of}
use Rattle.rv_lexer.specs.Left.{tokens_left}
use Rattle.rv_lexer.specs.Cursor.{remaining, syntax_error_of}

pub ended : (r : List ℕ → Bool) (so_far : syntax.Read (List Node)) (c : Cursor) (s : Stage) (ns : List Node) → so_far ≡ read_from r s (remaining c)
    → step r s (kind_of c.next.kind) ≡ Ends ns → so_far ≡ Ok (ns, remaining c)
unfolding remaining
ended r so_far c s ns so e = so ∙ ends r s ns (token_of c.next) (cond (lexing.is_last (kind_of c.next.kind)) [] (tokens_left c.lexer)) e

pub failed : (r : List ℕ → Bool) (so_far : syntax.Read (List Node)) (c : Cursor) (s : Stage) (code : ℕ) → so_far ≡ read_from r s (remaining c)
    → step r s (kind_of c.next.kind) ≡ Fails code → so_far ≡ Err (wrong (token_of c.next) code)
unfolding remaining
failed r so_far c s code so e = so ∙ fails r s code (token_of c.next) (cond (lexing.is_last (kind_of c.next.kind)) [] (tokens_left c.lexer)) e

-- an error's code is the one that it was made with
pub at_next : (w : SyntaxError) (t : lexing.Token) (code : ℕ) → syntax_error_of w ≡ wrong t code → syntax_error_of w ≡ wrong t (source_fault_number w.code)
at_next w t code e = e ∙ ap (wrong t) (sym (ap (λ (v : syntax.SyntaxError). v.code) e))

-- what is read has room for its values
pub read_fits : (r : List ℕ → Bool) (ts : List lexing.Token) (ns : List Node) (rest : List lexing.Token) → expression_at r ts ≡ Ok (ns, rest) → nodes_fit ns 0 ≡ true
read_fits r ts ns rest e =
    let f = expression_found r ts ns rest e in
    ap (λ (l : List Node). nodes_fit l 0) f.2 ∙ postfix_fits f.0 f.1.ordered f.1.within

-- the expression that is read, as the grammar has it
pub parsed : (r : List ℕ → Bool) (ts before after rest : List lexing.Token) (ns : List Node) → expression_at r ts ≡ Ok (ns, rest) → ts ≡ before → after ≡ rest
    → (tree : Tree) × ReadsTree r before tree after × (ns ≡ postfix tree)
parsed r ts before after rest ns e same end =
    expression_found r before ns after (ap (expression_at r) (sym same) ∙ e ∙ ap (λ (l : List lexing.Token). Ok (ns, l)) (sym end))

-- and no other is
pub only_read : (r : List ℕ → Bool) (ts before after rest : List lexing.Token) (ns : List Node) → expression_at r ts ≡ Ok (ns, rest) → ts ≡ before → after ≡ rest
    → (tree : Tree) (other : List lexing.Token) → ReadsTree r before tree other → (ns ≡ postfix tree) × (after ≡ other)
only_read r ts before after rest ns e same end tree other reads =
    let both : (ns, rest) ≡ (postfix tree, other) = cc (sym e ∙ ap (expression_at r) same ∙ expression_is r before tree other reads) in
    (ap (λ (q : List Node × List lexing.Token). q.0) both, end ∙ ap (λ (q : List Node × List lexing.Token). q.1) both)

-- where a token is wrong there is no expression
pub unread : (r : List ℕ → Bool) (ts before : List lexing.Token) (w : syntax.SyntaxError) → expression_at r ts ≡ Err w → ts ≡ before
    → (tree : Tree) (rest : List lexing.Token) → ReadsTree r before tree rest → ⊥
unread r ts before w e same tree rest reads =
    no_both (postfix tree, rest) w (sym (expression_is r before tree rest reads) ∙ ap (expression_at r) (sym same) ∙ e)
  where
    no_both : (x : List Node × List lexing.Token) (v : syntax.SyntaxError) → ◌≡◌ {A = syntax.Read (List Node)} (Ok x) (Err v) → ⊥
    no_both x v h = absurd (cc)

-- The name at the front of a cursor's tokens, token by token.

use Rattle.std.proofs.Common.{◌≡◌, ℕ, ◌-◌, true, List, ◌∷◌, take, drop, refl, sym, ◌∙◌, ap, subst, Option, Some, None}
use Rattle.std.specs.Prelude.{is_some}
use Rattle.rv_list_laws.proofs.ElementsLemmas.{some_bytes}
use Rattle.rv_expression_laws.specs.Lexing as lexing
use Rattle.rv_expression_laws.specs.Grammar.{Name}
use Rattle.rv_expression_laws.specs.Joined.{joined_bytes, joins, joined_at}
use Rattle.rv_expression_laws.proofs.JoinsLemmas.{Joining, joining_first, joining_more, joining_end, no_name, parts_join, joined_parts}
use Rattle.rv_lexer.specs.declared.cursor.Cursor.{Cursor}
use Rattle.rv_lexer.specs.declared.token.TokenKind.{TokenKind}
use Rattle.rv_lexer.specs.declared.token.TokenKind.TheVariants as code
use Rattle.rv_lexer.specs.Token.{token_of, kind_of}
use Rattle.rv_lexer.specs.Left.{tokens_left}
use Rattle.rv_lexer.specs.Cursor.{remaining}

-- the first token
pub begun : (c d : Cursor) (first : List ℕ) → kind_of c.next.kind ≡ Name first → remaining c ≡ token_of c.next ∷ remaining d
    → Joining c.before.at c.before.rest.now (remaining c) c.next.start c.next.stop (remaining d)
unfolding remaining tokens_left
begun c d first is one =
    subst (λ (all : List lexing.Token). Joining c.before.at c.before.rest.now all c.next.start c.next.stop (remaining d)) (sym one)
    (joining_first c.before.at c.before.line c.before.rest.now (token_of c.next) (remaining d) first (c.gives ∙ one) is)

-- a token that goes on with it
pub went_on : (at : ℕ) (bytes : List ℕ) (all : List lexing.Token) (start stop : ℕ) (c d : Cursor) → Joining at bytes all start stop (remaining c)
    → c.next.start ≡ stop → is_some (joined_bytes (kind_of c.next.kind)) ≡ true → remaining c ≡ token_of c.next ∷ remaining d → Joining at bytes all start c.next.stop (remaining d)
went_on at bytes all start stop c d j offset some one =
    let b = some_bytes (joined_bytes (kind_of c.next.kind)) some in
    joining_more at bytes all start stop (token_of c.next) (remaining d) b.0
    (subst (λ (ts : List lexing.Token). Joining at bytes all start stop ts) one j) (parts_join stop (token_of c.next) b.0 offset b.1)

no_join : (offset : ℕ) (t : lexing.Token) → (t.start ≡ offset → is_some (joined_bytes t.kind) ≡ true → ⊥) → joins offset t ≡ None
no_join offset t other = go (joins offset t) refl
  where
    go : (o : Option (List ℕ)) → joins offset t ≡ o → o ≡ None
    go None e = refl
    go (Some bytes) e = let p = joined_parts offset t bytes e in absurd (other p.0 (ap is_some p.1))

-- a token that does not
pub ended : (at : ℕ) (bytes : List ℕ) (all : List lexing.Token) (start stop : ℕ) (c : Cursor) → Joining at bytes all start stop (remaining c)
    → (c.next.start ≡ stop → is_some (joined_bytes (kind_of c.next.kind)) ≡ true → ⊥)
    → joined_at all ≡ Some (take (stop - start) (drop (start - at) bytes), remaining c)
unfolding remaining
ended at bytes all start stop c j other = joining_end at bytes all start stop (token_of c.next) _ j (no_join stop (token_of c.next) other)

-- no name stands at the front
pub nameless : (c : Cursor) → ((name : _) → c.next.kind ≡ code.Name name → ⊥) → joined_at (remaining c) ≡ None
unfolding remaining
nameless c other = no_name (token_of c.next) _ (no_name_kind c.next.kind other)
  where
    no_name_kind : (k : TokenKind) → ((name : _) → k ≡ code.Name name → ⊥) → (name : List ℕ) → kind_of k ≡ Name name → ⊥
    no_name_kind (code.Name n) other name e = other n refl
    no_name_kind _ other name e = cc

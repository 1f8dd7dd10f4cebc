-- A run of blanks leaves the tokens as they are.

use Rattle.std.proofs.Common.{◌≡◌, ℕ, ◌+◌, Bool, true, false, cond, ◌==◌, ◌||◌, List, [], ◌∷◌, drop, refl, sym, ◌∙◌, ap, arith, eqb-true, Some}
use Rattle.std.proofs.Math.Numerals.{one-add}
use Rattle.std.specs.List.{prefix_len}
use Rattle.rv_expression_laws.specs.Bytes.{class}
use Rattle.rv_expression_laws.specs.Grammar.{Space}
use Rattle.rv_expression_laws.specs.declared.class.Class.TheVariants.{Blank}
use Rattle.rv_expression_laws.specs.Front.{lexeme_at, lexeme_by, tokens_from}
use Rattle.rv_expression_laws.specs.Lexing.{newlines}
use Rattle.rv_expression_laws.proofs.TokensLemmas.{tokens_more}
use Rattle.rv_lexer.specs.Lexeme.{is_blank}
use Rattle.rv_lexer.specs.declared.lexer.Lexer.{Lexer}
use Rattle.rv_lexer.specs.Left.{tokens_left}

space : (class 32 ≡ Blank) × (newlines (32 ∷ []) ≡ 0)
unfolding class
space = (refl, refl)

tab : (class 9 ≡ Blank) × (newlines (9 ∷ []) ≡ 0)
unfolding class
tab = (refl, refl)

return_byte : (class 13 ≡ Blank) × (newlines (13 ∷ []) ≡ 0)
unfolding class
return_byte = (refl, refl)

-- a blank is of its class, and no line feed
blank_class : (b : ℕ) → is_blank b ≡ true → (class b ≡ Blank) × (newlines (b ∷ []) ≡ 0)
blank_class b h = go (b == 32) (b == 9) (b == 13) refl refl refl h
  where
    blank_at : (n : ℕ) → b ≡ n → (class n ≡ Blank) × (newlines (n ∷ []) ≡ 0) → (class b ≡ Blank) × (newlines (b ∷ []) ≡ 0)
    blank_at n e known = rw e known

    go : (x y z : Bool) → (b == 32) ≡ x → (b == 9) ≡ y → (b == 13) ≡ z → (x || y || z) ≡ true → (class b ≡ Blank) × (newlines (b ∷ []) ≡ 0)
    go true y z ex ey ez h = blank_at 32 (eqb-true b 32 ex) space
    go false true z ex ey ez h = blank_at 9 (eqb-true b 9 ey) tab
    go false false true ex ey ez h = blank_at 13 (eqb-true b 13 ez) return_byte
    go false false false ex ey ez h = absurd (cc)

one_blank : (at line b : ℕ) (bs : List ℕ) → is_blank b ≡ true → tokens_from at line (b ∷ bs) ≡ tokens_from (at + 1) line bs
unfolding lexeme_at
one_blank at line b bs h =
    let known = blank_class b h in
    tokens_more at line (b ∷ bs) Space 1 (found known.0)
    ∙ ap (λ (n : ℕ). tokens_from (at + 1) n bs) (omega (arith, known.1))
  where
    found : class b ≡ Blank → lexeme_at (b ∷ bs) ≡ Some (Space, 1)
    found is = ap (λ c. lexeme_by c b bs) is

blanks_on : (bytes : List ℕ) (at line : ℕ) → tokens_from at line bytes ≡ tokens_from (at + prefix_len is_blank bytes) line (drop (prefix_len is_blank bytes) bytes)
blanks_on [] at line = ap (λ (n : ℕ). tokens_from n line []) (omega arith)
blanks_on (b ∷ bs) at line = go (is_blank b) refl (blanks_on bs (at + 1) line)
  where
    go : (t : Bool) → is_blank b ≡ t → tokens_from (at + 1) line bs ≡ tokens_from (at + 1 + prefix_len is_blank bs) line (drop (prefix_len is_blank bs) bs)
        → tokens_from at line (b ∷ bs) ≡ tokens_from (at + cond t (1 + prefix_len is_blank bs) 0) line (drop (cond t (1 + prefix_len is_blank bs) 0) (b ∷ bs))
    go true e more = rw one-add (one_blank at line b bs e ∙ more ∙ ap (λ (n : ℕ). tokens_from n line (drop (prefix_len is_blank bs) bs)) (omega arith))
    go false e more = ap (λ (n : ℕ). tokens_from n line (b ∷ bs)) (omega arith)

-- a lexer past its blanks
pub past_blanks : (old new : Lexer) (n : ℕ) → n ≡ prefix_len is_blank old.rest.now → new.rest.now ≡ drop n old.rest.now → new.at ≡ old.at + n → new.line ≡ old.line
    → tokens_left new ≡ tokens_left old
unfolding tokens_left
past_blanks old new n count rest at line = rw (rest, at, line, count) (sym (blanks_on old.rest.now old.at old.line))

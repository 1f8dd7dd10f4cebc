-- Where a reading at the front of tokens is wrong: at the first token with which nothing can go on.

use Rattle.std.proofs.Common.{◌≡◌, ℕ, List, [], ◌∷◌, ◌++◌, append_assoc, Option, Some, None, Result, Ok, Err, refl, sym, ◌∙◌, ap, subst}
use Rattle.rv_expression_laws.specs.Lexing.{Token}
use Rattle.rv_expression_laws.specs.SyntaxError.{SyntaxError, wrong, Read}

pub heads : {t u : Token} {ts us : List Token} → t ∷ ts ≡ u ∷ us → t ≡ u
heads e = cc

pub tails : {t u : Token} {ts us : List Token} → t ∷ ts ≡ u ∷ us → ts ≡ us
tails e = cc

pub never : {X : Type 0} (x : X) (w : SyntaxError) → Ok x ≡ Err w → ⊥
never x w e = cc

pub wrongs : {X : Type 0} (v w : SyntaxError) → ◌≡◌ {A = Result X SyntaxError} (Err v) (Err w) → v ≡ w
wrongs v w e = cc

abbrev pub first_of : List Token → Option Token
first_of [] = None
first_of (t ∷ ts) = Some t

pub same_first : (front : List Token) (at : Token) (more text : List Token) → first_of (front ++ at ∷ more) ≡ first_of (front ++ at ∷ text)
same_first [] at more text = refl
same_first (t ∷ ts) at more text = refl

pub first_same : (front rest other : List Token) → first_of rest ≡ first_of other → first_of (front ++ rest) ≡ first_of (front ++ other)
first_same [] rest other e = e
first_same (t ∷ ts) rest other e = refl

pub first_is : (t : Token) (ts us : List Token) → first_of us ≡ first_of (t ∷ ts) → (vs : List Token) × (us ≡ t ∷ vs)
first_is t ts [] e = absurd (cc)
first_is t ts (u ∷ us) e = let same : u ≡ t = cc in (us, ap (λ (x : Token). x ∷ us) same)

-- the fault stands at a token: at the wrong one, or at one before it
abbrev pub Shown : List Token → Token → SyntaxError → Type 0
Shown before at w = (front back : List Token) × (shown : Token) × (code : ℕ) × (before ++ at ∷ [] ≡ front ++ shown ∷ back) × (w ≡ wrong shown code)

pub at_once : (before : List Token) (at : Token) (code : ℕ) (w : SyntaxError) → w ≡ wrong at code → Shown before at w
at_once before at code w e = (before, [], at, code, refl, e)

pub shown_behind : (text before : List Token) (at : Token) (w : SyntaxError) → Shown before at w → Shown (text ++ before) at w
shown_behind text before at w (front, back, shown, code, within, is) = (
  text ++ front,
  back,
  shown,
  code,
  append_assoc text before (at ∷ []) ∙ ap (λ us. text ++ us) within ∙ sym (append_assoc text front (shown ∷ back)),
  is,
)

-- where it stands among all tokens
pub shown_whole : (ts before : List Token) (at : Token) (more : List Token) (w : SyntaxError) → ts ≡ before ++ at ∷ more → (s : Shown before at w) → ts ≡ s.0 ++ s.2 ∷ (s.1 ++ more)
shown_whole ts before at more w whole (front, back, shown, code, within, is) =
    whole ∙ sym (append_assoc before (at ∷ []) more) ∙ ap (λ us. us ++ more) within ∙ append_assoc front (shown ∷ back) more

-- R is wrong at the token `at`, whatever follows it; with the tokens before it, what P says can go on
pub record Failing (X : Type 0) (P : List Token → X → Type 0) (R : List Token → Read X) (ts : List Token) (w : SyntaxError) : Type 0 where
  pub before : List Token
  pub at : Token
  pub more : List Token
  pub whole : ts ≡ before ++ at ∷ more
  pub is_wrong : Shown before at w
  pub fails : (text : List Token) → R (before ++ at ∷ text) ≡ Err w
  pub goes : (text : List Token) × (x : X) × P (before ++ text) x

-- at the first token
pub at_first : (X : Type 0) (P : List Token → X → Type 0) (R : List Token → Read X) (t : Token) (ts : List Token) (w : SyntaxError) (code : ℕ) → w ≡ wrong t code
    → ((text : List Token) → R (t ∷ text) ≡ Err w) → (text : List Token) × (x : X) × P text x → Failing X P R (t ∷ ts) w
at_first X P R t ts w code is fails goes = record { before = []; at = t; more = ts; whole = refl; is_wrong = at_once [] t _ w is; fails = fails; goes = goes }

-- behind tokens that are passed
unfoldable pub behind : (X Y : Type 0) (P : List Token → X → Type 0) (Q : List Token → Y → Type 0) (R : List Token → Read X) (S : List Token → Read Y) (text ts : List Token) (w : SyntaxError)
    → ((us : List Token) (y : Y) → Q us y → (x : X) × P (text ++ us) x)
    → ((us : List Token) → first_of us ≡ first_of ts → S us ≡ Err w → R (text ++ us) ≡ Err w)
    → Failing Y Q S ts w → Failing X P R (text ++ ts) w
behind X Y P Q R S text ts w to on f = record {
  before = text ++ f.before;
  at = f.at;
  more = f.more;
  whole = ap (λ us. text ++ us) f.whole ∙ sym (append_assoc text f.before (f.at ∷ f.more));
  is_wrong = shown_behind text f.before f.at w f.is_wrong;
  fails = λ us. ap R (append_assoc text f.before (f.at ∷ us))
      ∙ on (f.before ++ f.at ∷ us) (same_first f.before f.at us f.more ∙ ap first_of (sym f.whole)) (f.fails us);
  goes = goes (to (f.before ++ f.goes.0) f.goes.1 f.goes.2);
}
  where
    goes : (x : X) × P (text ++ (f.before ++ f.goes.0)) x → (us : List Token) × (x : X) × P ((text ++ f.before) ++ us) x
    goes (x, p) = (f.goes.0, x, subst (λ us. P us x) (sym (append_assoc text f.before f.goes.0)) p)

-- the same reading, said otherwise
pub alike : (X Y : Type 0) (P : List Token → X → Type 0) (Q : List Token → Y → Type 0) (R : List Token → Read X) (S : List Token → Read Y) (ts : List Token) (w : SyntaxError)
    → ((us : List Token) (y : Y) → Q us y → (x : X) × P us x) → ((us : List Token) → first_of us ≡ first_of ts → S us ≡ Err w → R us ≡ Err w) → Failing Y Q S ts w → Failing X P R ts w
alike X Y P Q R S ts w to on f = behind X Y P Q R S [] ts w to on f

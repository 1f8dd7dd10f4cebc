-- What a byte's class says of the byte.

use Rattle.std.proofs.Common.{◌≡◌, ℕ, true, false, ◌||◌, ◌==◌, List, [], ◌∷◌, refl, ap}
use Rattle.std.proofs.lemmas.Bool.{eqb-true}
use Rattle.rv_expression_laws.specs.declared.class.Class.{Class}
use Rattle.rv_expression_laws.specs.declared.class.Class.TheVariants.{Letter, Digit, Blank, LineEnd, Single, HashByte, SlashByte, QuoteByte, ApostropheByte, LessByte, GreaterByte, EqualByte, BangByte, Odd, Foreign}
use Rattle.rv_expression_laws.specs.Bytes.{class, spelling, is_letter, is_decimal, between}
use Rattle.rv_expression_laws.specs.Grammar.{Punctuation, goes_on}
use Rattle.rv_expression_laws.specs.Front.{lexeme_at, lexeme_by}
use Rattle.rv_expression_laws.proofs.RunsLemmas.{pick}

-- the byte of a class of one byte
abbrev pub ByteOf : ℕ → Class → Type 0
ByteOf b LineEnd = b ≡ 10
ByteOf b (Single punct) = (b ∷ [] ≡ spelling punct) × ((c : ℕ) → goes_on (Punctuation punct) c ≡ false)
ByteOf b HashByte = b ≡ 35
ByteOf b SlashByte = b ≡ 47
ByteOf b QuoteByte = b ≡ 34
ByteOf b ApostropheByte = b ≡ 39
ByteOf b LessByte = b ≡ 60
ByteOf b GreaterByte = b ≡ 62
ByteOf b EqualByte = b ≡ 61
ByteOf b BangByte = b ≡ 33
ByteOf b Letter = Unit {0}
ByteOf b Digit = Unit {0}
ByteOf b Blank = Unit {0}
ByteOf b Odd = Unit {0}
ByteOf b Foreign = Unit {0}

record Fact (b : ℕ) (c : Class) : Type 0 where
  is : ByteOf b c

one : (b n : ℕ) → (b == n) ≡ true → b ∷ [] ≡ n ∷ []
one b n t = ap (λ x. x ∷ []) (eqb-true b n t)

fact : (b : ℕ) → Fact b (class b)
unfolding class
fact b =
    pick (Fact b) (is_letter b) _ _ (λ _. record { is = tt }) (λ _.
    pick (Fact b) (is_decimal b) _ _ (λ _. record { is = tt }) (λ _.
    pick (Fact b) ((b == 32) || (b == 9) || (b == 13)) _ _ (λ _. record { is = tt }) (λ _.
    pick (Fact b) (b == 10) _ _ (λ t. record { is = eqb-true b 10 t }) (λ _.
    pick (Fact b) (b == 44) _ _ (λ t. record { is = (one b 44 t, λ c. refl) }) (λ _.
    pick (Fact b) (b == 40) _ _ (λ t. record { is = (one b 40 t, λ c. refl) }) (λ _.
    pick (Fact b) (b == 41) _ _ (λ t. record { is = (one b 41 t, λ c. refl) }) (λ _.
    pick (Fact b) (b == 58) _ _ (λ t. record { is = (one b 58 t, λ c. refl) }) (λ _.
    pick (Fact b) (b == 35) _ _ (λ t. record { is = eqb-true b 35 t }) (λ _.
    pick (Fact b) (b == 59) _ _ (λ t. record { is = (one b 59 t, λ c. refl) }) (λ _.
    pick (Fact b) (b == 43) _ _ (λ t. record { is = (one b 43 t, λ c. refl) }) (λ _.
    pick (Fact b) (b == 45) _ _ (λ t. record { is = (one b 45 t, λ c. refl) }) (λ _.
    pick (Fact b) (b == 42) _ _ (λ t. record { is = (one b 42 t, λ c. refl) }) (λ _.
    pick (Fact b) (b == 37) _ _ (λ t. record { is = (one b 37 t, λ c. refl) }) (λ _.
    pick (Fact b) (b == 124) _ _ (λ t. record { is = (one b 124 t, λ c. refl) }) (λ _.
    pick (Fact b) (b == 38) _ _ (λ t. record { is = (one b 38 t, λ c. refl) }) (λ _.
    pick (Fact b) (b == 94) _ _ (λ t. record { is = (one b 94 t, λ c. refl) }) (λ _.
    pick (Fact b) (b == 126) _ _ (λ t. record { is = (one b 126 t, λ c. refl) }) (λ _.
    pick (Fact b) (b == 64) _ _ (λ t. record { is = (one b 64 t, λ c. refl) }) (λ _.
    pick (Fact b) (b == 47) _ _ (λ t. record { is = eqb-true b 47 t }) (λ _.
    pick (Fact b) (b == 34) _ _ (λ t. record { is = eqb-true b 34 t }) (λ _.
    pick (Fact b) (b == 39) _ _ (λ t. record { is = eqb-true b 39 t }) (λ _.
    pick (Fact b) (b == 60) _ _ (λ t. record { is = eqb-true b 60 t }) (λ _.
    pick (Fact b) (b == 62) _ _ (λ t. record { is = eqb-true b 62 t }) (λ _.
    pick (Fact b) (b == 61) _ _ (λ t. record { is = eqb-true b 61 t }) (λ _.
    pick (Fact b) (b == 33) _ _ (λ t. record { is = eqb-true b 33 t }) (λ _.
    pick (Fact b) (between 32 126 b) _ _ (λ _. record { is = tt }) (λ _. record { is = tt })))))))))))))))))))))))))))

pub byte_of_class : (b : ℕ) → ByteOf b (class b)
byte_of_class b = (fact b).is

-- a lexeme by the class of its first byte
pub lexeme_by_class : (b : ℕ) (bs : List ℕ) (c : Class) → class b ≡ c → lexeme_at (b ∷ bs) ≡ lexeme_by c b bs
unfolding lexeme_at
lexeme_by_class b bs c e = ap (λ k. lexeme_by k b bs) e

pub class_10 : class 10 ≡ LineEnd
unfolding class
class_10 = refl

pub class_35 : class 35 ≡ HashByte
unfolding class
class_35 = refl

pub class_47 : class 47 ≡ SlashByte
unfolding class
class_47 = refl

pub class_34 : class 34 ≡ QuoteByte
unfolding class
class_34 = refl

pub class_39 : class 39 ≡ ApostropheByte
unfolding class
class_39 = refl

pub class_60 : class 60 ≡ LessByte
unfolding class
class_60 = refl

pub class_62 : class 62 ≡ GreaterByte
unfolding class
class_62 = refl

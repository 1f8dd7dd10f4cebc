-- What an answer of a reading at the front of tokens says of its steps.

use Rattle.std.proofs.Common.{◌≡◌, ℕ, Bool, true, false, cond, List, Option, Some, None, Result, Ok, Err, refl, sym, ap, ◌⊎◌, inl, inr}
use Rattle.rv_expression_laws.specs.Lexing.{Token}
use Rattle.rv_parse_laws.specs.Parsing.{◌>>=◌, seen_as, taken}
use Rattle.rv_expression_laws.specs.SyntaxError.{SyntaxError, wrong, Read}

pub bind_ok : {A B : Type 0} (r : Result A SyntaxError) (f : A → Result B SyntaxError) (y : B) → (r >>= f) ≡ Ok y → (x : A) × (r ≡ Ok x) × (f x ≡ Ok y)
bind_ok (Ok x) f y e = (x, refl, e)
bind_ok (Err w) f y e = absurd (cc)

pub seen_ok : {X Y : Type 0} (view : X → Y) (r : Read X) (y : Y) (rest : List Token) → seen_as view r ≡ Ok (y, rest) → (x : X) × (r ≡ Ok (x, rest)) × (y ≡ view x)
seen_ok view (Ok x) y rest e =
    let p : (view x.0, x.1) ≡ (y, rest) = cc in
    (x.0, ap (λ (u : List Token). Ok (x.0, u)) (ap (λ (q : _ × List Token). q.1) p), ap (λ (q : _ × List Token). q.0) (sym p))
seen_ok view (Err w) y rest e = absurd (cc)

pub taken_ok : {X : Type 0} (t : Token) (ts : List Token) (o : Option X) (code : ℕ) (x : X) (rest : List Token) → taken t ts o code ≡ Ok (x, rest) → (o ≡ Some x) × (ts ≡ rest)
taken_ok t ts (Some y) code x rest e =
    let p : (y, ts) ≡ (x, rest) = cc in
    (ap (λ (q : _ × List Token). Some q.0) p, ap (λ (q : _ × List Token). q.1) p)
taken_ok t ts None code x rest e = absurd (cc)

pub tested_ok : {X : Type 0} (b : Bool) (x y : X) (w : SyntaxError) → cond b (Ok x) (Err w) ≡ Ok y → (b ≡ true) × (x ≡ y)
tested_ok true x y w e = (refl, cc)
tested_ok false x y w e = absurd (cc)

pub pair_parts : {X Y : Type 0} (a x : X) (b y : Y) (r : Result (X × Y) SyntaxError) → r ≡ Ok (a, b) → r ≡ Ok (x, y) → (a ≡ x) × (b ≡ y)
pair_parts a x b y r d e =
    let p : (a, b) ≡ (x, y) = cc in
    (ap (λ (q : _ × _). q.0) p, ap (λ (q : _ × _). q.1) p)

pub bind_err : {A B : Type 0} (r : Result A SyntaxError) (f : A → Result B SyntaxError) (w : SyntaxError) → (r >>= f) ≡ Err w → (r ≡ Err w) ⊎ ((x : A) × (r ≡ Ok x) × (f x ≡ Err w))
bind_err (Ok x) f w e = inr (x, refl, e)
bind_err (Err v) f w e = let same : v ≡ w = cc in inl (ap (λ (x : SyntaxError). Err x) same)

pub seen_err : {X Y : Type 0} (view : X → Y) (r : Read X) (w : SyntaxError) → seen_as view r ≡ Err w → r ≡ Err w
seen_err view (Ok x) w e = absurd (cc)
seen_err view (Err v) w e = let same : v ≡ w = cc in ap (λ (x : SyntaxError). Err x) same

pub taken_err : {X : Type 0} (t : Token) (ts : List Token) (o : Option X) (code : ℕ) (w : SyntaxError) → taken t ts o code ≡ Err w → (o ≡ None) × (w ≡ wrong t code)
taken_err t ts (Some y) code w e = absurd (cc)
taken_err t ts None code w e = let same : wrong t code ≡ w = cc in (refl, sym same)

pub tested_err : {X : Type 0} (b : Bool) (x : X) (v w : SyntaxError) → cond b (Ok x) (Err v) ≡ Err w → (b ≡ false) × (w ≡ v)
tested_err true x v w e = absurd (cc)
tested_err false x v w e = let same : v ≡ w = cc in (refl, sym same)

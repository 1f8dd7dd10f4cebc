-- What values are where each name is open, and where each has a place: a difference there has no fault here.

use Rattle.std.proofs.Common.{◌≡◌, ◌==◌, ℕ, Bool, true, false, cond, [], nat_lt, refl, sym, ◌∙◌, ap, subst, ◌⊎◌, inl, inr}
use Rattle.rv_expression_laws.specs.declared.operator.UnaryOperator.{UnaryOperator}
use Rattle.rv_expression_laws.specs.declared.operator.UnaryOperator.TheVariants.{Negate, Complement, Keep}
use Rattle.rv_expression_laws.specs.declared.operator.BinaryOperator.{BinaryOperator}
use Rattle.rv_expression_laws.specs.declared.operator.BinaryOperator.TheVariants.{Multiply, Divide, Remainder, ShiftLeft, ShiftRight, Or, And, ExclusiveOr, Add, Subtract}
use Rattle.rv_expression_laws.specs.Expression.{Primary, Literal, Symbol, Here, Reference, Tree, Leaf, Unary, Paren, Binary}
use Rattle.rv_expression_laws.specs.Values.{Meaning, Known, InSection, Open, Refused, Value, Constant, Symbolic, Difference, Faulty, add, subtract, arithmetic, apart, sum, difference, constants_alone, both, unary_value, value_of}
use Rattle.rv_unit_laws.specs.Faults.{value_faults}
use Rattle.rv_unit_laws.specs.Tables.{Tables, SectionOffset, named, value_by_tables}
use Rattle.rv_unit.specs.Faults.{open_meaning, is_difference}
use Rattle.rv_unit.proofs.PlacesLemmas.{named_place, symbolic_place}

-- a value where names are open, and what it is where they have places
abbrev Shows : Value → Value → Type 0
Shows (Constant a) w = w ≡ Constant a
Shows (Symbolic p at k) w = (at ≡ Open) × (bt : Meaning) × (w ≡ Symbolic p bt k)
Shows (Difference p q k) w = (w ≡ Difference p q k) ⊎ ((c : ℕ) × (w ≡ Constant c))
Shows (Faulty code) w = Unit {0}

apart_either : (t : Bool) (c : ℕ) (p q : Primary) (d : ℕ) → (cond t (Constant c) (Difference p q d) ≡ Difference p q d) ⊎ ((n : ℕ) × (cond t (Constant c) (Difference p q d) ≡ Constant n))
apart_either true c p q d = inr (c, refl)
apart_either false c p q d = inl refl

apart_shown : (m n : Meaning) (p q : Primary) (d : ℕ) → (apart m n p q d ≡ Difference p q d) ⊎ ((c : ℕ) × (apart m n p q d ≡ Constant c))
apart_shown (InSection s a) (InSection t b) p q d = apart_either (s == t) (add d (subtract a b)) p q d
apart_shown (InSection s a) Open p q d = inl refl
apart_shown (InSection s a) (Known number) p q d = inl refl
apart_shown (InSection s a) (Refused code) p q d = inl refl
apart_shown Open n p q d = inl refl
apart_shown (Known number) n p q d = inl refl
apart_shown (Refused code) n p q d = inl refl

taken_apart : (w x : Value) (p q : Primary) (d : ℕ) → w ≡ x → (x ≡ Difference p q d) ⊎ ((c : ℕ) × (x ≡ Constant c)) → (w ≡ Difference p q d) ⊎ ((c : ℕ) × (w ≡ Constant c))
taken_apart w x p q d same (inl e) = inl (same ∙ e)
taken_apart w x p q d same (inr e) = inr (e.0, same ∙ e.1)

-- a constant or a fault
abbrev is_plain : Value → Bool
is_plain (Constant a) = true
is_plain (Symbolic p at k) = false
is_plain (Difference p q k) = false
is_plain (Faulty code) = true

plain_shows : (v w : Value) → is_plain v ≡ true → w ≡ v → Shows v w
plain_shows (Constant a) w plain e = e
plain_shows (Symbolic p at k) w plain e = absurd (cc)
plain_shows (Difference p q k) w plain e = absurd (cc)
plain_shows (Faulty code) w plain e = tt

either_plain : (t : Bool) (v w : Value) → is_plain v ≡ true → is_plain w ≡ true → is_plain (cond t v w) ≡ true
either_plain true v w e f = e
either_plain false v w e f = f

arithmetic_plain : (o : BinaryOperator) (a b : ℕ) → is_plain (arithmetic o a b) ≡ true
arithmetic_plain Multiply a b = refl
arithmetic_plain Divide a b = either_plain (b == 0) _ _ refl refl
arithmetic_plain Remainder a b = either_plain (b == 0) _ _ refl refl
arithmetic_plain ShiftLeft a b = either_plain (nat_lt b 64) _ _ refl refl
arithmetic_plain ShiftRight a b = either_plain (nat_lt b 64) _ _ refl refl
arithmetic_plain Or a b = refl
arithmetic_plain And a b = refl
arithmetic_plain ExclusiveOr a b = refl
arithmetic_plain Add a b = refl
arithmetic_plain Subtract a b = refl

sum_shows : (v1 v2 w1 w2 : Value) → Shows v1 w1 → Shows v2 w2 → Shows (sum v1 v2) (sum w1 w2)
sum_shows (Constant a) (Constant b) w1 w2 e f = ap (λ (w : Value). sum w w2) e ∙ ap (sum (Constant a)) f
sum_shows (Constant a) (Symbolic r bt j) w1 w2 e f = (f.0, f.1, ap (λ (w : Value). sum w w2) e ∙ ap (sum (Constant a)) f.2)
sum_shows (Constant a) (Difference r s j) w1 w2 e (inl f) = inl (ap (λ (w : Value). sum w w2) e ∙ ap (sum (Constant a)) f)
sum_shows (Constant a) (Difference r s j) w1 w2 e (inr f) = inr (add a f.0, ap (λ (w : Value). sum w w2) e ∙ ap (sum (Constant a)) f.1)
sum_shows (Constant a) (Faulty d) w1 w2 e f = tt
sum_shows (Symbolic p at k) (Constant b) w1 w2 e f = (e.0, e.1, ap (λ (w : Value). sum w w2) e.2 ∙ ap (sum (Symbolic p e.1 k)) f)
sum_shows (Symbolic p at k) (Symbolic r bt j) w1 w2 e f = tt
sum_shows (Symbolic p at k) (Difference r s j) w1 w2 e f = tt
sum_shows (Symbolic p at k) (Faulty d) w1 w2 e f = tt
sum_shows (Difference p q k) (Constant b) w1 w2 (inl e) f = inl (ap (λ (w : Value). sum w w2) e ∙ ap (sum (Difference p q k)) f)
sum_shows (Difference p q k) (Constant b) w1 w2 (inr e) f = inr (add e.0 b, ap (λ (w : Value). sum w w2) e.1 ∙ ap (sum (Constant e.0)) f)
sum_shows (Difference p q k) (Symbolic r bt j) w1 w2 e f = tt
sum_shows (Difference p q k) (Difference r s j) w1 w2 e f = tt
sum_shows (Difference p q k) (Faulty d) w1 w2 e f = tt
sum_shows (Faulty c) (Constant b) w1 w2 e f = tt
sum_shows (Faulty c) (Symbolic r bt j) w1 w2 e f = tt
sum_shows (Faulty c) (Difference r s j) w1 w2 e f = tt
sum_shows (Faulty c) (Faulty d) w1 w2 e f = tt

difference_shows : (v1 v2 w1 w2 : Value) → Shows v1 w1 → Shows v2 w2 → Shows (difference v1 v2) (difference w1 w2)
difference_shows (Constant a) (Constant b) w1 w2 e f = ap (λ (w : Value). difference w w2) e ∙ ap (difference (Constant a)) f
difference_shows (Constant a) (Symbolic r bt j) w1 w2 e f = tt
difference_shows (Constant a) (Difference r s j) w1 w2 e f = tt
difference_shows (Constant a) (Faulty d) w1 w2 e f = tt
difference_shows (Symbolic p at k) (Constant b) w1 w2 e f = (e.0, e.1, ap (λ (w : Value). difference w w2) e.2 ∙ ap (difference (Symbolic p e.1 k)) f)
difference_shows (Symbolic p at k) (Symbolic r bt j) w1 w2 e f =
    let same : difference w1 w2 ≡ apart e.1 f.1 p r (subtract k j) = ap (λ (w : Value). difference w w2) e.2 ∙ ap (difference (Symbolic p e.1 k)) f.2 in
    subst (λ m. Shows (apart m bt p r (subtract k j)) (difference w1 w2)) (sym e.0)
    (subst (λ n. Shows (apart Open n p r (subtract k j)) (difference w1 w2)) (sym f.0)
    (taken_apart (difference w1 w2) (apart e.1 f.1 p r (subtract k j)) p r (subtract k j) same (apart_shown e.1 f.1 p r (subtract k j))))
difference_shows (Symbolic p at k) (Difference r s j) w1 w2 e f = tt
difference_shows (Symbolic p at k) (Faulty d) w1 w2 e f = tt
difference_shows (Difference p q k) (Constant b) w1 w2 (inl e) f = inl (ap (λ (w : Value). difference w w2) e ∙ ap (difference (Difference p q k)) f)
difference_shows (Difference p q k) (Constant b) w1 w2 (inr e) f = inr (subtract e.0 b, ap (λ (w : Value). difference w w2) e.1 ∙ ap (difference (Constant e.0)) f)
difference_shows (Difference p q k) (Symbolic r bt j) w1 w2 e f = tt
difference_shows (Difference p q k) (Difference r s j) w1 w2 e f = tt
difference_shows (Difference p q k) (Faulty d) w1 w2 e f = tt
difference_shows (Faulty c) (Constant b) w1 w2 e f = tt
difference_shows (Faulty c) (Symbolic r bt j) w1 w2 e f = tt
difference_shows (Faulty c) (Difference r s j) w1 w2 e f = tt
difference_shows (Faulty c) (Faulty d) w1 w2 e f = tt

constants_shows : (o : BinaryOperator) (v1 v2 w1 w2 : Value) → Shows v1 w1 → Shows v2 w2 → Shows (constants_alone o v1 v2) (constants_alone o w1 w2)
constants_shows o (Constant a) (Constant b) w1 w2 e f = plain_shows (arithmetic o a b) (constants_alone o w1 w2) (arithmetic_plain o a b) (ap (λ (w : Value). constants_alone o w w2) e ∙ ap (constants_alone o (Constant a)) f)
constants_shows o (Constant a) (Symbolic r bt j) w1 w2 e f = tt
constants_shows o (Constant a) (Difference r s j) w1 w2 e f = tt
constants_shows o (Constant a) (Faulty d) w1 w2 e f = tt
constants_shows o (Symbolic p at k) (Constant b) w1 w2 e f = tt
constants_shows o (Symbolic p at k) (Symbolic r bt j) w1 w2 e f = tt
constants_shows o (Symbolic p at k) (Difference r s j) w1 w2 e f = tt
constants_shows o (Symbolic p at k) (Faulty d) w1 w2 e f = tt
constants_shows o (Difference p q k) (Constant b) w1 w2 e f = tt
constants_shows o (Difference p q k) (Symbolic r bt j) w1 w2 e f = tt
constants_shows o (Difference p q k) (Difference r s j) w1 w2 e f = tt
constants_shows o (Difference p q k) (Faulty d) w1 w2 e f = tt
constants_shows o (Faulty c) (Constant b) w1 w2 e f = tt
constants_shows o (Faulty c) (Symbolic r bt j) w1 w2 e f = tt
constants_shows o (Faulty c) (Difference r s j) w1 w2 e f = tt
constants_shows o (Faulty c) (Faulty d) w1 w2 e f = tt

both_shows : (o : BinaryOperator) (v1 v2 w1 w2 : Value) → Shows v1 w1 → Shows v2 w2 → Shows (both o v1 v2) (both o w1 w2)
both_shows Add v1 v2 w1 w2 e f = sum_shows v1 v2 w1 w2 e f
both_shows Subtract v1 v2 w1 w2 e f = difference_shows v1 v2 w1 w2 e f
both_shows Multiply v1 v2 w1 w2 e f = constants_shows Multiply v1 v2 w1 w2 e f
both_shows Divide v1 v2 w1 w2 e f = constants_shows Divide v1 v2 w1 w2 e f
both_shows Remainder v1 v2 w1 w2 e f = constants_shows Remainder v1 v2 w1 w2 e f
both_shows ShiftLeft v1 v2 w1 w2 e f = constants_shows ShiftLeft v1 v2 w1 w2 e f
both_shows ShiftRight v1 v2 w1 w2 e f = constants_shows ShiftRight v1 v2 w1 w2 e f
both_shows Or v1 v2 w1 w2 e f = constants_shows Or v1 v2 w1 w2 e f
both_shows And v1 v2 w1 w2 e f = constants_shows And v1 v2 w1 w2 e f
both_shows ExclusiveOr v1 v2 w1 w2 e f = constants_shows ExclusiveOr v1 v2 w1 w2 e f

alone_shows : (o : UnaryOperator) (v w : Value) → Shows v w → Shows (unary_value o v) (unary_value o w)
alone_shows Keep v w e = e
alone_shows Negate (Constant a) w e = ap (unary_value Negate) e
alone_shows Negate (Symbolic p at k) w e = tt
alone_shows Negate (Difference p q k) w e = tt
alone_shows Negate (Faulty code) w e = tt
alone_shows Complement (Constant a) w e = ap (unary_value Complement) e
alone_shows Complement (Symbolic p at k) w e = tt
alone_shows Complement (Difference p q k) w e = tt
alone_shows Complement (Faulty code) w e = tt

value_shows : (t : Tables) (o : ℕ) (p : SectionOffset) → t.assignments ≡ [] → (e : Tree) → Shows (value_of open_meaning e) (value_by_tables t true o p e)
value_shows t o p none (Leaf (Literal number)) = refl
value_shows t o p none (Leaf (Symbol name)) =
    let found = symbolic_place (Symbol name) (named t true o name) (named_place t o name none) in
    (refl, found.0, found.1)
value_shows t o p none (Leaf Here) = tt
value_shows t o p none (Leaf (Reference digits forward)) = tt
value_shows t o p none (Unary op x) = alone_shows op (value_of open_meaning x) (value_by_tables t true o p x) (value_shows t o p none x)
value_shows t o p none (Paren x) = value_shows t o p none x
value_shows t o p none (Binary op x y) =
    both_shows op (value_of open_meaning x) (value_of open_meaning y) (value_by_tables t true o p x) (value_by_tables t true o p y) (value_shows t o p none x) (value_shows t o p none y)

shown_faults : (width : ℕ) (v w : Value) → is_difference v ≡ true → Shows v w → value_faults width w ≡ []
shown_faults width (Difference p q k) w h (inl e) = ap (value_faults width) e
shown_faults width (Difference p q k) w h (inr e) = ap (value_faults width) e.1
shown_faults width (Constant a) w h e = absurd (cc)
shown_faults width (Symbolic p at k) w h e = absurd (cc)
shown_faults width (Faulty code) w h e = absurd (cc)

pub distance_faults : (t : Tables) (o : ℕ) (p : SectionOffset) (width : ℕ) (e : Tree) → t.assignments ≡ [] → is_difference (value_of open_meaning e) ≡ true → value_faults width (value_by_tables t true o p e) ≡ []
distance_faults t o p width e none h = shown_faults width (value_of open_meaning e) (value_by_tables t true o p e) h (value_shows t o p none e)

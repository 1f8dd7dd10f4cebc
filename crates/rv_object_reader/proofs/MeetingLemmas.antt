-- Which relocations meet one that comes after them, by the stretches that they hold.

use Rattle.std.proofs.Common.{◌≡◌, ℕ, ◌+◌, ◌<◌, Bool, true, false, not, ◌&&◌, ◌||◌, nat_le, nat_lt, max, List, [], ◌∷◌, ◌++◌, refl, sym, ap, ◌∙◌, arith}
use Rattle.std.proofs.lemmas.Bool.{or_right}
use Rattle.std.specs.List.{list_any}
use Rattle.std.proofs.lemmas.Bool.Decides.{nat_tests}
use Rattle.rv_list_laws.proofs.TruthLemmas.{or_false}
use Rattle.rv_object_laws.specs.Object.{Relocation}
use Rattle.rv_object_laws.specs.Valid.{is_align, held, are_apart}
use Rattle.rv_object_reader.specs.Stretches.{ends_in, starts_in, holds_in, pads_in, fills_in, AreHeld}

-- ---- tests of lists

any_same : (f g : Relocation → Bool) (qs : List Relocation) → ((q : Relocation) → f q ≡ g q) → list_any f qs ≡ list_any g qs
any_same f g [] same = refl
any_same f g (q ∷ qs) same = rw (same q) (ap (λ r. g q || r) (any_same f g qs same))

or_apart : (x h a b : Bool) → ((x && h || not x && h) || (a || b)) ≡ ((x && h || a) || (not x && h || b))
or_apart true true a b = refl
or_apart true false true b = refl
or_apart true false false b = refl
or_apart false true true b = refl
or_apart false true false b = refl
or_apart false false a b = refl

any_split : (x h : Relocation → Bool) (qs : List Relocation) → list_any (λ q. x q && h q || not (x q) && h q) qs ≡ (list_any (λ q. x q && h q) qs || list_any (λ q. not (x q) && h q) qs)
any_split x h [] = refl
any_split x h (q ∷ qs) =
    ap (λ r. (x q && h q || not (x q) && h q) || r) (any_split x h qs)
    ∙ or_apart (x q) (h q) (list_any (λ q. x q && h q) qs) (list_any (λ q. not (x q) && h q) qs)

or_assoc : (a b c : Bool) → (a || (b || c)) ≡ ((a || b) || c)
or_assoc true b c = refl
or_assoc false b c = refl

any_last : (f : Relocation → Bool) (qs : List Relocation) (r : Relocation) → list_any f (qs ++ r ∷ []) ≡ (list_any f qs || f r)
any_last f [] r = or_false (f r)
any_last f (q ∷ qs) r = ap (λ b. f q || b) (any_last f qs r) ∙ or_assoc (f q) (list_any f qs) (f r)

-- ---- two relocations

numbers : (p h a n : ℕ) → 0 < n → not (nat_le (p + h) (max p a) || nat_le (a + n) (max p a)) ≡ (nat_lt 0 h && (nat_lt a (p + h) && nat_lt p (a + n)))
numbers p h a n some = grind (arith, nat_tests)

clash : (x y : Bool) (p h a n : ℕ) → 0 < n
    → not (not (x || y) || nat_le (p + h) (max p a) || nat_le (a + n) (max p a)) ≡ ((x || y) && (nat_lt 0 h && (nat_lt a (p + h) && nat_lt p (a + n))))
clash true y p h a n some = numbers p h a n some
clash false true p h a n some = numbers p h a n some
clash false false p h a n some = refl

-- what holds no bytes meets nothing
no_clash : (x y : Bool) (p h a : ℕ) → not (not (x || y) || nat_le (p + h) (max p a) || nat_le (a + 0) (max p a)) ≡ false
no_clash x y p h a = go (not (x || y)) (nat_le (p + h) (max p a)) (nat_le (a + 0) (max p a)) last where
  last : nat_le (a + 0) (max p a) ≡ true
  last = grind (arith, nat_tests)

  go : (u v w : Bool) → w ≡ true → not (u || v || w) ≡ false
  go true v w h = refl
  go false true w h = refl
  go false false w h = ap not h

either_kind : (x h : Bool) → ((x || true) && h) ≡ (x && h || not x && h)
either_kind true true = refl
either_kind true false = refl
either_kind false true = refl
either_kind false false = refl

same_kind : (x h : Bool) → ((x || false) && h) ≡ (x && h)
same_kind true h = refl
same_kind false h = refl

-- ---- one that comes after others

abbrev meets_any : Relocation → List Relocation → Bool
meets_any r before = list_any (λ q. not (are_apart q r)) before

padding_meets : (r : Relocation) (before : List Relocation) → is_align r.kind ≡ true → 0 < held r
    → meets_any r before ≡ (list_any (pads_in r.place (r.place + held r)) before || list_any (fills_in r.place (r.place + held r)) before)
padding_meets r before align some =
    any_same (λ q. not (are_apart q r)) (λ q. is_align q.kind && holds_in r.place (r.place + held r) q || not (is_align q.kind) && holds_in r.place (r.place + held r) q) before
    (λ q. clash (is_align q.kind) (is_align r.kind) q.place (held q) r.place (held r) some
    ∙ (ap (λ y. (is_align q.kind || y) && holds_in r.place (r.place + held r) q) align ∙ either_kind (is_align q.kind) (holds_in r.place (r.place + held r) q)))
    ∙ any_split (λ q. is_align q.kind) (holds_in r.place (r.place + held r)) before

field_meets : (r : Relocation) (before : List Relocation) → is_align r.kind ≡ false → 0 < held r
    → meets_any r before ≡ list_any (pads_in r.place (r.place + held r)) before
field_meets r before align some =
    any_same (λ q. not (are_apart q r)) (pads_in r.place (r.place + held r)) before
    (λ q. clash (is_align q.kind) (is_align r.kind) q.place (held q) r.place (held r) some
    ∙ (ap (λ y. (is_align q.kind || y) && holds_in r.place (r.place + held r) q) align ∙ same_kind (is_align q.kind) (holds_in r.place (r.place + held r) q)))

none_any : (before : List Relocation) → list_any (λ (q : Relocation). false) before ≡ false
none_any [] = refl
none_any (q ∷ qs) = none_any qs

nothing_meets : (r : Relocation) (before : List Relocation) → held r ≡ 0 → meets_any r before ≡ false
nothing_meets r before none =
    any_same (λ q. not (are_apart q r)) (λ q. false) before
    (λ q. rw none (no_clash (is_align q.kind) (is_align r.kind) q.place (held q) r.place))
    ∙ none_any before

behind : (a n : ℕ) → 0 < n → a < a + n
behind a n some = omega (arith, some)

module _ (p f : List (ℕ × ℕ)) (before : List Relocation) (r : Relocation) (hold : AreHeld p f before) where
  -- a padding before it is met
  pub meets_padding : (n : ℕ) → n ≡ held r → 0 < n → list_any (ends_in r.place (r.place + n)) p ≡ true → meets_any r before ≡ true
  meets_padding n same some h =
      let has : 0 < held r = rw same at some in
      let pads : list_any (pads_in r.place (r.place + held r)) before ≡ true =
      sym (hold.padded r.place (r.place + held r) (behind r.place (held r) has)) ∙ (rw same at h) in
      go (is_align r.kind) refl has pads
    where
      go : (b : Bool) → is_align r.kind ≡ b → 0 < held r → list_any (pads_in r.place (r.place + held r)) before ≡ true → meets_any r before ≡ true
      go true align has pads = padding_meets r before align has ∙ ap (λ b. b || list_any (fills_in r.place (r.place + held r)) before) pads
      go false align has pads = field_meets r before align has ∙ pads

  -- a padding meets a field before it
  pub meets_field : (n : ℕ) → n ≡ held r → 0 < n → is_align r.kind ≡ true → list_any (starts_in r.place (r.place + n)) f ≡ true → meets_any r before ≡ true
  meets_field n same some align h =
      let has : 0 < held r = rw same at some in
      let fills : list_any (fills_in r.place (r.place + held r)) before ≡ true =
      sym (hold.filled r.place (r.place + held r) (behind r.place (held r) has)) ∙ (rw same at h) in
      padding_meets r before align has ∙ or_right (list_any (pads_in r.place (r.place + held r)) before) (list_any (fills_in r.place (r.place + held r)) before) fills

  pub put_nothing : held r ≡ 0 → (meets_any r before ≡ false) × AreHeld p f (before ++ r ∷ [])
  put_nothing none = (
    nothing_meets r before none,
    record {
      padded = λ a b less. hold.padded a b less ∙ sym (any_last (pads_in a b) before r ∙ (ap (λ t. list_any (pads_in a b) before || t) (no_pad a b) ∙ or_false (list_any (pads_in a b) before)));
      filled = λ a b less. hold.filled a b less ∙ sym (any_last (fills_in a b) before r ∙ (ap (λ t. list_any (fills_in a b) before || t) (no_fill a b) ∙ or_false (list_any (fills_in a b) before)));
    },
  ) where
    not_both : (x : Bool) → (x && false) ≡ false
    not_both true = refl
    not_both false = refl

    holds_none : (a b : ℕ) → holds_in a b r ≡ false
    holds_none a b = rw none refl

    no_pad : (a b : ℕ) → pads_in a b r ≡ false
    no_pad a b = rw (holds_none a b) (not_both (is_align r.kind))

    no_fill : (a b : ℕ) → fills_in a b r ≡ false
    no_fill a b = rw (holds_none a b) (not_both (not (is_align r.kind)))

  pub put_field : (g : List (ℕ × ℕ)) (n : ℕ) → n ≡ held r → 0 < n → is_align r.kind ≡ false → list_any (ends_in r.place (r.place + n)) p ≡ false
      → ((a b : ℕ) → list_any (starts_in a b) g ≡ (starts_in a b (r.place, r.place + n) || list_any (starts_in a b) f))
      → (meets_any r before ≡ false) × AreHeld p g (before ++ r ∷ [])
  put_field g n same some align clear more = (
    field_meets r before align has ∙ none,
    record {
      padded = λ a b less. hold.padded a b less ∙ sym (any_last (pads_in a b) before r
          ∙ (ap (λ t. list_any (pads_in a b) before || (t && holds_in a b r)) align ∙ or_false (list_any (pads_in a b) before)));
      filled = λ a b less. more a b ∙ (swap (starts_in a b (r.place, r.place + n)) (list_any (starts_in a b) f)
          ∙ (ap (λ t. t || starts_in a b (r.place, r.place + n)) (hold.filled a b less)
          ∙ (ap (λ t. list_any (fills_in a b) before || t) (here a b) ∙ sym (any_last (fills_in a b) before r))));
    },
  ) where
    has : 0 < held r
    has = rw same at some

    none : list_any (pads_in r.place (r.place + held r)) before ≡ false
    none = sym (hold.padded r.place (r.place + held r) (behind r.place (held r) has)) ∙ (rw same at clear)

    swap : (x y : Bool) → (x || y) ≡ (y || x)
    swap true true = refl
    swap true false = refl
    swap false true = refl
    swap false false = refl

    turned : (x y z w : Bool) → x ≡ false → y ≡ true → (z && w) ≡ (not x && (y && (w && z)))
    turned false true true true h i = refl
    turned false true true false h i = refl
    turned false true false true h i = refl
    turned false true false false h i = refl
    turned true y z w h i = absurd (cc)
    turned false false z w h i = absurd (cc)

    here : (a b : ℕ) → starts_in a b (r.place, r.place + n) ≡ fills_in a b r
    here a b = ap (λ m. nat_lt r.place b && nat_lt a (r.place + m)) same
        ∙ turned (is_align r.kind) (nat_lt 0 (held r)) (nat_lt r.place b) (nat_lt a (r.place + held r)) align (grind (arith, nat_tests))

  pub put_padding : (g : List (ℕ × ℕ)) (n : ℕ) → n ≡ held r → 0 < n → is_align r.kind ≡ true
      → list_any (ends_in r.place (r.place + n)) p ≡ false → list_any (starts_in r.place (r.place + n)) f ≡ false
      → ((a b : ℕ) → list_any (ends_in a b) g ≡ (ends_in a b (r.place + n, r.place) || list_any (ends_in a b) p))
      → (meets_any r before ≡ false) × AreHeld g f (before ++ r ∷ [])
  put_padding g n same some align clear free more = (
    padding_meets r before align has ∙ neither _ _ none none_filled,
    record {
      padded = λ a b less. more a b ∙ (swap (ends_in a b (r.place + n, r.place)) (list_any (ends_in a b) p)
          ∙ (ap (λ t. t || ends_in a b (r.place + n, r.place)) (hold.padded a b less)
          ∙ (ap (λ t. list_any (pads_in a b) before || t) (here a b) ∙ sym (any_last (pads_in a b) before r))));
      filled = λ a b less. hold.filled a b less ∙ sym (any_last (fills_in a b) before r
          ∙ (ap (λ t. list_any (fills_in a b) before || (not t && holds_in a b r)) align ∙ or_false (list_any (fills_in a b) before)));
    },
  ) where
    has : 0 < held r
    has = rw same at some

    none : list_any (pads_in r.place (r.place + held r)) before ≡ false
    none = sym (hold.padded r.place (r.place + held r) (behind r.place (held r) has)) ∙ (rw same at clear)

    none_filled : list_any (fills_in r.place (r.place + held r)) before ≡ false
    none_filled = sym (hold.filled r.place (r.place + held r) (behind r.place (held r) has)) ∙ (rw same at free)

    neither : (x y : Bool) → x ≡ false → y ≡ false → (x || y) ≡ false
    neither false y h i = i
    neither true y h i = absurd (cc)

    swap : (x y : Bool) → (x || y) ≡ (y || x)
    swap true true = refl
    swap true false = refl
    swap false true = refl
    swap false false = refl

    turned : (x y z : Bool) → x ≡ true → y ≡ true → z ≡ (x && (y && z))
    turned true true z h i = refl
    turned false y z h i = absurd (cc)
    turned true false z h i = absurd (cc)

    here : (a b : ℕ) → ends_in a b (r.place + n, r.place) ≡ pads_in a b r
    here a b = ap (λ m. nat_lt a (r.place + m) && nat_lt r.place b) same
        ∙ turned (is_align r.kind) (nat_lt 0 (held r)) (nat_lt a (r.place + held r) && nat_lt r.place b) align (grind (arith, nat_tests))

-- other stretches that answer the same are as good
pub held_by : (p f g : List (ℕ × ℕ)) (before : List Relocation) → AreHeld p f before
    → ((a b : ℕ) → list_any (starts_in a b) g ≡ list_any (starts_in a b) f) → AreHeld p g before
held_by p f g before hold same = record {
  padded = hold.padded;
  filled = λ a b less. same a b ∙ hold.filled a b less;
}

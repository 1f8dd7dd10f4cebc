-- One object for each of a list of texts or files, and the first of them that has none.

use Rattle.std.proofs.Common.{◌≡◌, ℕ, suc, List, [], ◌∷◌, ◌++◌, length, refl, sym, ap, subst, ◌∙◌}
use Rattle.std.specs.List.{AllByRecursion}
use Rattle.rv_object_laws.specs.Object.{Object}
use Rattle.rv_chain_laws.specs.Objects.{AreEach}

-- ---- one of each

pub same_each : (Is : List ℕ → Object → Type 0) → ((bytes : List ℕ) (o p : Object) → Is bytes o → Is bytes p → o ≡ p)
    → (all : List (List ℕ)) (os ps : List Object) → AreEach Is all os → AreEach Is all ps → os ≡ ps
same_each Is one [] [] [] h k = refl
same_each Is one [] [] (p ∷ ps) h k = absurd k
same_each Is one [] (o ∷ os) ps h k = absurd h
same_each Is one (b ∷ all) [] ps h k = absurd h
same_each Is one (b ∷ all) (o ∷ os) [] h k = absurd k
same_each Is one (b ∷ all) (o ∷ os) (p ∷ ps) (h, hs) (k, ks) =
    ap (λ z. z ∷ os) (one b o p h k) ∙ ap (λ l. p ∷ l) (same_each Is one all os ps hs ks)

pub count_each : (Is : List ℕ → Object → Type 0) (all : List (List ℕ)) (os : List Object) → AreEach Is all os → length all ≡ length os
count_each Is [] [] h = refl
count_each Is [] (o ∷ os) h = absurd h
count_each Is (b ∷ all) [] h = absurd h
count_each Is (b ∷ all) (o ∷ os) (h, hs) = ap suc (count_each Is all os hs)

pub in_middle : (Is : List ℕ → Object → Type 0) (before : List (List ℕ)) (bytes : List ℕ) (after : List (List ℕ)) (os : List Object) → AreEach Is (before ++ bytes ∷ after) os
    → (o : Object) × Is bytes o
in_middle Is [] bytes after [] h = absurd h
in_middle Is [] bytes after (o ∷ os) (h, hs) = (o, h)
in_middle Is (b ∷ before) bytes after [] h = absurd h
in_middle Is (b ∷ before) bytes after (o ∷ os) (h, hs) = in_middle Is before bytes after os hs

-- what holds of each one's object
pub all_each : (Is : List ℕ → Object → Type 0) (P : Object → Type 0) → ((bytes : List ℕ) (o : Object) → Is bytes o → P o)
    → (all : List (List ℕ)) (os : List Object) → AreEach Is all os → AllByRecursion P os
all_each Is P f [] [] h = tt
all_each Is P f [] (o ∷ os) h = absurd h
all_each Is P f (b ∷ all) [] h = absurd h
all_each Is P f (b ∷ all) (o ∷ os) (h, hs) = (f b o h, all_each Is P f all os hs)

-- each has one
pub each_has : (Is : List ℕ → Object → Type 0) (all : List (List ℕ)) (os : List Object) → AreEach Is all os → AllByRecursion (λ bytes. (o : Object) × Is bytes o) all
each_has Is [] [] h = tt
each_has Is [] (o ∷ os) h = absurd h
each_has Is (b ∷ all) [] h = absurd h
each_has Is (b ∷ all) (o ∷ os) (h, hs) = ((o, h), each_has Is all os hs)

-- ---- the first that is not good

cons_parts : (x y : List ℕ) (xs ys : List (List ℕ)) → x ∷ xs ≡ y ∷ ys → (x ≡ y) × (xs ≡ ys)
cons_parts x y xs ys e = (cc, cc)

pub one_first : (Good : List ℕ → Type 0) (b c : List (List ℕ)) (x y : List ℕ) (d e : List (List ℕ)) → b ++ x ∷ d ≡ c ++ y ∷ e
    → AllByRecursion Good b → AllByRecursion Good c → (Good x → ⊥) → (Good y → ⊥) → (length b ≡ length c) × (x ≡ y)
one_first Good [] [] x y d e is h k p q = (refl, (cons_parts x y d e is).0)
one_first Good [] (f ∷ c) x y d e is h (k, ks) p q = absurd (p (subst Good (sym (cons_parts x f d (c ++ y ∷ e) is).0) k))
one_first Good (f ∷ b) [] x y d e is (h, hs) k p q = absurd (q (subst Good (cons_parts f y (b ++ x ∷ d) e is).0 h))
one_first Good (f ∷ b) (g ∷ c) x y d e is (h, hs) (k, ks) p q =
    let rest = one_first Good b c x y d e (cons_parts f g (b ++ x ∷ d) (c ++ y ∷ e) is).1 hs ks p q in
    (ap suc rest.0, rest.1)

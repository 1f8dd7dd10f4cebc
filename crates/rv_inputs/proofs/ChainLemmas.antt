-- The chains of offers: one offer more, and that a chain leads to each offer of its name.

use Rattle.std.proofs.Common.{◌≡◌, ◌⊎◌, inl, inr, ℕ, zero, suc, ◌+◌, ◌<◌, ◌≤◌, Bool, true, false, cond, List, [], ◌∷◌, ◌++◌, length, map, take, get_or, Option, Some, None, refl, sym, ap, subst, ◌∙◌, arith}
use Rattle.std.specs.Prelude.{bytes_eq, option_and_then, is_some, IfSome}
use Rattle.std.specs.Option.{option_copied}
use Rattle.std.specs.Borrow.{Bor}
use Rattle.std.specs.BTreeMap.{BTreeMap, get_by}
use Rattle.std.specs.BTreeSet.{BTreeSet, contains}
use Rattle.std.specs.Cmp.Lexicographic.{slice_cmp}
use Rattle.std.specs.List.{slice_get}
use Rattle.std.specs.Ordering.{nat_cmp}
use Rattle.std.proofs.lemmas.Bool.{true≢false}
use Rattle.std.proofs.lemmas.List.{take_all, take-append-le, length-append, length-map, length-take-le, map-append}
use Rattle.std.proofs.lemmas.Slice.Eq.{bytes_eq-Decides}
use Rattle.rv_list_laws.proofs.ElementsLemmas.{same_bytes, get_front, get_last, get_index_or, get_some}
use Rattle.rv_list_laws.proofs.MapLemmas.{get_map}
use Rattle.rv_list_laws.proofs.TakeDropLemmas.{take_next}
use Rattle.rv_inputs.specs.declared.offer.Offer.{Offer}
use Rattle.rv_inputs.specs.Chain.{Falls, IsLastOf, AreChainsBy}
use Rattle.rv_inputs.specs.Naming.{offer_name}

-- ---- an item of a list that grew

-- it stood before, or is the new one
pub get_grown : {X : Type 0} (xs : List X) (y : X) (i : ℕ) (x : X) → slice_get (xs ++ y ∷ []) i ≡ Some x → (slice_get xs i ≡ Some x) ⊎ ((i ≡ length xs) × (x ≡ y))
get_grown [] y zero x is = let same : y ≡ x = cc in inr (refl, sym same)
get_grown [] y (suc i) x is = cc
get_grown (z ∷ zs) y zero x is = inl is
get_grown (z ∷ zs) y (suc i) x is =
    elim (get_grown zs y i x is) [
      | inl before ↦ inl before
      | inr new ↦ inr (omega (arith, new.0), new.1)
    ]

pub get_inside : {X : Type 0} (xs : List X) (i : ℕ) (x : X) → slice_get xs i ≡ Some x → i < length xs
get_inside [] i x is = cc
get_inside (y ∷ ys) zero x is = omega arith
get_inside (y ∷ ys) (suc i) x is = let rest = get_inside ys i x is in omega (arith, rest)

nat_cases : (j i : ℕ) → j ≤ i → (j < i) ⊎ (j ≡ i)
nat_cases zero zero le = inr refl
nat_cases zero (suc i) le = inl (omega arith)
nat_cases (suc j) zero le = absurd (omega (arith, le))
nat_cases (suc j) (suc i) le =
    elim (nat_cases j i (omega (arith, le))) [
      | inl less ↦ inl (omega (arith, less))
      | inr same ↦ inr (ap (λ n. suc n) same)
    ]

bytes_same : (a b : List ℕ) → a ≡ b → bytes_eq a b ≡ true
bytes_same a b same = (bytes_eq-Decides a b).1 same

-- ---- the last place of a name

-- an item of another name changes nothing
last_other : (names : List (Option (List ℕ))) (n : Option (List ℕ)) (name : List ℕ) (r : Option ℕ) → (n ≡ Some name → ⊥) → IsLastOf names name r → IsLastOf (names ++ n ∷ []) name r
last_other names n name None other is = λ j here.
    elim (get_grown names n j (Some name) here) [
      | inl before ↦ is j before
      | inr new ↦ other (sym new.1)
    ]
last_other names n name (Some i) other is = (
  get_front names (n ∷ []) i (Some name) is.0,
  λ j here.
      elim (get_grown names n j (Some name) here) [
        | inl before ↦ is.1 j before
        | inr new ↦ absurd (other (sym new.1))
      ],
)

last_new : (names : List (Option (List ℕ))) (name : List ℕ) → IsLastOf (names ++ Some name ∷ []) name (Some (length names))
last_new names name = (
  get_last names (Some name),
  λ j here.
      elim (get_grown names (Some name) j (Some name) here) [
        | inl before ↦ let within = get_inside names j (Some name) before in omega (arith, within)
        | inr new ↦ omega (arith, new.0)
      ],
)

-- ---- one offer more

grown_alike : {X Y : Type 0} (xs : List X) (ys : List Y) (x : X) (y : Y) → length xs ≡ length ys → length (xs ++ x ∷ []) ≡ length (ys ++ y ∷ [])
grown_alike xs ys x y long = omega (arith, length-append xs (x ∷ []), length-append ys (y ∷ []), long)

front_same : (names : List (Option (List ℕ))) (n : Option (List ℕ)) (i : ℕ) → i ≤ length names → take i (names ++ n ∷ []) ≡ take i names
front_same names n i le = take-append-le i names (n ∷ []) le

module _ (old new : BTreeMap (Bor (List ℕ)) ℕ) (links : List (Option ℕ)) (names : List (Option (List ℕ))) (chains : AreChainsBy old links names) where
  abbrev found : BTreeMap (Bor (List ℕ)) ℕ → List ℕ → Option ℕ
  found m name = get_by (λ (k : Bor (List ℕ)). slice_cmp nat_cmp name k.now) m

  leads_more : (n : Option (List ℕ)) (before : Option ℕ) → ((name : List ℕ) → n ≡ Some name → IsLastOf names name before)
      → (i : ℕ) (name : List ℕ) (link : Option ℕ) → slice_get (names ++ n ∷ []) i ≡ Some (Some name) → slice_get (links ++ before ∷ []) i ≡ Some link → IsLastOf (take i (names ++ n ∷ [])) name link
  leads_more n before is i name link here there =
      elim (get_grown names n i (Some name) here) [
        | inl stood ↦
            let within = get_inside names i (Some name) stood in
            let same : slice_get links i ≡ Some link =
            elim (get_grown links before i link there) [ inl kept ↦ kept | inr grown ↦ absurd (omega (arith, within, grown.0, chains.long)) ] in
            subst (λ xs. IsLastOf xs name link) (sym (front_same names n i (omega (arith, within)))) (chains.leads i name link stood same)
        | inr new ↦
            let same : link ≡ before =
            elim (get_grown links before i link there) [ inl kept ↦ (let within = get_inside links i link kept in absurd (omega (arith, within, new.0, chains.long))) | inr grown ↦ grown.1 ] in
            let all : take i (names ++ n ∷ []) ≡ names = front_same names n i (omega (arith, new.0)) ∙ take_all i names (omega (arith, new.0)) in
            subst (λ xs. IsLastOf xs name link) (sym all) (subst (IsLastOf names name) (sym same) (is name (sym new.1)))
      ]

  -- an offer without a name
  pub chains_nameless : AreChainsBy old (links ++ None ∷ []) (names ++ None ∷ [])
  chains_nameless = record {
    ends = λ name. last_other names None name (found old name) (λ is. cc) (chains.ends name);
    leads = leads_more None None (λ name is. cc);
    long = grown_alike links names None None chains.long;
  }

  ends_by : (name q : List ℕ) (t : Bool) → bytes_eq name q ≡ t → found new q ≡ cond t (Some (length names)) (found old q) → IsLastOf (names ++ Some name ∷ []) q (found new q)
  ends_by name q true same now =
      let is = same_bytes name q same in
      subst (IsLastOf (names ++ Some name ∷ []) q) (sym now) (subst (λ x. IsLastOf (names ++ Some name ∷ []) x (Some (length names))) is (last_new names name))
  ends_by name q false same now =
      subst (IsLastOf (names ++ Some name ∷ []) q) (sym now)
      (last_other names (Some name) q (found old q) (λ is. let both : name ≡ q = cc in true≢false (sym (bytes_same name q both) ∙ same)) (chains.ends q))

  -- an offer of a name
  pub chains_named : (name : List ℕ) (before : Option ℕ) → before ≡ found old name
      → ((q : List ℕ) → found new q ≡ cond (bytes_eq name q) (Some (length names)) (found old q)) → AreChainsBy new (links ++ before ∷ []) (names ++ Some name ∷ [])
  chains_named name before was now = record {
    ends = λ q. ends_by name q (bytes_eq name q) refl (now q);
    leads = leads_more (Some name) before (λ q is. let same : name ≡ q = cc in subst (λ x. IsLastOf names x before) same (subst (IsLastOf names name) (sym was) (chains.ends name)));
    long = grown_alike links names before (Some name) chains.long;
  }

-- ---- along a chain

-- it stands no later than this one
abbrev pub IsUpTo : Option ℕ → ℕ → Type 0
IsUpTo None j = ⊥
IsUpTo (Some i) j = j ≤ i

-- the offers of a name are asked for, or stand up to this one
abbrev pub CoversTo : BTreeSet ℕ → List (Option (List ℕ)) → List ℕ → Option ℕ → Type 0
CoversTo s names name at = (j : ℕ) → slice_get names j ≡ Some (Some name) → (contains nat_cmp s j ≡ true) ⊎ IsUpTo at j

-- this one has the name
abbrev pub HasIt : List (Option (List ℕ)) → List ℕ → Option ℕ → Type 0
HasIt names name None = Unit {0}
HasIt names name (Some i) = slice_get names i ≡ Some (Some name)

pub covers_first : (s : BTreeSet ℕ) (names : List (Option (List ℕ))) (name : List ℕ) (r : Option ℕ) → IsLastOf names name r → CoversTo s names name r × HasIt names name r
covers_first s names name None last = ((λ j here. absurd (last j here)), tt)
covers_first s names name (Some i) last = ((λ j here. inr (last.1 j here)), last.0)

get_taken : {X : Type 0} (xs : List X) (i j : ℕ) → j < i → slice_get (take i xs) j ≡ slice_get xs j
get_taken [] zero j less = refl
get_taken [] (suc i) j less = refl
get_taken (x ∷ xs) zero j less = absurd (omega (arith, less))
get_taken (x ∷ xs) (suc i) zero less = refl
get_taken (x ∷ xs) (suc i) (suc j) less = get_taken xs i j (omega (arith, less))

taken_gets : {X : Type 0} (xs : List X) (i j : ℕ) (x : X) → slice_get (take i xs) j ≡ Some x → slice_get xs j ≡ Some x
taken_gets [] zero j x is = is
taken_gets [] (suc i) j x is = is
taken_gets (y ∷ ys) zero j x is = cc
taken_gets (y ∷ ys) (suc i) zero x is = is
taken_gets (y ∷ ys) (suc i) (suc j) x is = taken_gets ys i j x is

covers_by : (s new : BTreeSet ℕ) (names : List (Option (List ℕ))) (name : List ℕ) (i : ℕ) (link : Option ℕ) → ((j : ℕ) → contains nat_cmp s j ≡ true → contains nat_cmp new j ≡ true) → contains nat_cmp new i ≡ true
    → IsLastOf (take i names) name link → CoversTo s names name (Some i) → CoversTo new names name link
covers_by s new names name i None kept added last covers = λ j here.
    elim (covers j here) [
      | inl in_set ↦ inl (kept j in_set)
      | inr up ↦
          elim (nat_cases j i up) [
            | inl less ↦ absurd (last j (get_taken names i j less ∙ here))
            | inr same ↦ inl (subst (λ x. contains nat_cmp new x ≡ true) (sym same) added)
          ]
    ]
covers_by s new names name i (Some b) kept added last covers = λ j here.
    elim (covers j here) [
      | inl in_set ↦ inl (kept j in_set)
      | inr up ↦
          elim (nat_cases j i up) [
            | inl less ↦ inr (last.1 j (get_taken names i j less ∙ here))
            | inr same ↦ inl (subst (λ x. contains nat_cmp new x ≡ true) (sym same) added)
          ]
    ]

has_by : (names : List (Option (List ℕ))) (name : List ℕ) (i : ℕ) (link : Option ℕ) → IsLastOf (take i names) name link → HasIt names name link
has_by names name i None last = tt
has_by names name i (Some b) last = taken_gets names i b (Some name) last.0

-- one step along the chain
pub covers_more : (s new : BTreeSet ℕ) (last : BTreeMap (Bor (List ℕ)) ℕ) (links : List (Option ℕ)) (names : List (Option (List ℕ))) (name : List ℕ) (i : ℕ) → AreChainsBy last links names
    → ((j : ℕ) → contains nat_cmp s j ≡ true → contains nat_cmp new j ≡ true) → contains nat_cmp new i ≡ true
    → CoversTo s names name (Some i) → HasIt names name (Some i)
    → CoversTo new names name (option_and_then (λ b. b) (slice_get links i)) × HasIt names name (option_and_then (λ b. b) (slice_get links i))
covers_more s new last links names name i chains kept added covers has =
    let within = get_inside names i (Some name) has in
    let link = get_some links i (omega (arith, within, chains.long)) in
    let is = chains.leads i name link.0 has link.1 in
    subst (λ r. CoversTo new names name (option_and_then (λ b. b) r) × HasIt names name (option_and_then (λ b. b) r)) (sym link.1)
    (covers_by s new names name i link.0 kept added is covers, has_by names name i link.0 is)

-- a bound on the steps that are left
abbrev pub steps_left : Option ℕ → ℕ
steps_left (Some i) = suc i
steps_left None = 0

-- ---- the chains of offers one by one

last_below : (names : List (Option (List ℕ))) (name : List ℕ) (r : Option ℕ) (i : ℕ) → length names ≡ i → IsLastOf names name r → IfSome r (λ b. b < i)
last_below names name None i long last = tt
last_below names name (Some b) i long last = let within = get_inside names b (Some name) last.0 in omega (arith, within, long)

module _ (old new : BTreeMap (Bor (List ℕ)) ℕ) (i : ℕ) (links : List (Option ℕ)) (names : List (Option (List ℕ))) (long : length names ≡ i) (chains : AreChainsBy old links names) where
  pub put_named : (name : List ℕ) (n : Option (List ℕ)) (before : Option ℕ) → n ≡ Some name → before ≡ get_by (λ (k : Bor (List ℕ)). slice_cmp nat_cmp name k.now) old
      → ((q : List ℕ) → get_by (λ (k : Bor (List ℕ)). slice_cmp nat_cmp q k.now) new ≡ cond (bytes_eq name q) (Some i) (get_by (λ (k : Bor (List ℕ)). slice_cmp nat_cmp q k.now) old))
      → AreChainsBy new (links ++ before ∷ []) (names ++ n ∷ [])
  put_named name n before is was now =
      subst (λ m. AreChainsBy new (links ++ before ∷ []) (names ++ m ∷ [])) (sym is)
      (chains_named old new links names chains name before was
      (λ q. now q ∙ ap (λ k. cond (bytes_eq name q) (Some k) (get_by (λ (k : Bor (List ℕ)). slice_cmp nat_cmp q k.now) old)) (sym long)))

  pub put_nameless : (n : Option (List ℕ)) → n ≡ None → AreChainsBy old (links ++ None ∷ []) (names ++ n ∷ [])
  put_nameless n is = subst (λ m. AreChainsBy old (links ++ None ∷ []) (names ++ m ∷ [])) (sym is) (chains_nameless old old links names chains)

  pub put_below : (name : List ℕ) (before : Option ℕ) → before ≡ get_by (λ (k : Bor (List ℕ)). slice_cmp nat_cmp name k.now) old → IfSome before (λ b. b < i)
  put_below name before was = subst (λ r. IfSome r (λ b. b < i)) (sym was) (last_below names name _ i long (chains.ends name))

falls_by : (links : List (Option ℕ)) (before : Option ℕ) → Falls links → IfSome before (λ b. b < length links) → Falls (links ++ before ∷ [])
falls_by links before falls below = λ i b here.
    elim (get_grown links before i (Some b) here) [
      | inl stood ↦ falls i b stood
      | inr new ↦
          let under : b < length links = subst (λ (r : Option ℕ). IfSome r (λ x. x < length links)) (sym new.1) below in
          omega (arith, under, new.0)
    ]

pub falls_more : (links new : List (Option ℕ)) (before : Option ℕ) (i : ℕ) → new ≡ links ++ before ∷ [] → length links ≡ i → Falls links → IfSome before (λ b. b < i) → Falls new
falls_more links new before i is long falls below = subst Falls (sym is) (falls_by links before falls (subst (λ n. IfSome before (λ b. b < n)) (sym long) below))

-- the names of the offers so far, and one more
pub names_more : {X : Type 0} (name : X → Option (List ℕ)) (xs : List X) (i : ℕ) (d : X) → i < length xs → map name (take (i + 1) xs) ≡ map name (take i xs) ++ name (get_or xs i d) ∷ []
names_more name xs i d less =
    ap (map name) (take_next xs i (get_or xs i d) (get_index_or xs i d less)) ∙ map-append name (take i xs) (get_or xs i d ∷ [])

pub names_long : {X : Type 0} (name : X → Option (List ℕ)) (xs : List X) (i : ℕ) → i ≤ length xs → length (map name (take i xs)) ≡ i
names_long name xs i le = length-map (take i xs) name ∙ length-take-le i xs le

pub chains_step : (last : BTreeMap (Bor (List ℕ)) ℕ) (links new : List (Option ℕ)) (before : Option ℕ) (xs : List Offer) (i : ℕ) (d : Offer) → i < length xs → new ≡ links ++ before ∷ []
    → AreChainsBy last (links ++ before ∷ []) (map offer_name (take i xs) ++ offer_name (get_or xs i d) ∷ []) → AreChainsBy last new (map offer_name (take (i + 1) xs))
chains_step last links new before xs i d less is chains =
    subst (λ ls. AreChainsBy last ls (map offer_name (take (i + 1) xs))) (sym is)
    (subst (AreChainsBy last (links ++ before ∷ [])) (sym (names_more offer_name xs i d less)) chains)

-- ---- offers without a name

named_by : (o : Option (Bor (List ℕ))) (b : Bool) → b ≡ is_some o → b ≡ true → Some (option_copied o) ≡ Some None → ⊥
named_by None b is yes_it none = true≢false (sym yes_it ∙ is)
named_by (Some name) b is yes_it none = cc

pub named_not_none : (xs : List Offer) (i : ℕ) (d : Offer) (j : ℕ) (s : BTreeSet ℕ) → i < length xs → j < i + 1 → slice_get (map offer_name xs) j ≡ Some None → (b : Bool)
    → b ≡ is_some (get_or xs i d).name → b ≡ true → (j < i → slice_get (map offer_name xs) j ≡ Some None → contains nat_cmp s j ≡ true) → contains nat_cmp s j ≡ true
named_not_none xs i d j s less bound here b is yes_it before =
    elim (nat_cases j i (omega (arith, bound))) [
      | inl low ↦ before low here
      | inr same ↦
          let there : slice_get (map offer_name xs) i ≡ Some (offer_name (get_or xs i d)) = get_map offer_name xs i (get_or xs i d) (get_index_or xs i d less) in
          absurd (named_by (get_or xs i d).name b is yes_it (sym there ∙ subst (λ n. slice_get (map offer_name xs) n ≡ Some None) same here))
    ]

fall_by : (links : List (Option ℕ)) (i : ℕ) (r : Option (Option ℕ)) → Falls links → slice_get links i ≡ r → steps_left (option_and_then (λ b. b) r) < suc i
fall_by links i None falls is = omega arith
fall_by links i (Some None) falls is = omega arith
fall_by links i (Some (Some b)) falls is = let below = falls i b is in omega (arith, below)

pub steps_fall : (links : List (Option ℕ)) (i : ℕ) → Falls links → steps_left (option_and_then (λ b. b) (slice_get links i)) < suc i
steps_fall links i falls = fall_by links i (slice_get links i) falls refl

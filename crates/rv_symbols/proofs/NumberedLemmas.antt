-- The symbols that stand for uses: names that are left undefined, and places without names.

use Rattle.std.proofs.Common.{◌≡◌, ℕ, zero, suc, ◌+◌, ◌<◌, Bool, true, false, cond, List, [], ◌∷◌, ◌++◌, length, map, drop, refl, sym, ap, ◌∙◌, subst, arith, append_assoc, inl, inr, Option, Some, None}
use Rattle.std.specs.Prelude.{◌⊎◌, ◌||◌, not, flat_map, position, slice_get, unwrap_or, if◌then◌else◌}
use Rattle.std.specs.List.{list_any, position_or_len}
use Rattle.std.specs.Str.{bytes_eq}
use Rattle.std.proofs.lemmas.Bool.{lt-ltb, or_right, or_left}
use Rattle.rv_list_laws.proofs.ElementsLemmas.{same_bytes, bytes_eq_swap, get_behind}
use Rattle.rv_list_laws.proofs.TestsLemmas.{any_left, any_right}
use Rattle.rv_list_laws.proofs.TakeDropLemmas.{drop_get}
use Rattle.rv_list_laws.proofs.MapLemmas.{get_map}
use Rattle.rv_map_laws.specs.Globals.{is_one_of}
use Rattle.rv_expression_laws.specs.Expression.{Symbol as Named}
use Rattle.rv_statement_laws.specs.declared.directive.Binding.{Binding}
use Rattle.rv_statement_laws.specs.declared.directive.Binding.TheVariants.{Local, Global, Weak}
use Rattle.rv_unit_laws.specs.Bindings as source
use Rattle.rv_unit_laws.specs.Tables as laws
use Rattle.rv_unit_laws.specs.Tables.{Tables}
use Rattle.rv_unit_laws.proofs.FoundLemmas.{bytes_same}
use Rattle.rv_object_laws.specs.declared.symbol.Definition.TheVariants.{Undefined}
use Rattle.rv_object_laws.specs.Object.{Symbol}
use Rattle.rv_assemble_laws.specs.LaidStatements.{LaidStatement}
use Rattle.rv_object_laws.specs.Bindings.{is_weak}
use Rattle.rv_assemble_laws.specs.Symbols.{SymbolUse, references, outer_binding, shared_symbol, local_symbols, exports, missing_name, distinct_from, symbols_of, IsDefinedBy, StandsFor}
use Rattle.rv_symbols.specs.Numbers.{last_from, last_index, own_symbols, missing_names, number_by, numbering_in}

-- ---- look-ups in lists

-- an element at an index passes
abbrev pub Has : {X : Type 0} → List X → (X → Bool) → Option ℕ → Type 0
Has {X} xs p found = (k : ℕ) × (x : X) × (found ≡ Some k) × (slice_get xs k ≡ Some x) × (p x ≡ true)

last_has : (all : List Symbol) (p : Symbol → Bool) (i : ℕ) (xs : List Symbol) (found : Option ℕ) → drop i all ≡ xs → Has all p found ⊎ (list_any p xs ≡ true) → Has all p (last_from i p xs found)
last_has all p i [] found e (inl h) = h
last_has all p i [] found e (inr h) = absurd (cc)
last_has all p i (x ∷ xs) found e h = go (p x) refl (last_has all p (suc i) xs (Some i) (drop_get all i x xs e).1) (last_has all p (suc i) xs found (drop_get all i x xs e).1) h
  where
    go : (b : Bool) → p x ≡ b → (Has all p (Some i) ⊎ (list_any p xs ≡ true) → Has all p (last_from (suc i) p xs (Some i)))
        → (Has all p found ⊎ (list_any p xs ≡ true) → Has all p (last_from (suc i) p xs found)) → Has all p found ⊎ ((b || list_any p xs) ≡ true)
        → Has all p (last_from (suc i) p xs (if b then Some i else found))
    go true f these other h = these (inl (i, x, refl, (drop_get all i x xs e).0, f))
    go false f these other h = other h

pub got_last : (p : Symbol → Bool) (xs : List Symbol) → list_any p xs ≡ true → (x : Symbol) × (slice_get xs (unwrap_or (last_index p xs) 0) ≡ Some x) × (p x ≡ true)
got_last p xs e =
    let h = last_has xs p 0 xs None refl (inr e) in
    (h.1, ap (λ o. slice_get xs (unwrap_or o 0)) h.2 ∙ h.3, h.4)

-- ---- bindings

-- a symbol that other files can mean is weak where its name is
pub shared_weak : (b : Binding) → is_weak (outer_binding b) ≡ source.is_weak b
shared_weak Local = refl
shared_weak Global = refl
shared_weak Weak = refl

-- ---- names that are left undefined

one_more : (p : List ℕ → Bool) (xs : List (List ℕ)) → list_any p xs ≡ true → (n : List ℕ) × (position_or_len p xs < length xs) × (slice_get xs (position_or_len p xs) ≡ Some n) × (p n ≡ true)
one_more p [] e = absurd (cc)
one_more p (x ∷ xs) e = go (p x) refl e (one_more p xs)
  where
    go : (b : Bool) → p x ≡ b → (b || list_any p xs) ≡ true → (list_any p xs ≡ true → (n : List ℕ) × (position_or_len p xs < length xs) × (slice_get xs (position_or_len p xs) ≡ Some n) × (p n ≡ true))
        → (n : List ℕ) × (cond (not b) (1 + position_or_len p xs) 0 < length (x ∷ xs)) × (slice_get (x ∷ xs) (cond (not b) (1 + position_or_len p xs) 0) ≡ Some n) × (p n ≡ true)
    go true f h ih = (x, omega arith, refl, f)
    go false f h ih =
        let r = ih h in
        let less : position_or_len p xs < length xs = r.1 in
        (r.0, omega arith, ap (slice_get (x ∷ xs)) (let m : 1 + position_or_len p xs ≡ suc (position_or_len p xs) = omega arith in m) ∙ r.2, r.3)

position_has : (p : List ℕ → Bool) (xs : List (List ℕ)) → list_any p xs ≡ true → (n : List ℕ) × (slice_get xs (unwrap_or (position p xs) 0) ≡ Some n) × (p n ≡ true)
position_has p xs e =
    let r = one_more p xs e in
    (r.0, ap (λ b. slice_get xs (unwrap_or (cond b (Some (position_or_len p xs)) None) 0)) (lt-ltb (position_or_len p xs) (length xs) r.1) ∙ r.2, r.3)

distinct_has : (before names : List (List ℕ)) (n : List ℕ) → is_one_of names n ≡ true → is_one_of before n ≡ false → is_one_of (distinct_from before names) n ≡ true
distinct_has before [] n e f = absurd (cc)
distinct_has before (x ∷ xs) n e f = go (is_one_of before x) refl (bytes_eq x n) refl e (distinct_has before xs n) (distinct_has (x ∷ before) xs n)
  where
    go : (b : Bool) → is_one_of before x ≡ b → (c : Bool) → bytes_eq x n ≡ c → (c || is_one_of xs n) ≡ true → (is_one_of xs n ≡ true → is_one_of before n ≡ false → is_one_of (distinct_from before xs) n ≡ true)
        → (is_one_of xs n ≡ true → (bytes_eq x n || is_one_of before n) ≡ false → is_one_of (distinct_from (x ∷ before) xs) n ≡ true)
        → is_one_of (if b then distinct_from before xs else x ∷ distinct_from (x ∷ before) xs) n ≡ true
    go true g true h e one two = absurd (let s : is_one_of before n ≡ true = ap (is_one_of before) (sym (same_bytes x n h)) ∙ g in cc)
    go true g false h e one two = one e f
    go false g true h e one two = or_left (bytes_eq x n) _ h
    go false g false h e one two = or_right (bytes_eq x n) _ (two e (ap (λ y. y || is_one_of before n) h ∙ f))

any_flat : (f : SymbolUse → List (List ℕ)) (rs : List SymbolUse) (i : ℕ) (r : SymbolUse) (n : List ℕ) → slice_get rs i ≡ Some r → is_one_of (f r) n ≡ true → is_one_of (flat_map f rs) n ≡ true
any_flat f [] zero r n e h = absurd (cc)
any_flat f [] (suc i) r n e h = absurd (cc)
any_flat f (q ∷ qs) zero r n e h =
    let same : q ≡ r = cc in
    any_left (λ m. bytes_eq m n) (f q) (flat_map f qs) (ap (λ y. is_one_of (f y) n) same ∙ h)
any_flat f (q ∷ qs) (suc i) r n e h = any_right (λ m. bytes_eq m n) (f q) (flat_map f qs) (any_flat f qs i r n e h)

swap_any : (n : List ℕ) (xs : List (List ℕ)) → is_one_of xs n ≡ true → list_any (bytes_eq n) xs ≡ true
swap_any n [] e = absurd (cc)
swap_any n (x ∷ xs) e = go (bytes_eq x n) refl e (swap_any n xs)
  where
    go : (b : Bool) → bytes_eq x n ≡ b → (b || is_one_of xs n) ≡ true → (is_one_of xs n ≡ true → list_any (bytes_eq n) xs ≡ true) → (bytes_eq n x || list_any (bytes_eq n) xs) ≡ true
    go true f e ih = or_left (bytes_eq n x) _ (bytes_eq_swap n x ∙ f)
    go false f e ih = or_right (bytes_eq n x) _ (ih e)

module _ (t : Tables) (laid : List LaidStatement) where
  abbrev rs : List SymbolUse
  rs = references t laid

  abbrev undefined : List Symbol
  undefined = map (λ name. shared_symbol t name Undefined) (missing_names t rs)

  pub whole : symbols_of t laid ≡ own_symbols t laid ++ undefined
  whole = sym (append_assoc (local_symbols t laid [] laid) (exports t laid) undefined)

  pub undefined_stands : (i o : ℕ) (name : List ℕ) → slice_get rs i ≡ Some (record { ordinal = o; symbol = Named name }) → laws.definition t o (Named name) ≡ None
      → StandsFor t laid o (Named name) (slice_get (symbols_of t laid) (numbering_in t laid o (Named name)))
  undefined_stands i o name at none =
      let names = missing_names t rs in
      let own = own_symbols t laid in
      let one : is_one_of (missing_name t o (Named name)) name ≡ true =
      ap (λ d. is_one_of (elim d [ None ↦ name ∷ [] | Some h ↦ [] ]) name) none ∙ or_left (bytes_eq name name) false (bytes_same name) in
      let listed : is_one_of names name ≡ true = distinct_has [] (flat_map (λ r. missing_name t r.ordinal r.symbol) rs) name (any_flat (λ r. missing_name t r.ordinal r.symbol) rs i _ name at one) refl in
      let found = position_has (bytes_eq name) names (swap_any name names listed) in
      let k = unwrap_or (position (bytes_eq name) names) 0 in
      let n : List ℕ = found.0 in
      let got : slice_get (symbols_of t laid) (length own + k) ≡ Some (shared_symbol t n Undefined) =
      ap (λ l. slice_get l (length own + k)) whole ∙ get_behind own undefined k (length own + k) refl ∙ get_map (λ name. shared_symbol t name Undefined) names k n found.1 in
      subst (λ d. StandsFor t laid o (Named name) (slice_get (symbols_of t laid) (number_of d))) (sym none)
      (subst (λ x. StandsFor t laid o (Named name) x) (sym got) (
        named n found.2,
        ap (λ m. is_weak (outer_binding (t.bindings m))) (named n found.2) ∙ shared_weak (t.bindings name),
        subst (λ d. IsDefinedBy laid (Named name) d (shared_symbol t n Undefined)) (sym none) refl,
      ))
    where
      number_of : Option laws.Definition → ℕ
      number_of d = number_by (own_symbols t laid) (missing_names t rs) laid (Named name) d

      named : (n : List ℕ) → bytes_eq name n ≡ true → n ≡ name
      named n e = sym (same_bytes name n e)

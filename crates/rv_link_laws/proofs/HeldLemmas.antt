-- The definitions of objects are symbols of theirs, and all that are.

use Rattle.std.proofs.Common.{◌≡◌, ◌+◌, ◌-◌, inl, inr, ℕ, zero, suc, Bool, true, false, cond, Some, List, [], ◌∷◌, ◌++◌, slice_get, refl, sym, ap, subst, ◌∙◌, arith}
use Rattle.std.specs.Prelude.{filter, bytes_eq, if◌then◌else◌}
use Rattle.std.specs.List.{AllByRecursion}
use Rattle.std.proofs.lemmas.Bool.{and_parts, and_from, or_left, or_right}
use Rattle.std.proofs.lemmas.Slice.Eq.{bytes_eq-Decides}
use Rattle.rv_list_laws.proofs.EachLemmas.{each_append}
use Rattle.rv_map_laws.specs.Globals.{is_one_of}
use Rattle.rv_object_laws.specs.declared.symbol.Binding.{Binding}
use Rattle.rv_object_laws.specs.declared.symbol.Binding.TheVariants as bindings
use Rattle.rv_object_laws.specs.Object.{Symbol, Object}
use Rattle.rv_object_laws.specs.Bindings.{is_global, is_weak, is_shared}
use Rattle.rv_link_laws.specs.Names.{Export, is_defined, is_export, exports_in, exports_from, exports_where, names_of, candidates}
use Rattle.rv_link_laws.specs.Lists.{In}

-- a definition for all files is a symbol of its object
pub record IsHeld (os : List Object) (e : Export) : Type 0 where
  pub counted : e.file - 1 + 1 ≡ e.file
  pub object : slice_get os (e.file - 1) ≡ Some e.object
  pub symbol : slice_get e.object.symbols e.index ≡ Some e.symbol
  pub shared : is_export is_shared e.symbol ≡ true

module _ (os : List Object) (test : Binding → Bool) (wider : (b : Binding) → test b ≡ true → is_shared b ≡ true) where
  shared_too : (s : Symbol) → is_export test s ≡ true → is_export is_shared s ≡ true
  shared_too s e =
      let parts = and_parts (test s.binding) (is_defined s.definition) e in
      and_from (is_shared s.binding) (is_defined s.definition) (wider s.binding parts.0) parts.1

  held_in : (file : ℕ) (o : Object) (index : ℕ) (ss : List Symbol) → slice_get os file ≡ Some o → ((n : ℕ) → slice_get o.symbols (index + n) ≡ slice_get ss n)
      → AllByRecursion (IsHeld os) (exports_in test (suc file) o index ss)
  held_in file o index [] at each = tt
  held_in file o index (s ∷ ss) at each =
      by (is_export test s) refl (held_in file o (suc index) ss at (λ n. ap (slice_get o.symbols) (let e : suc index + n ≡ index + suc n = omega arith in e) ∙ each (suc n)))
    where
      rest : List Export
      rest = exports_in test (suc file) o (suc index) ss

      it : Export
      it = record { file = suc file; object = o; index = index; symbol = s }

      by : (b : Bool) → is_export test s ≡ b → AllByRecursion (IsHeld os) rest → AllByRecursion (IsHeld os) (if b then it ∷ rest else rest)
      by true e more = (
        record {
          counted = let c : suc file - 1 + 1 ≡ suc file = omega arith in c;
          object = ap (slice_get os) (let c : suc file - 1 ≡ file = omega arith in c) ∙ at;
          symbol = ap (slice_get o.symbols) (let c : index ≡ index + 0 = omega arith in c) ∙ each 0;
          shared = shared_too s e;
        },
        more,
      )
      by false e more = more

  held_from : (file : ℕ) (ps : List Object) → ((n : ℕ) → slice_get os (file + n) ≡ slice_get ps n) → AllByRecursion (IsHeld os) (exports_from test (suc file) ps)
  held_from file [] each = tt
  held_from file (o ∷ ps) each =
      each_append (IsHeld os) (exports_in test (suc file) o 0 o.symbols) (exports_from test (suc (suc file)) ps)
      (held_in file o 0 o.symbols (ap (slice_get os) (let c : file ≡ file + 0 = omega arith in c) ∙ each 0) (λ n. ap (slice_get o.symbols) (let c : 0 + n ≡ n = omega arith in c)))
      (held_from (suc file) ps (λ n. ap (slice_get os) (let c : suc file + n ≡ file + suc n = omega arith in c) ∙ each (suc n)))

  all_held : AllByRecursion (IsHeld os) (exports_where test os)
  all_held = held_from 0 os (λ n. ap (slice_get os) (let c : 0 + n ≡ n = omega arith in c))

global_wider : (b : Binding) → is_global b ≡ true → is_shared b ≡ true
global_wider bindings.Local e = absurd (cc)
global_wider bindings.Global e = refl
global_wider bindings.Weak e = absurd (cc)

weak_wider : (b : Binding) → is_weak b ≡ true → is_shared b ≡ true
weak_wider bindings.Local e = absurd (cc)
weak_wider bindings.Global e = absurd (cc)
weak_wider bindings.Weak e = refl

pub candidates_held : (os : List Object) → AllByRecursion (IsHeld os) (candidates os)
candidates_held os = each_append (IsHeld os) (exports_where is_global os) (exports_where is_weak os) (all_held os is_global global_wider) (all_held os is_weak weak_wider)

pub shared_held : (os : List Object) → AllByRecursion (IsHeld os) (exports_where is_shared os)
shared_held os = all_held os is_shared (λ b e. e)

-- it is its file and its index that tell it
pub same_export : (os : List Object) (e f : Export) → IsHeld os e → IsHeld os f → e.file ≡ f.file → e.index ≡ f.index → e ≡ f
same_export os e f he hf file index =
    let objects : Some e.object ≡ Some f.object = sym he.object ∙ ap (λ n. slice_get os (n - 1)) file ∙ hf.object in
    let object : e.object ≡ f.object = cc in
    let symbols : Some e.symbol ≡ Some f.symbol = sym he.symbol ∙ ap (λ (o : Object). slice_get o.symbols e.index) object ∙ ap (slice_get f.object.symbols) index ∙ hf.symbol in
    let symbol : e.symbol ≡ f.symbol = cc in
    let one : Export → Export = λ x. x in
    ap (λ n. one (record { file = n; object = e.object; index = e.index; symbol = e.symbol })) file
    ∙ ap (λ o. one (record { file = f.file; object = o; index = e.index; symbol = e.symbol })) object
    ∙ ap (λ n. one (record { file = f.file; object = f.object; index = n; symbol = e.symbol })) index
    ∙ ap (λ s. one (record { file = f.file; object = f.object; index = f.index; symbol = s })) symbol

-- ---- each such symbol is one of them

pub in_left : {A : Type 0} (x : A) (xs ys : List A) → In x xs → In x (xs ++ ys)
in_left x [] ys h = absurd h
in_left x (y ∷ xs) ys (inl e) = inl e
in_left x (y ∷ xs) ys (inr h) = inr (in_left x xs ys h)

pub in_right : {A : Type 0} (x : A) (xs ys : List A) → In x ys → In x (xs ++ ys)
in_right x [] ys h = h
in_right x (y ∷ xs) ys h = inr (in_right x xs ys h)

pub in_filter : {A : Type 0} (p : A → Bool) (x : A) (xs : List A) → p x ≡ true → In x xs → In x (filter p xs)
in_filter p x [] e h = absurd h
in_filter p x (y ∷ xs) e (inl same) = subst (λ b. In x (cond b (y ∷ filter p xs) (filter p xs))) (sym (ap p same ∙ e)) (inl same)
in_filter p x (y ∷ xs) e (inr h) = by (p y) (in_filter p x xs e h)
  where
    by : (b : Bool) → In x (filter p xs) → In x (cond b (y ∷ filter p xs) (filter p xs))
    by true more = inr more
    by false more = more

module _ (test : Binding → Bool) (o : Object) (s : Symbol) (passes : is_export test s ≡ true) where
  here_in : (file index : ℕ) (ss : List Symbol) (n : ℕ) → slice_get ss n ≡ Some s → In (record { file = file; object = o; index = index + n; symbol = s }) (exports_in test file o index ss)
  here_in file index [] n at = absurd (cc)
  here_in file index (t ∷ ss) zero at =
      let same : t ≡ s = cc in
      let rest = exports_in test file o (suc index) ss in
      let it : Symbol → ℕ → Export = λ q n. record { file = file; object = o; index = n; symbol = q } in
      subst (λ b. In (it s (index + 0)) (if b then it t index ∷ rest else rest)) (sym (ap (is_export test) same ∙ passes))
      (inl (ap (λ q. it q index) same ∙ ap (it s) (let c : index ≡ index + 0 = omega arith in c)))
  here_in file index (t ∷ ss) (suc n) at = by (is_export test t) (subst (λ k. In (it k) rest) (let c : suc index + n ≡ index + suc n = omega arith in c) (here_in file (suc index) ss n at))
    where
      rest : List Export
      rest = exports_in test file o (suc index) ss

      it : ℕ → Export
      it k = record { file = file; object = o; index = k; symbol = s }

      by : (b : Bool) → In (it (index + suc n)) rest → In (it (index + suc n)) (if b then record { file = file; object = o; index = index; symbol = t } ∷ rest else rest)
      by true more = inr more
      by false more = more

  there_in : (file : ℕ) (os : List Object) (k n : ℕ) → slice_get os k ≡ Some o → slice_get o.symbols n ≡ Some s
      → In (record { file = file + k; object = o; index = n; symbol = s }) (exports_from test file os)
  there_in file [] k n at there = absurd (cc)
  there_in file (p ∷ os) zero n at there =
      let same : p ≡ o = cc in
      let it : ℕ → ℕ → Export = λ f i. record { file = f; object = o; index = i; symbol = s } in
      in_left (it (file + 0) n) (exports_in test file p 0 p.symbols) (exports_from test (suc file) os)
      (subst (λ q. In (it (file + 0) n) (exports_in test file q 0 q.symbols)) (sym same)
      (subst (λ f. In (it f n) (exports_in test file o 0 o.symbols)) (let c : file ≡ file + 0 = omega arith in c)
      (subst (λ i. In (it file i) (exports_in test file o 0 o.symbols)) (let c : 0 + n ≡ n = omega arith in c) (here_in file 0 o.symbols n there))))
  there_in file (p ∷ os) (suc k) n at there =
      let it : ℕ → Export = λ f. record { file = f; object = o; index = n; symbol = s } in
      in_right (it (file + suc k)) (exports_in test file p 0 p.symbols) (exports_from test (suc file) os)
      (subst (λ f. In (it f) (exports_from test (suc file) os)) (let c : suc file + k ≡ file + suc k = omega arith in c) (there_in (suc file) os k n at there))

pub held_one : (os : List Object) (test : Binding → Bool) (e : Export) → IsHeld os e → is_export test e.symbol ≡ true → In e (exports_where test os)
held_one os test e held passes =
    subst (λ n. In (record { file = n; object = e.object; index = e.index; symbol = e.symbol }) (exports_where test os))
    (let counted = held.counted in let c : 1 + (e.file - 1) ≡ e.file = omega (counted, arith) in c)
    (there_in test e.object e.symbol passes 1 os (e.file - 1) e.index held.object held.symbol)

pub named_in : (e : Export) (es : List Export) → In e es → is_one_of (names_of es) e.symbol.name ≡ true
named_in e [] h = absurd h
named_in e (f ∷ es) (inl same) = or_left (bytes_eq f.symbol.name e.symbol.name) (is_one_of (names_of es) e.symbol.name) ((bytes_eq-Decides f.symbol.name e.symbol.name).1 (ap (λ (x : Export). x.symbol.name) same))
named_in e (f ∷ es) (inr h) = or_right (bytes_eq f.symbol.name e.symbol.name) (is_one_of (names_of es) e.symbol.name) (named_in e es h)

-- What names mean to all files is the same for sources and for their objects.

use Rattle.std.proofs.Common.{◌≡◌, ℕ, suc, Bool, true, false, List, [], ◌∷◌, ◌++◌, refl, sym, ap, ◌∙◌, subst, map, Option, Some, None}
use Rattle.std.proofs.lemmas.List.Elements.{filter-append}
use Rattle.std.specs.Prelude.{◌&&◌, if◌then◌else◌, filter, flat_map, bytes_eq}
use Rattle.rv_statement_laws.specs.declared.directive.Binding.{Binding as SourceBinding}
use Rattle.rv_statement_laws.specs.declared.directive.Binding.TheVariants as bindings
use Rattle.rv_unit_laws.specs.Bindings.{is_shared, is_global, is_weak}
use Rattle.rv_source_laws.specs.Exports.{defined_name}
use Rattle.rv_source_laws.specs.Program as source
use Rattle.rv_source_laws.specs.Program.{MaybeMapped, Program, export, tables_in, exports_at}
use Rattle.rv_object_laws.specs.declared.symbol.Binding.{Binding}
use Rattle.rv_object_laws.specs.declared.symbol.Binding.TheVariants.{Local, Global, Weak}
use Rattle.rv_object_laws.specs.Object.{Symbol, Object}
use Rattle.rv_object_laws.specs.Bindings as symbols
use Rattle.rv_link_laws.specs.Names as objects
use Rattle.rv_link_laws.specs.Names.{is_defined, exports_in, exports_from}
use Rattle.rv_sources_link_theorems.proofs.names.PairLemmas.{ArePaired, IsAlike, AreMade, AreChosenAlike, AreGiven}
use Rattle.rv_sources_link_theorems.proofs.names.PairedLemmas.{map_pairs, both_pairs, join_pairs, keep_pairs, find_pair, same_maps, alike_by, some_alike, all_agree}
use Rattle.rv_sources_link_theorems.proofs.names.MatchedLemmas.{binding_of, IsMatched, AreMatched, matched_pairs, are_same, are_one, all_apart, self_same, all_matched}

-- ---- those of a binding, among all

-- a test that only shared bindings pass
abbrev Narrows : (SourceBinding → Bool) → Type 0
Narrows test = (b : SourceBinding) → test b ≡ true → is_shared b ≡ true

abbrev NarrowsSymbols : (Binding → Bool) → Type 0
NarrowsSymbols test = (b : Binding) → test b ≡ true → symbols.is_shared b ≡ true

-- a test is kept behind another that it implies
narrowed : {A : Type 0} (b c : Bool) (x : A) (some all : List A) (test : A → Bool) → (b ≡ true → c ≡ true) → test x ≡ b → some ≡ filter test all
    → (if b then x ∷ some else some) ≡ filter test (if c then x ∷ all else all)
narrowed true true x some all test h e ih = ap (λ l. x ∷ l) ih ∙ ap (λ b. if b then x ∷ filter test all else filter test all) (sym e)
narrowed false true x some all test h e ih = ih ∙ ap (λ b. if b then x ∷ filter test all else filter test all) (sym e)
narrowed false false x some all test h e ih = ih
narrowed true false x some all test h e ih = let f : false ≡ true = h refl in absurd (cc)

module _ (p : Program) (test : SourceBinding → Bool) (narrows : Narrows test) where
  abbrev is_kept : source.Export → Bool
  is_kept x = test (binding_of p x)

  names_kept : (e : MaybeMapped) (names : List (List ℕ))
      → map (export e) (filter (λ n. test ((tables_in p e.located.file).bindings n)) names)
      ≡ filter is_kept (map (export e) (filter (λ n. is_shared ((tables_in p e.located.file).bindings n)) names))
  names_kept e [] = refl
  names_kept e (name ∷ names) = go (test (b name)) (is_shared (b name)) refl (narrows (b name)) (names_kept e names)
    where
      b : List ℕ → SourceBinding
      b n = (tables_in p e.located.file).bindings n

      some : List (List ℕ)
      some = filter (λ n. test (b n)) names

      all : List (List ℕ)
      all = filter (λ n. is_shared (b n)) names

      go : (c d : Bool) → test (b name) ≡ c → (test (b name) ≡ true → d ≡ true) → map (export e) some ≡ filter is_kept (map (export e) all)
          → map (export e) (if c then name ∷ some else some) ≡ filter is_kept (map (export e) (if d then name ∷ all else all))
      go true true f h ih = narrowed true true (export e name) (map (export e) some) (map (export e) all) is_kept (λ g. refl) f ih
      go false true f h ih = narrowed false true (export e name) (map (export e) some) (map (export e) all) is_kept (λ g. refl) f ih
      go false false f h ih = ih
      go true false f h ih = let g : false ≡ true = h f in absurd (cc)

  all_kept : (es : List MaybeMapped) → flat_map (exports_at test p) es ≡ filter is_kept (flat_map (exports_at is_shared p) es)
  all_kept [] = refl
  all_kept (e ∷ es) =
      ap (λ l. l ++ flat_map (exports_at test p) es) (names_kept e (defined_name (tables_in p e.located.file) e.located.ordinal e.located.kind))
      ∙ ap (λ l. filter is_kept (exports_at is_shared p e) ++ l) (all_kept es)
      ∙ sym (filter-append is_kept (exports_at is_shared p e) (flat_map (exports_at is_shared p) es))

module _ (test : Binding → Bool) (narrows : NarrowsSymbols test) where
  abbrev is_one : objects.Export → Bool
  is_one e = test e.symbol.binding

  symbols_kept : (file : ℕ) (o : Object) (k : ℕ) (ss : List Symbol) → exports_in test file o k ss ≡ filter is_one (exports_in symbols.is_shared file o k ss)
  symbols_kept file o k [] = refl
  symbols_kept file o k (s ∷ ss) = go (test s.binding) (symbols.is_shared s.binding) (is_defined s.definition) refl (narrows s.binding) (symbols_kept file o (suc k) ss)
    where
      own : objects.Export
      own = record { file = file; object = o; index = k; symbol = s }

      some : List objects.Export
      some = exports_in test file o (suc k) ss

      all : List objects.Export
      all = exports_in symbols.is_shared file o (suc k) ss

      go : (c d q : Bool) → test s.binding ≡ c → (test s.binding ≡ true → d ≡ true) → some ≡ filter is_one all
          → (if c && q then own ∷ some else some) ≡ filter is_one (if d && q then own ∷ all else all)
      go true true true f h ih = narrowed true true own some all is_one (λ g. refl) f ih
      go false true true f h ih = narrowed false true own some all is_one (λ g. refl) f ih
      go true true false f h ih = ih
      go false true false f h ih = ih
      go false false q f h ih = ih
      go true false q f h ih = let g : false ≡ true = h f in absurd (cc)

  objects_kept : (file : ℕ) (os : List Object) → exports_from test file os ≡ filter is_one (exports_from symbols.is_shared file os)
  objects_kept file [] = refl
  objects_kept file (o ∷ os) =
      ap (λ l. l ++ exports_from test (suc file) os) (symbols_kept file o 0 o.symbols)
      ∙ ap (λ l. filter is_one (exports_in symbols.is_shared file o 0 o.symbols) ++ l) (objects_kept (suc file) os)
      ∙ sym (filter-append is_one (exports_in symbols.is_shared file o 0 o.symbols) (exports_from symbols.is_shared (suc file) os))

global_narrows : Narrows is_global
global_narrows bindings.Local e = absurd (cc)
global_narrows bindings.Global e = refl
global_narrows bindings.Weak e = refl

weak_narrows : Narrows is_weak
weak_narrows bindings.Local e = absurd (cc)
weak_narrows bindings.Global e = refl
weak_narrows bindings.Weak e = refl

global_symbols : NarrowsSymbols symbols.is_global
global_symbols Local e = absurd (cc)
global_symbols Global e = refl
global_symbols Weak e = refl

weak_symbols : NarrowsSymbols symbols.is_weak
weak_symbols Local e = absurd (cc)
weak_symbols Global e = refl
weak_symbols Weak e = refl

-- ---- the law

module _ (R : source.Export → objects.Export → Type 0) (p : Program) (os : List Object) (made : AreMade R p 1 os p.statements) where
  abbrev xs : List source.Export
  xs = source.exports_where is_shared p

  abbrev es : List objects.Export
  es = objects.exports_where symbols.is_shared os

  abbrev M : source.Export → objects.Export → Type 0
  M x e = IsMatched R p x e

  matched : AreMatched R p 1 0 0 xs es
  matched = all_matched R p 1 os p.statements made

  shared_pairs : ArePaired M xs es
  shared_pairs = matched_pairs R p 1 0 0 xs es matched

  module _ (Q : source.Export → objects.Export → Type 0) (of : (x : source.Export) (e : objects.Export) → Q x e → M x e) (all : ArePaired Q xs es) where
    global_pairs : ArePaired Q (source.exports_where is_global p) (objects.exports_where symbols.is_global os)
    global_pairs =
        subst (λ l. ArePaired Q l (objects.exports_where symbols.is_global os)) (sym (all_kept p is_global global_narrows p.statements))
        (subst (λ l. ArePaired Q (filter (λ x. is_global (binding_of p x)) xs) l) (sym (objects_kept symbols.is_global global_symbols 1 os))
        (keep_pairs Q (λ x. is_global (binding_of p x)) (λ e. symbols.is_global e.symbol.binding) (λ x e q. (of x e q).global) xs es all))

    weak_pairs : ArePaired Q (source.exports_where is_weak p) (objects.exports_where symbols.is_weak os)
    weak_pairs =
        subst (λ l. ArePaired Q l (objects.exports_where symbols.is_weak os)) (sym (all_kept p is_weak weak_narrows p.statements))
        (subst (λ l. ArePaired Q (filter (λ x. is_weak (binding_of p x)) xs) l) (sym (objects_kept symbols.is_weak weak_symbols 1 os))
        (keep_pairs Q (λ x. is_weak (binding_of p x)) (λ e. symbols.is_weak e.symbol.binding) (λ x e q. (of x e q).weak) xs es all))

    chosen_pair : (name : List ℕ) → IsAlike Q (source.chosen p name) (objects.chosen os name)
    chosen_pair name =
        find_pair Q (λ x. bytes_eq x.name name) (λ e. bytes_eq e.symbol.name name) (λ x e q. ap (λ n. bytes_eq n name) (of x e q).name)
        (source.candidates p) (objects.candidates os)
        (join_pairs Q (source.exports_where is_global p) (objects.exports_where symbols.is_global os)
        (source.exports_where is_weak p) (objects.exports_where symbols.is_weak os) global_pairs weak_pairs)

  -- whether a definition is the one that a name means
  abbrev Agrees : source.Export → objects.Export → source.Export → objects.Export → Type 0
  Agrees x e y g = are_same x y ≡ are_one e g

  is_this_same : (x : source.Export) (e : objects.Export) (a : Option source.Export) (b : Option objects.Export) → IsAlike (λ y g. M y g × Agrees x e y g) a b
      → source.is_this x a ≡ objects.is_this e b
  is_this_same x e None None h = refl
  is_this_same x e None (Some g) h = absurd h
  is_this_same x e (Some y) None h = absurd h
  is_this_same x e (Some y) (Some g) (m, same) = same

  abbrev IsKnown : source.Export → objects.Export → Type 0
  IsKnown x e = M x e × (source.is_chosen p x ≡ objects.is_chosen os e)

  known : (x : source.Export) (e : objects.Export) → M x e × ArePaired (Agrees x e) xs es → IsKnown x e
  known x e (m, agrees) = (
    m,
    is_this_same x e (source.chosen p x.name) (objects.chosen os x.name)
        (chosen_pair (λ y g. M y g × Agrees x e y g) (λ y g q. q.0) (both_pairs M (Agrees x e) xs es shared_pairs agrees) x.name)
        ∙ ap (λ n. objects.is_this e (objects.chosen os n)) m.name,
  )

  known_pairs : ArePaired IsKnown xs es
  known_pairs =
      map_pairs (λ x e. M x e × ArePaired (Agrees x e) xs es) IsKnown known xs es
      (both_pairs M (λ x e. ArePaired (Agrees x e) xs es) xs es shared_pairs
      (all_agree are_same are_one (self_same R p) xs es (all_apart R p 1 0 0 xs es matched)))

  pub chosen_alike : AreChosenAlike R p os
  chosen_alike = record {
    globals = same_maps M (λ x. x.name) (λ e. e.symbol.name) (λ x e m. m.name) (source.exports_where is_global p) (objects.exports_where symbols.is_global os)
        (global_pairs M (λ x e m. m) shared_pairs);
    chosen = λ name. alike_by M R (λ x e m. m.pair) (source.chosen p name) (objects.chosen os name) (chosen_pair M (λ x e m. m) shared_pairs name);
    shown = map_pairs IsKnown R (λ x e k. k.0.pair) (source.chosen_exports p) (objects.chosen_exports os)
        (keep_pairs IsKnown (source.is_chosen p) (objects.is_chosen os) (λ x e k. k.1) xs es known_pairs);
  }

pub any_given : (R : source.Export → objects.Export → Type 0) (p : Program) (os : List Object) → AreChosenAlike R p os → AreGiven p os
any_given R p os h = λ name. some_alike R (source.chosen p name) (objects.chosen os name) (h.chosen name)

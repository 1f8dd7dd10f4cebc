-- The symbols that stand for names that their file defines.

use Rattle.std.proofs.Common.{◌≡◌, ℕ, zero, suc, Bool, true, false, List, [], ◌∷◌, ◌++◌, map, refl, sym, ap, ◌∙◌, subst, Some}
use Rattle.std.proofs.lemmas.Bool.{or_right, or_left}
use Rattle.std.specs.Prelude.{◌||◌, not, filter, flat_map, slice_get, unwrap_or, if◌then◌else◌}
use Rattle.std.specs.List.{AllByRecursion, list_any}
use Rattle.std.specs.Str.{bytes_eq}
use Rattle.rv_list_laws.proofs.ElementsLemmas.{same_bytes, get_front}
use Rattle.rv_list_laws.proofs.TestsLemmas.{any_left, any_right}
use Rattle.rv_list_laws.proofs.EachLemmas.{get_each, each_append, each_mapped}
use Rattle.rv_list_laws.proofs.FilterLemmas.{each_filter_weaker}
use Rattle.rv_map_laws.specs.Globals.{is_one_of}
use Rattle.rv_expression_laws.specs.Expression.{Symbol as Named}
use Rattle.rv_statement_laws.specs.declared.directive.Binding.{Binding}
use Rattle.rv_statement_laws.specs.declared.directive.Binding.TheVariants.{Local, Global, Weak}
use Rattle.rv_unit_laws.specs.Bindings as source
use Rattle.rv_unit_laws.specs.Bindings.{is_shared}
use Rattle.rv_unit_laws.specs.Tables as laws
use Rattle.rv_unit_laws.specs.Tables.{Tables}
use Rattle.rv_source_laws.specs.Exports.{defined_name}
use Rattle.rv_object_laws.specs.declared.symbol.Definition.{Definition as Defined}
use Rattle.rv_object_laws.specs.declared.symbol.Definition.TheVariants.{InSection}
use Rattle.rv_object_laws.specs.Object.{Symbol}
use Rattle.rv_assemble_laws.specs.LaidStatements.{LaidStatement}
use Rattle.rv_object_laws.specs.Bindings.{is_weak}
use Rattle.rv_assemble_laws.specs.Symbols.{references, statement_definition, local_symbol, outer_binding, shared_symbol, is_absolute, unnamed_symbols, named_symbols, local_symbols, exports_of, exports, symbols_of, IsOwn, IsDefinedBy, StandsFor, is_named}
use Rattle.rv_symbols.specs.Numbers.{last_index, own_symbols, missing_names, number_by, numbering_in}
use Rattle.rv_symbols.proofs.NumberedLemmas.{got_last, shared_weak, whole}

-- a name that its own file alone can mean is not weak
own_strong : (b : Binding) → not (is_shared b) ≡ true → source.is_weak b ≡ false
own_strong Local e = refl
own_strong Global e = absurd (cc)
own_strong Weak e = absurd (cc)

module _ (t : Tables) (laid : List LaidStatement) (name : List ℕ) where
  abbrev own : List Symbol
  own = own_symbols t laid

  abbrev defines : LaidStatement → List (List ℕ)
  defines s = defined_name t s.located.ordinal s.located.kind

  abbrev place : LaidStatement → Defined
  place s = statement_definition t laid s s.located.kind

  -- ---- a use, by its own symbols

  pub own_stands : (o : ℕ) (d : laws.Definition) → laws.definition t o (Named name) ≡ Some d → list_any (is_named name) own ≡ true
      → AllByRecursion (λ x. is_named name x ≡ true → (is_weak x.binding ≡ source.is_weak (t.bindings name)) × IsOwn laid d x) own → StandsFor t laid o (Named name) (slice_get (symbols_of t laid) (numbering_in t laid o (Named name)))
  own_stands o d f some all =
      let found = got_last (is_named name) own some in
      let x : Symbol = found.0 in
      let k = unwrap_or (last_index (is_named name) own) 0 in
      let n : numbering_in t laid o (Named name) ≡ k = ap (number_by own (missing_names t (references t laid)) laid (Named name)) f in
      let got : slice_get (symbols_of t laid) (numbering_in t laid o (Named name)) ≡ Some x =
      ap (slice_get (symbols_of t laid)) n ∙ ap (λ l. slice_get l k) (whole t laid) ∙ get_front own _ k x found.1 in
      let told : (is_weak x.binding ≡ source.is_weak (t.bindings name)) × IsOwn laid d x =
      get_each (λ x. is_named name x ≡ true → (is_weak x.binding ≡ source.is_weak (t.bindings name)) × IsOwn laid d x) own k x found.1 all found.2 in
      subst (λ y. StandsFor t laid o (Named name) y) (sym got) (same_bytes x.name name found.2, told.0, subst (λ h. IsDefinedBy laid (Named name) h x) (sym f) told.1)

  -- ---- a statement that defines the name has its symbol

  abbrev Names : List Symbol → Type 0
  Names xs = list_any (is_named name) xs ≡ true

  local_one : (s : LaidStatement) → is_absolute (local_symbol name (place s)) ≡ false → is_shared (t.bindings name) ≡ false → (ns : List (List ℕ)) → is_one_of ns name ≡ true
      → Names (filter (λ x. not (is_absolute x)) (map (λ n. local_symbol n (place s)) (filter (λ n. not (is_shared (t.bindings n))) ns)))
  local_one s a g [] e = absurd (cc)
  local_one s a g (n ∷ ns) e = go (bytes_eq n name) refl e (local_one s a g ns)
    where
      rest : List Symbol
      rest = map (λ n. local_symbol n (place s)) (filter (λ n. not (is_shared (t.bindings n))) ns)

      behind : (b : Bool) → Names (filter (λ x. not (is_absolute x)) rest) → Names (filter (λ x. not (is_absolute x)) (map (λ n. local_symbol n (place s)) (if b then n ∷ filter (λ n. not (is_shared (t.bindings n))) ns else filter (λ n. not (is_shared (t.bindings n))) ns)))
      behind false f = f
      behind true f = one (is_absolute (local_symbol n (place s)))
        where
          one : (c : Bool) → Names (if not c then local_symbol n (place s) ∷ filter (λ x. not (is_absolute x)) rest else filter (λ x. not (is_absolute x)) rest)
          one true = f
          one false = or_right (bytes_eq n name) _ f

      go : (b : Bool) → bytes_eq n name ≡ b → (b || is_one_of ns name) ≡ true → (is_one_of ns name ≡ true → Names (filter (λ x. not (is_absolute x)) rest))
          → Names (filter (λ x. not (is_absolute x)) (map (λ n. local_symbol n (place s)) (if not (is_shared (t.bindings n)) then n ∷ filter (λ n. not (is_shared (t.bindings n))) ns else filter (λ n. not (is_shared (t.bindings n))) ns)))
      go false f h ih = behind (not (is_shared (t.bindings n))) (ih h)
      go true f h ih =
          let same : n ≡ name = same_bytes n name f in
          let mine : is_shared (t.bindings n) ≡ false = ap (λ m. is_shared (t.bindings m)) same ∙ g in
          ap (λ b. list_any (is_named name) (filter (λ x. not (is_absolute x)) (map (λ n. local_symbol n (place s)) (if not b then n ∷ filter (λ n. not (is_shared (t.bindings n))) ns else filter (λ n. not (is_shared (t.bindings n))) ns)))) mine
          ∙ ap (λ b. list_any (is_named name) (if not b then local_symbol n (place s) ∷ filter (λ x. not (is_absolute x)) rest else filter (λ x. not (is_absolute x)) rest)) a
          ∙ or_left (bytes_eq n name) _ f

  shared_one : (s : LaidStatement) → is_shared (t.bindings name) ≡ true → (ns : List (List ℕ)) → is_one_of ns name ≡ true → Names (map (λ n. shared_symbol t n (place s)) (filter (λ n. is_shared (t.bindings n)) ns))
  shared_one s g [] e = absurd (cc)
  shared_one s g (n ∷ ns) e = go (bytes_eq n name) refl e (shared_one s g ns)
    where
      behind : (b : Bool) → Names (map (λ n. shared_symbol t n (place s)) (filter (λ n. is_shared (t.bindings n)) ns)) → Names (map (λ n. shared_symbol t n (place s)) (if b then n ∷ filter (λ n. is_shared (t.bindings n)) ns else filter (λ n. is_shared (t.bindings n)) ns))
      behind false f = f
      behind true f = or_right (bytes_eq n name) _ f

      go : (b : Bool) → bytes_eq n name ≡ b → (b || is_one_of ns name) ≡ true → (is_one_of ns name ≡ true → Names (map (λ n. shared_symbol t n (place s)) (filter (λ n. is_shared (t.bindings n)) ns)))
          → Names (map (λ n. shared_symbol t n (place s)) (if is_shared (t.bindings n) then n ∷ filter (λ n. is_shared (t.bindings n)) ns else filter (λ n. is_shared (t.bindings n)) ns))
      go false f h ih = behind (is_shared (t.bindings n)) (ih h)
      go true f h ih =
          let mine : is_shared (t.bindings n) ≡ true = ap (λ m. is_shared (t.bindings m)) (same_bytes n name f) ∙ g in
          ap (λ b. list_any (is_named name) (map (λ n. shared_symbol t n (place s)) (if b then n ∷ filter (λ n. is_shared (t.bindings n)) ns else filter (λ n. is_shared (t.bindings n)) ns))) mine
          ∙ or_left (bytes_eq n name) _ f

  local_at : (before rest : List LaidStatement) (i : ℕ) (s : LaidStatement) → slice_get rest i ≡ Some s → Names (named_symbols t laid s) → Names (local_symbols t laid before rest)
  local_at before [] zero s e h = absurd (cc)
  local_at before [] (suc i) s e h = absurd (cc)
  local_at before (q ∷ rest) zero s e h =
      let same : q ≡ s = cc in
      any_right (is_named name) (unnamed_symbols t (references t laid) before q) _
      (any_left (is_named name) (named_symbols t laid q) (local_symbols t laid (before ++ q ∷ []) rest) (subst (λ y. Names (named_symbols t laid y)) (sym same) h))
  local_at before (q ∷ rest) (suc i) s e h =
      any_right (is_named name) (unnamed_symbols t (references t laid) before q) _ (any_right (is_named name) (named_symbols t laid q) _ (local_at (before ++ q ∷ []) rest i s e h))

  exports_at : (rest : List LaidStatement) (i : ℕ) (s : LaidStatement) → slice_get rest i ≡ Some s → Names (exports_of t laid s) → Names (flat_map (exports_of t laid) rest)
  exports_at [] zero s e h = absurd (cc)
  exports_at [] (suc i) s e h = absurd (cc)
  exports_at (q ∷ rest) zero s e h =
      let same : q ≡ s = cc in
      any_left (is_named name) (exports_of t laid q) _ (subst (λ y. Names (exports_of t laid y)) (sym same) h)
  exports_at (q ∷ rest) (suc i) s e h = any_right (is_named name) (exports_of t laid q) _ (exports_at rest i s e h)

  pub own_named : (i : ℕ) (s : LaidStatement) → slice_get laid i ≡ Some s → is_one_of (defines s) name ≡ true → is_absolute (local_symbol name (place s)) ≡ false → Names own
  own_named i s e h a = go (is_shared (t.bindings name)) refl
    where
      go : (b : Bool) → is_shared (t.bindings name) ≡ b → Names own
      go true g = any_right (is_named name) (local_symbols t laid [] laid) (exports t laid) (exports_at laid i s e (shared_one s g (defines s) h))
      go false g = any_left (is_named name) (local_symbols t laid [] laid) (exports t laid) (local_at [] laid i s e (local_one s a g (defines s) h))

-- ---- symbols by their statements

-- what holds of local symbols and of those that other files can mean, where something is known of each name and its place
module _ (t : Tables) (laid : List LaidStatement) (Has : Symbol → Type 0) (Known : List ℕ → Defined → Type 0) (nameless : (d : Defined) → Has (local_symbol [] d))
    (local : (n : List ℕ) (d : Defined) → not (is_shared (t.bindings n)) ≡ true → Known n d → Has (local_symbol n d))
    (shared : (n : List ℕ) (d : Defined) → Known n d → Has (shared_symbol t n d)) where
  abbrev names : LaidStatement → List (List ℕ)
  names s = defined_name t s.located.ordinal s.located.kind

  abbrev here : LaidStatement → Defined
  here s = statement_definition t laid s s.located.kind

  abbrev AreKnown : LaidStatement → Type 0
  AreKnown s = AllByRecursion (λ n. Known n (here s)) (names s)

  unnamed_all : (before : List LaidStatement) (s : LaidStatement) → AllByRecursion Has (unnamed_symbols t (references t laid) before s)
  unnamed_all before s = go _
    where
      go : (b : Bool) → AllByRecursion Has (if b then local_symbol [] (InSection s.located.section s.offset) ∷ [] else [])
      go true = (nameless (InSection s.located.section s.offset), tt)
      go false = tt

  named_all : (s : LaidStatement) → AreKnown s → AllByRecursion Has (named_symbols t laid s)
  named_all s h =
      each_filter_weaker Has Has (λ x. not (is_absolute x)) (λ x e p. p) _
      (each_mapped Has (λ n. local_symbol n (here s)) _ (each_filter_weaker (λ n. Known n (here s)) (λ n. Has (local_symbol n (here s))) (λ n. not (is_shared (t.bindings n))) (λ n. local n (here s)) (names s) h))

  exported_all : (s : LaidStatement) → AreKnown s → AllByRecursion Has (exports_of t laid s)
  exported_all s h =
      each_mapped Has (λ n. shared_symbol t n (here s)) _
      (each_filter_weaker (λ n. Known n (here s)) (λ n. Has (shared_symbol t n (here s))) (λ n. is_shared (t.bindings n)) (λ n e. shared n (here s)) (names s) h)

  local_all : (before rest : List LaidStatement) → AllByRecursion AreKnown rest → AllByRecursion Has (local_symbols t laid before rest)
  local_all before [] h = tt
  local_all before (s ∷ rest) (h, hs) =
      each_append Has (unnamed_symbols t (references t laid) before s) _ (unnamed_all before s)
      (each_append Has (named_symbols t laid s) _ (named_all s h) (local_all (before ++ s ∷ []) rest hs))

  exports_all : (rest : List LaidStatement) → AllByRecursion AreKnown rest → AllByRecursion Has (flat_map (exports_of t laid) rest)
  exports_all [] h = tt
  exports_all (s ∷ rest) (h, hs) = each_append Has (exports_of t laid s) _ (exported_all s h) (exports_all rest hs)

  pub each_own : AllByRecursion AreKnown laid → AllByRecursion Has (own_symbols t laid)
  each_own h = each_append Has (local_symbols t laid [] laid) (exports t laid) (local_all [] laid h) (exports_all laid h)

-- those of a name stand where its statement does, and are weak where the name is
pub own_all : (t : Tables) (laid : List LaidStatement) (name : List ℕ) (P : Defined → Type 0) → bytes_eq [] name ≡ false
    → AllByRecursion (λ s. AllByRecursion (λ n. bytes_eq n name ≡ true → P (statement_definition t laid s s.located.kind)) (defined_name t s.located.ordinal s.located.kind)) laid
    → AllByRecursion (λ x. is_named name x ≡ true → (is_weak x.binding ≡ source.is_weak (t.bindings name)) × P x.definition) (own_symbols t laid)
own_all t laid name P shown h =
    each_own t laid (λ x. is_named name x ≡ true → (is_weak x.binding ≡ source.is_weak (t.bindings name)) × P x.definition) (λ n d. bytes_eq n name ≡ true → P d)
    (λ d e. absurd (cc)) (λ n d e p f. (sym (own_strong (t.bindings name) (ap (λ m. not (is_shared (t.bindings m))) (sym (same_bytes n name f)) ∙ e)), p f))
    (λ n d p f. (ap (λ m. is_weak (outer_binding (t.bindings m))) (same_bytes n name f) ∙ shared_weak (t.bindings name), p f)) h

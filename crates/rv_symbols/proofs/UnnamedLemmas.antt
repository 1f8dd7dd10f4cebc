-- The symbols that stand for places without names.

use Rattle.std.proofs.Common.{◌≡◌, ℕ, zero, suc, ◌<◌, ◌^◌, Bool, true, false, List, [], ◌∷◌, ◌++◌, refl, sym, ap, ◌∙◌, subst, arith, inl, inr, Some}
use Rattle.std.specs.Prelude.{◌⊎◌, ◌&&◌, ◌||◌, ◌==◌, not, slice_get, unwrap_or, if◌then◌else◌}
use Rattle.std.specs.List.{AllByRecursion, list_any}
use Rattle.std.specs.Str.{bytes_eq}
use Rattle.std.proofs.lemmas.Bool.{and_parts, eqb-true, eq-eqb, or_right, or_left, and_from}
use Rattle.std.proofs.lemmas.List.Folds.{list_any-append}
use Rattle.rv_list_laws.proofs.ElementsLemmas.{same_bytes, get_front}
use Rattle.rv_list_laws.proofs.TestsLemmas.{any_left, any_right}
use Rattle.rv_list_laws.proofs.EachLemmas.{get_each}
use Rattle.rv_expression_laws.specs.Expression.{Primary, Literal, Symbol as Named, Here, Reference}
use Rattle.rv_expression_laws.specs.Values.{add}
use Rattle.rv_unit_laws.specs.Tables as laws
use Rattle.rv_unit_laws.specs.Tables.{Tables, gives_way}
use Rattle.rv_object_laws.specs.declared.symbol.Definition.{Definition as Defined}
use Rattle.rv_object_laws.specs.declared.symbol.Definition.TheVariants.{Undefined, Absolute, InSection, Skipped}
use Rattle.rv_object_laws.specs.Object.{Symbol}
use Rattle.rv_assemble_laws.specs.LaidStatements.{LaidStatement}
use Rattle.rv_object_laws.specs.Bindings.{is_weak}
use Rattle.rv_assemble_laws.specs.Symbols.{SymbolUse, references, laid_at, local_symbol, is_unnamed, is_defined_at, is_meant, unnamed_symbols, named_symbols, local_symbols, exports, symbols_of, IsNamed, IsDefinedBy, StandsFor, stands_in}
use Rattle.rv_symbols.specs.Numbers.{last_index, is_at_place, own_symbols, missing_names, own_number, place_number, number_by, numbering_in}
use Rattle.rv_assemble_laws.proofs.DefinedNamesLemmas.{AreSome}
use Rattle.rv_symbols.proofs.NumberedLemmas.{got_last, whole}
use Rattle.rv_symbols.proofs.OwnedLemmas.{each_own}

place_here : (section offset : ℕ) → is_at_place section offset (local_symbol [] (InSection section offset)) ≡ true
place_here section offset = and_from (section == section) (offset == offset) (eq-eqb section section refl) (eq-eqb offset offset refl)

module _ (t : Tables) (laid : List LaidStatement) where
  abbrev meant : LaidStatement → Bool
  meant s = is_meant t (references t laid) s

  abbrev seen : ℕ → ℕ → List LaidStatement → Bool
  seen section offset before = list_any (λ y. ((section == y.located.section) && (offset == y.offset)) && meant y) before

  abbrev At : LaidStatement → List Symbol → Type 0
  At s xs = list_any (is_at_place s.located.section s.offset) xs ≡ true

  here_has : (before : List LaidStatement) (s : LaidStatement) (tail : List Symbol) → meant s ≡ true → (seen s.located.section s.offset before ≡ true) ⊎ At s (unnamed_symbols t (references t laid) before s ++ tail)
  here_has before s tail m = go (seen s.located.section s.offset before) refl
    where
      go : (b : Bool) → seen s.located.section s.offset before ≡ b → (seen s.located.section s.offset before ≡ true) ⊎ At s (unnamed_symbols t (references t laid) before s ++ tail)
      go true e = inl e
      go false e = inr (
          ap (λ b. list_any (is_at_place s.located.section s.offset) ((if b && not (seen s.located.section s.offset before) then local_symbol [] (InSection s.located.section s.offset) ∷ [] else []) ++ tail)) m
          ∙ ap (λ b. list_any (is_at_place s.located.section s.offset) ((if not b then local_symbol [] (InSection s.located.section s.offset) ∷ [] else []) ++ tail)) e
          ∙ or_left (is_at_place s.located.section s.offset (local_symbol [] (InSection s.located.section s.offset))) _ (place_here s.located.section s.offset))

  local_has : (before rest : List LaidStatement) (i : ℕ) (q : LaidStatement) → slice_get rest i ≡ Some q → meant q ≡ true → (seen q.located.section q.offset before ≡ true) ⊎ At q (local_symbols t laid before rest)
  local_has before [] zero q e m = absurd (cc)
  local_has before [] (suc i) q e m = absurd (cc)
  local_has before (s ∷ rest) zero q e m =
      let same : s ≡ q = cc in
      subst (λ (y : LaidStatement). (seen y.located.section y.offset before ≡ true) ⊎ At y (local_symbols t laid before (s ∷ rest))) same
      (here_has before s (named_symbols t laid s ++ local_symbols t laid (before ++ s ∷ []) rest) (ap meant same ∙ m))
  local_has before (s ∷ rest) (suc i) q e m = go (local_has (before ++ s ∷ []) rest i q e m)
    where
      tail : List Symbol
      tail = named_symbols t laid s ++ local_symbols t laid (before ++ s ∷ []) rest

      test : Symbol → Bool
      test = is_at_place q.located.section q.offset

      moved : (a b c d : ℕ) → a ≡ c → b ≡ d → (seen c d before ≡ true) ⊎ (list_any (is_at_place c d) (unnamed_symbols t (references t laid) before s ++ tail) ≡ true)
          → (seen a b before ≡ true) ⊎ (list_any (is_at_place a b) (unnamed_symbols t (references t laid) before s ++ tail) ≡ true)
      moved a b c d e f h =
          subst (λ n. (seen n b before ≡ true) ⊎ (list_any (is_at_place n b) (unnamed_symbols t (references t laid) before s ++ tail) ≡ true)) (sym e)
          (subst (λ n. (seen c n before ≡ true) ⊎ (list_any (is_at_place c n) (unnamed_symbols t (references t laid) before s ++ tail) ≡ true)) (sym f) h)

      or_last : (a b : Bool) → (a || (b || false)) ≡ true → (a ≡ true) ⊎ (b ≡ true)
      or_last true b e = inl refl
      or_last false true e = inr refl
      or_last false false e = absurd (cc)

      last : (seen q.located.section q.offset before ≡ true) ⊎ ((((q.located.section == s.located.section) && (q.offset == s.offset)) && meant s) ≡ true)
          → (seen q.located.section q.offset before ≡ true) ⊎ At q (local_symbols t laid before (s ∷ rest))
      last (inl h) = inl h
      last (inr h) =
          let parts = and_parts ((q.located.section == s.located.section) && (q.offset == s.offset)) (meant s) h in
          let place = and_parts (q.located.section == s.located.section) (q.offset == s.offset) parts.0 in
          moved q.located.section q.offset s.located.section s.offset (eqb-true q.located.section s.located.section place.0) (eqb-true q.offset s.offset place.1) (here_has before s tail parts.1)

      go : (seen q.located.section q.offset (before ++ s ∷ []) ≡ true) ⊎ At q (local_symbols t laid (before ++ s ∷ []) rest)
          → (seen q.located.section q.offset before ≡ true) ⊎ At q (local_symbols t laid before (s ∷ rest))
      go (inl h) = last (or_last (seen q.located.section q.offset before) (((q.located.section == s.located.section) && (q.offset == s.offset)) && meant s)
          (sym (list_any-append (λ y. ((q.located.section == y.located.section) && (q.offset == y.offset)) && meant y) before (s ∷ [])) ∙ h))
      go (inr h) = inr (any_right test (unnamed_symbols t (references t laid) before s) tail (any_right test (named_symbols t laid s) (local_symbols t laid (before ++ s ∷ []) rest) h))

  own_has : (i : ℕ) (q : LaidStatement) → slice_get laid i ≡ Some q → meant q ≡ true → At q (own_symbols t laid)
  own_has i q e m = go (local_has [] laid i q e m)
    where
      go : (false ≡ true) ⊎ At q (local_symbols t laid [] laid) → At q (own_symbols t laid)
      go (inl h) = absurd (cc)
      go (inr h) = any_left (is_at_place q.located.section q.offset) (local_symbols t laid [] laid) (exports t laid) h

  -- a statement that a use without a name means
  is_meant_by : (rs : List SymbolUse) (j : ℕ) (r : SymbolUse) (s : LaidStatement) (d : laws.Definition) → slice_get rs j ≡ Some r → is_unnamed r.symbol ≡ true → laws.definition t r.ordinal r.symbol ≡ Some d
      → d.ordinal ≡ s.located.ordinal → is_meant t rs s ≡ true
  is_meant_by [] zero r s d e u f o = absurd (cc)
  is_meant_by [] (suc j) r s d e u f o = absurd (cc)
  is_meant_by (q ∷ qs) zero r s d e u f o =
      let same : q ≡ r = cc in
      or_left (is_unnamed q.symbol && is_defined_at s.located.ordinal (laws.definition t q.ordinal q.symbol)) _
      (ap (λ (y : SymbolUse). is_unnamed y.symbol && is_defined_at s.located.ordinal (laws.definition t y.ordinal y.symbol)) same
      ∙ and_from (is_unnamed r.symbol) (is_defined_at s.located.ordinal (laws.definition t r.ordinal r.symbol)) u (ap (is_defined_at s.located.ordinal) f ∙ eq-eqb d.ordinal s.located.ordinal o))
  is_meant_by (q ∷ qs) (suc j) r s d e u f o = or_right (is_unnamed q.symbol && is_defined_at s.located.ordinal (laws.definition t q.ordinal q.symbol)) _ (is_meant_by qs j r s d e u f o)

  place_parts : (section offset : ℕ) (x : Symbol) → is_at_place section offset x ≡ true → (x.name ≡ []) × (x.definition ≡ InSection section offset)
  place_parts section offset x e =
      let parts = and_parts (bytes_eq x.name []) (stands_in section offset x.definition) e in
      (same_bytes x.name [] parts.0, stood x.definition parts.1)
    where
      stood : (d : Defined) → stands_in section offset d ≡ true → d ≡ InSection section offset
      stood (InSection s o) h =
          let both = and_parts (s == section) (o == offset) h in
          ap (λ n. InSection n o) (eqb-true s section both.0) ∙ ap (λ n. InSection section n) (eqb-true o offset both.1)
      stood Undefined h = absurd (cc)
      stood (Absolute n) h = absurd (cc)
      stood (Skipped n) h = absurd (cc)

  own_is : (q : Primary) (d : laws.Definition) → is_unnamed q ≡ true → own_number (own_symbols t laid) laid d q ≡ place_number (own_symbols t laid) (laid_at laid d.ordinal)
  own_is (Named name) d u = absurd (cc)
  own_is (Literal n) d u = refl
  own_is Here d u = refl
  own_is (Reference digits forward) d u = refl

  nameless : (q : Primary) (o : ℕ) (d : laws.Definition) (x : Symbol) → is_unnamed q ≡ true → laws.definition t o q ≡ Some d → x.name ≡ [] → IsNamed q x
  nameless (Named name) o d x u e h = absurd (cc)
  nameless (Literal n) o d x u e h = absurd (cc)
  nameless Here o d x u e h = h
  nameless (Reference digits forward) o d x u e h = h

  -- no other file's definition stands for a place
  keeps : (q : Primary) → is_unnamed q ≡ true → gives_way t q ≡ false
  keeps (Named name) u = absurd (cc)
  keeps (Literal n) u = refl
  keeps Here u = refl
  keeps (Reference digits forward) u = refl

  -- symbols without names are not weak: names are not empty
  strong : AllByRecursion (λ s. AreSome t s.located) laid → AllByRecursion (λ x. bytes_eq x.name [] ≡ true → is_weak x.binding ≡ false) (own_symbols t laid)
  strong names =
      each_own t laid (λ x. bytes_eq x.name [] ≡ true → is_weak x.binding ≡ false) (λ n d. bytes_eq n [] ≡ false) (λ d e. refl) (λ n d e h f. refl) (λ n d h f. absurd (cc)) names

  -- a use without a name, whose statement stands at an index
  pub unnamed_stands : AllByRecursion (λ s. AreSome t s.located) laid → (j : ℕ) (r : SymbolUse) (d : laws.Definition) (i : ℕ) (s : LaidStatement) → slice_get (references t laid) j ≡ Some r → is_unnamed r.symbol ≡ true → laws.definition t r.ordinal r.symbol ≡ Some d
      → slice_get laid i ≡ Some s → laid_at laid d.ordinal ≡ Some s → d.ordinal ≡ s.located.ordinal → s.located.placed ≡ true → d.plus ≡ 0 → s.offset < 2 ^ 64
      → StandsFor t laid r.ordinal r.symbol (slice_get (symbols_of t laid) (numbering_in t laid r.ordinal r.symbol))
  unnamed_stands names j r d i s at u f here laid_statement o placed plus low =
      let own = own_symbols t laid in
      let test = is_at_place s.located.section s.offset in
      let found = got_last test own (own_has i s here (is_meant_by (references t laid) j r s d at u f o)) in
      let x : Symbol = found.0 in
      let parts = place_parts s.located.section s.offset x found.2 in
      let n : numbering_in t laid r.ordinal r.symbol ≡ unwrap_or (last_index test own) 0 =
      ap (number_by own (missing_names t (references t laid)) laid r.symbol) f ∙ own_is r.symbol d u ∙ ap (place_number own) laid_statement in
      let got : slice_get (symbols_of t laid) (numbering_in t laid r.ordinal r.symbol) ≡ Some x =
      ap (slice_get (symbols_of t laid)) n ∙ ap (λ l. slice_get l (unwrap_or (last_index test own) 0)) (whole t laid) ∙ get_front own _ (unwrap_or (last_index test own) 0) x found.1 in
      let end : s.offset ≡ add s.offset d.plus = omega arith in
      subst (λ y. StandsFor t laid r.ordinal r.symbol y) (sym got) (
        nameless r.symbol r.ordinal d x u f parts.0,
        get_each (λ x. bytes_eq x.name [] ≡ true → is_weak x.binding ≡ false) own (unwrap_or (last_index test own) 0) x found.1 (strong names) (ap (λ n. bytes_eq n []) parts.0)
            ∙ sym (keeps r.symbol u),
        subst (λ h. IsDefinedBy laid r.symbol h x) (sym f) (s, laid_statement, placed, parts.1 ∙ ap (InSection s.located.section) end),
      )

-- The definitions of sources for all files and those of their objects follow one another alike.

use Rattle.std.proofs.Common.{◌≡◌, ℕ, suc, ◌≤◌, ◌<◌, Bool, true, false, List, [], ◌∷◌, ◌++◌, refl, sym, ap, ◌∙◌, subst, arith, map, ◌⊎◌, inl, inr}
use Rattle.std.proofs.lemmas.Bool.{ne_eqb, eq-eqb}
use Rattle.std.proofs.lemmas.Grind.{flat_map-append}
use Rattle.std.specs.Prelude.{⊤, Some, ◌&&◌, ◌==◌, if◌then◌else◌, filter, flat_map}
use Rattle.std.specs.List.{AllByRecursion}
use Rattle.rv_statement_laws.specs.Statement.{StatementKind, Label, Numbered, Instruction, Directs, Enters, Sets}
use Rattle.rv_statement_laws.specs.declared.directive.Binding.{Binding as SourceBinding}
use Rattle.rv_statement_laws.specs.declared.directive.Binding.TheVariants.{Local, Global, Weak}
use Rattle.rv_unit_laws.specs.Bindings.{is_shared, is_global, is_weak}
use Rattle.rv_unit_laws.specs.Tables.{Tables}
use Rattle.rv_source_laws.specs.Exports.{defined_name, sets_first, names_where}
use Rattle.rv_source_laws.specs.Located.{Located}
use Rattle.rv_source_laws.specs.Program as source
use Rattle.rv_source_laws.specs.Program.{MaybeMapped, Program, export, tables_in, exports_at}
use Rattle.rv_object_laws.specs.Object.{Symbol, Object}
use Rattle.rv_object_laws.specs.Bindings as symbols
use Rattle.rv_link_laws.specs.Names as objects
use Rattle.rv_link_laws.specs.Names.{exports_in, exports_from}
use Rattle.rv_assemble_laws.specs.LaidStatements.{LaidStatement}
use Rattle.rv_assemble_laws.specs.Symbols.{outer_binding, shared_symbol, statement_definition, exports_of, exports}
use Rattle.rv_sources_link_theorems.proofs.names.ExportedLemmas.{is_exported}
use Rattle.rv_sources_link_theorems.proofs.names.PairLemmas.{ArePaired, Rise, IsPair, AreMade}
use Rattle.rv_sources_link_theorems.proofs.names.PairedLemmas.{AreApart}
use Rattle.rv_sources_link_theorems.proofs.statements.StatementsLemmas.{renumbered}

-- ---- tests of bindings

global_same : (b : SourceBinding) → is_shared b ≡ true → is_global b ≡ symbols.is_global (outer_binding b)
global_same Local e = absurd (cc)
global_same Global e = refl
global_same Weak e = refl

weak_same : (b : SourceBinding) → is_weak b ≡ symbols.is_weak (outer_binding b)
weak_same Local = refl
weak_same Global = refl
weak_same Weak = refl

-- ---- a statement defines one name at most

abbrev IsShort : List (List ℕ) → Type 0
IsShort [] = ⊤
IsShort (name ∷ []) = ⊤
IsShort (name ∷ other ∷ names) = ⊥

one_name : (t : Tables) (ordinal : ℕ) (kind : StatementKind) → IsShort (defined_name t ordinal kind)
one_name t ordinal (Label name) = tt
one_name t ordinal (Numbered number) = tt
one_name t ordinal (Instruction mnemonic operands) = tt
one_name t ordinal (Directs (Sets name e)) = go (sets_first t.assignments ordinal name)
  where
    go : (b : Bool) → IsShort (if b then name ∷ [] else [])
    go true = tt
    go false = tt
one_name t ordinal (Directs (Enters section)) = tt
one_name t ordinal (Directs _) = tt

-- ---- the order of definitions

-- the binding of a definition in its file
abbrev pub binding_of : Program → source.Export → SourceBinding
binding_of p x = (tables_in p x.statement.located.file).bindings x.name

abbrev pub are_same : source.Export → source.Export → Bool
are_same x y = source.is_this x (Some y)

abbrev pub are_one : objects.Export → objects.Export → Bool
are_one e f = objects.is_this e (Some f)

module _ (R : source.Export → objects.Export → Type 0) (p : Program) where
  -- a pair, as the lists of definitions have it
  pub record IsMatched (x : source.Export) (e : objects.Export) : Type 0 where
    pub pair : R x e
    pub file : x.statement.located.file ≡ e.file
    pub name : x.name ≡ e.symbol.name
    pub global : is_global (binding_of p x) ≡ symbols.is_global e.symbol.binding
    pub weak : is_weak (binding_of p x) ≡ symbols.is_weak e.symbol.binding

  -- it stands in a later file, or in the same at least so far
  abbrev IsBeyond : ℕ → ℕ → ℕ → source.Export → objects.Export → Type 0
  IsBeyond file n i x e =
      (file < x.statement.located.file) ⊎ ((file ≡ x.statement.located.file) × (n ≤ x.statement.located.ordinal) × (i ≤ e.index))

  -- by file, and there by ordinal and index
  abbrev pub AreMatched : ℕ → ℕ → ℕ → List source.Export → List objects.Export → Type 0
  AreMatched file n i [] [] = ⊤
  AreMatched file n i [] (e ∷ es) = ⊥
  AreMatched file n i (x ∷ xs) [] = ⊥
  AreMatched file n i (x ∷ xs) (e ∷ es) =
      IsMatched x e × IsBeyond file n i x e × AreMatched x.statement.located.file (suc x.statement.located.ordinal) (suc e.index) xs es

  later_file : (file n i : ℕ) (xs : List source.Export) (es : List objects.Export) → AreMatched (suc file) 0 0 xs es → AreMatched file n i xs es
  later_file file n i [] [] h = tt
  later_file file n i [] (e ∷ es) h = absurd h
  later_file file n i (x ∷ xs) [] h = absurd h
  later_file file n i (x ∷ xs) (e ∷ es) (m, b, h) = (m, inl (go b), h)
    where
      go : IsBeyond (suc file) 0 0 x e → file < x.statement.located.file
      go (inl l) = omega (arith, l)
      go (inr (l, a, c)) = omega (arith, l)

  pub matched_pairs : (file n i : ℕ) (xs : List source.Export) (es : List objects.Export) → AreMatched file n i xs es → ArePaired IsMatched xs es
  matched_pairs file n i [] [] h = tt
  matched_pairs file n i [] (e ∷ es) h = absurd h
  matched_pairs file n i (x ∷ xs) [] h = absurd h
  matched_pairs file n i (x ∷ xs) (e ∷ es) (m, b, h) = (m, matched_pairs x.statement.located.file (suc x.statement.located.ordinal) (suc e.index) xs es h)

  -- ---- none is another

  never : (b : Bool) → (b && false) ≡ false
  never true = refl
  never false = refl

  other_first : (a b c d : ℕ) → (a ≡ b → ⊥) → ((a == b) && (c == d)) ≡ false
  other_first a b c d f = ap (λ q. q && (c == d)) (ne_eqb a b f)

  other_second : (a b c d : ℕ) → (c ≡ d → ⊥) → ((a == b) && (c == d)) ≡ false
  other_second a b c d f = ap (λ q. (a == b) && q) (ne_eqb c d f) ∙ never (a == b)

  abbrev IsLater : source.Export → objects.Export → source.Export → objects.Export → Type 0
  IsLater x e y g =
      (x.statement.located.file < y.statement.located.file)
      ⊎ ((x.statement.located.file ≡ y.statement.located.file) × (x.statement.located.ordinal < y.statement.located.ordinal) × (e.index < g.index))

  apart : (x : source.Export) (e : objects.Export) (y : source.Export) (g : objects.Export) → x.statement.located.file ≡ e.file → y.statement.located.file ≡ g.file
      → IsLater x e y g → (are_same x y ≡ are_one e g) × (are_same y x ≡ are_one g e)
  apart x e y g own other (inl l) = (
    other_first x.statement.located.file y.statement.located.file x.statement.located.ordinal y.statement.located.ordinal (λ k. omega (arith, l, k))
        ∙ sym (other_first e.file g.file e.index g.index (λ k. omega (arith, l, k, own, other))),
    other_first y.statement.located.file x.statement.located.file y.statement.located.ordinal x.statement.located.ordinal (λ k. omega (arith, l, k))
        ∙ sym (other_first g.file e.file g.index e.index (λ k. omega (arith, l, k, own, other))),
  )
  apart x e y g own other (inr (f, l, m)) = (
    other_second x.statement.located.file y.statement.located.file x.statement.located.ordinal y.statement.located.ordinal (λ k. omega (arith, l, k))
        ∙ sym (other_second e.file g.file e.index g.index (λ k. omega (arith, m, k))),
    other_second y.statement.located.file x.statement.located.file y.statement.located.ordinal x.statement.located.ordinal (λ k. omega (arith, l, k))
        ∙ sym (other_second g.file e.file g.index e.index (λ k. omega (arith, m, k))),
  )

  -- what an earlier pair lets begin, from a file, an ordinal and an index on
  abbrev IsBefore : source.Export → objects.Export → ℕ → ℕ → ℕ → Type 0
  IsBefore x e file n i =
      (x.statement.located.file < file) ⊎ ((x.statement.located.file ≡ file) × (x.statement.located.ordinal < n) × (e.index < i))

  is_later : (x : source.Export) (e : objects.Export) (file n i : ℕ) (y : source.Export) (g : objects.Export) → IsBefore x e file n i → IsBeyond file n i y g → IsLater x e y g
  is_later x e file n i y g (inl a) (inl b) = inl (omega (arith, a, b))
  is_later x e file n i y g (inl a) (inr (b, c, d)) = inl (omega (arith, a, b))
  is_later x e file n i y g (inr (a, c, d)) (inl b) = inl (omega (arith, a, b))
  is_later x e file n i y g (inr (a, c, d)) (inr (b, j, k)) = inr (a ∙ b, omega (arith, c, j), omega (arith, d, k))

  still_before : (x : source.Export) (e : objects.Export) (y : source.Export) (g : objects.Export) → IsLater x e y g
      → IsBefore x e y.statement.located.file (suc y.statement.located.ordinal) (suc g.index)
  still_before x e y g (inl a) = inl a
  still_before x e y g (inr (a, c, d)) = inr (a, omega (arith, c), omega (arith, d))

  apart_from : (x : source.Export) (e : objects.Export) → x.statement.located.file ≡ e.file → (file n i : ℕ) → IsBefore x e file n i
      → (ys : List source.Export) (gs : List objects.Export) → AreMatched file n i ys gs
      → ArePaired (λ y g. (are_same x y ≡ are_one e g) × (are_same y x ≡ are_one g e)) ys gs
  apart_from x e own file n i b [] [] h = tt
  apart_from x e own file n i b [] (g ∷ gs) h = absurd h
  apart_from x e own file n i b (y ∷ ys) [] h = absurd h
  apart_from x e own file n i b (y ∷ ys) (g ∷ gs) (m, c, h) =
      let later = is_later x e file n i y g b c in (
        apart x e y g own m.file later,
        apart_from x e own y.statement.located.file (suc y.statement.located.ordinal) (suc g.index) (still_before x e y g later) ys gs h,
      )

  pub all_apart : (file n i : ℕ) (xs : List source.Export) (es : List objects.Export) → AreMatched file n i xs es → AreApart are_same are_one xs es
  all_apart file n i [] [] h = tt
  all_apart file n i [] (e ∷ es) h = absurd h
  all_apart file n i (x ∷ xs) [] h = absurd h
  all_apart file n i (x ∷ xs) (e ∷ es) (m, b, h) =
      let f = x.statement.located.file in
      let n = x.statement.located.ordinal in (
        apart_from x e m.file f (suc n) (suc e.index) (inr (refl, omega arith, omega arith)) xs es h,
        all_apart f (suc n) (suc e.index) xs es h,
      )

  pub self_same : (x : source.Export) (e : objects.Export) → are_same x x ≡ are_one e e
  self_same x e =
      ap (λ b. b && (x.statement.located.ordinal == x.statement.located.ordinal)) (eq-eqb x.statement.located.file x.statement.located.file refl)
      ∙ eq-eqb x.statement.located.ordinal x.statement.located.ordinal refl
      ∙ sym (ap (λ b. b && (e.index == e.index)) (eq-eqb e.file e.file refl) ∙ eq-eqb e.index e.index refl)

  -- ---- an object

  module _ (file : ℕ) (o : Object) where
    -- a definition of the source, and the symbol made of it
    pub record IsMadeOf (x : source.Export) (s : Symbol) : Type 0 where
      pub pair : (index : ℕ) → R x (record { file = file; object = o; index = index; symbol = s })
      pub file_is : x.statement.located.file ≡ file
      pub name : x.name ≡ s.name
      pub global : is_global (binding_of p x) ≡ symbols.is_global s.binding
      pub weak : is_weak (binding_of p x) ≡ symbols.is_weak s.binding

    abbrev ByOrdinal : ℕ → List source.Export → List Symbol → Type 0
    ByOrdinal n [] [] = ⊤
    ByOrdinal n [] (s ∷ ss) = ⊥
    ByOrdinal n (x ∷ xs) [] = ⊥
    ByOrdinal n (x ∷ xs) (s ∷ ss) = IsMadeOf x s × (n ≤ x.statement.located.ordinal) × ByOrdinal (suc x.statement.located.ordinal) xs ss

    sooner : (m n : ℕ) → m ≤ n → (xs : List source.Export) (ss : List Symbol) → ByOrdinal n xs ss → ByOrdinal m xs ss
    sooner m n l [] [] h = tt
    sooner m n l [] (s ∷ ss) h = absurd h
    sooner m n l (x ∷ xs) [] h = absurd h
    sooner m n l (x ∷ xs) (s ∷ ss) (k, a, h) = (k, omega (arith, l, a), h)

    -- the symbols, among all of the object
    by_index : (xs' : List source.Export) (es' : List objects.Export) → AreMatched (suc file) 0 0 xs' es'
        → (n i k : ℕ) → i ≤ k → (xs : List source.Export) (ss : List Symbol) → ByOrdinal n xs (filter is_exported ss)
        → AreMatched file n i (xs ++ xs') (exports_in symbols.is_shared file o k ss ++ es')
    by_index xs' es' later n i k l [] [] h = later_file file n i xs' es' later
    by_index xs' es' later n i k l (x ∷ xs) [] h = absurd h
    by_index xs' es' later n i k l xs (s ∷ ss) h = go (λ n i l xs h. by_index xs' es' later n i (suc k) l xs ss h) (is_exported s) h
      where
        rest : List Symbol
        rest = filter is_exported ss

        others : List objects.Export
        others = exports_in symbols.is_shared file o (suc k) ss

        own : objects.Export
        own = record { file = file; object = o; index = k; symbol = s }

        Next : Type 0
        Next = (n i : ℕ) → i ≤ suc k → (xs : List source.Export) → ByOrdinal n xs rest → AreMatched file n i (xs ++ xs') (others ++ es')

        with_own : Next → (xs : List source.Export) → ByOrdinal n xs (s ∷ rest) → AreMatched file n i (xs ++ xs') (own ∷ (others ++ es'))
        with_own next [] h = absurd h
        with_own next (x ∷ xs) (m, a, h) = (
          record { pair = m.pair k; file = m.file_is; name = m.name; global = m.global; weak = m.weak },
          inr (sym m.file_is, a, l),
          subst (λ f. AreMatched f (suc x.statement.located.ordinal) (suc k) (xs ++ xs') (others ++ es')) (sym m.file_is)
              (next (suc x.statement.located.ordinal) (suc k) (omega arith) xs h),
        )

        go : Next → (b : Bool) → ByOrdinal n xs (if b then s ∷ rest else rest) → AreMatched file n i (xs ++ xs') ((if b then own ∷ others else others) ++ es')
        go next true h = with_own next xs h
        go next false h = next n i (omega (arith, l)) xs h

    -- the symbols of statements
    module _ (t : Tables) (laid : List LaidStatement) (seen : LaidStatement → MaybeMapped) (tables : tables_in p file ≡ t) (located : (z : LaidStatement) → (seen z).located ≡ renumbered file z.located) where
      at_is : (z : LaidStatement) → exports_at is_shared p (seen z) ≡ map (export (seen z)) (names_where is_shared t z.located)
      at_is z =
          ap (λ (l : Located). map (export (seen z)) (names_where is_shared (tables_in p l.file) l)) (located z)
          ∙ ap (λ t. map (export (seen z)) (names_where is_shared t (renumbered file z.located))) tables

      made_of : (z : LaidStatement) (name : List ℕ) → IsPair R t laid seen file o z → defined_name t z.located.ordinal z.located.kind ≡ name ∷ [] → is_shared (t.bindings name) ≡ true
          → IsMadeOf (export (seen z) name) (shared_symbol t name (statement_definition t laid z z.located.kind))
      made_of z name pair e shared = record {
        pair = λ index. pair name index e shared;
        file_is = here;
        name = refl;
        global = ap is_global bound ∙ global_same (t.bindings name) shared;
        weak = ap is_weak bound ∙ weak_same (t.bindings name);
      }
        where
          here : (seen z).located.file ≡ file
          here = ap (λ (l : Located). l.file) (located z)

          bound : (tables_in p (seen z).located.file).bindings name ≡ t.bindings name
          bound = ap (λ f. (tables_in p f).bindings name) here ∙ ap (λ (t : Tables). t.bindings name) tables

      by_ordinal : (n : ℕ) (zs : List LaidStatement) → Rise n zs → AllByRecursion (IsPair R t laid seen file o) zs
          → ByOrdinal n (flat_map (exports_at is_shared p) (map seen zs)) (flat_map (exports_of t laid) zs)
      by_ordinal n [] r h = tt
      by_ordinal n (z ∷ zs) (r, rs) (h, hs) =
          subst (λ l. ByOrdinal n (l ++ later) (exports_of t laid z ++ symbols)) (sym (at_is z))
          (named (by_ordinal (suc z.located.ordinal) zs rs hs) (defined_name t z.located.ordinal z.located.kind) refl (one_name t z.located.ordinal z.located.kind))
        where
          later : List source.Export
          later = flat_map (exports_at is_shared p) (map seen zs)

          symbols : List Symbol
          symbols = flat_map (exports_of t laid) zs

          made : List ℕ → Symbol
          made name = shared_symbol t name (statement_definition t laid z z.located.kind)

          shares : List ℕ → Bool
          shares name = is_shared (t.bindings name)

          skip : ByOrdinal (suc z.located.ordinal) later symbols → ByOrdinal n later symbols
          skip ih = sooner n (suc z.located.ordinal) (omega (arith, r)) later symbols ih

          ordinal_is : (seen z).located.ordinal ≡ z.located.ordinal
          ordinal_is = ap (λ (l : Located). l.ordinal) (located z)

          named : ByOrdinal (suc z.located.ordinal) later symbols → (names : List (List ℕ)) → defined_name t z.located.ordinal z.located.kind ≡ names → IsShort names
              → ByOrdinal n (map (export (seen z)) (filter shares names) ++ later) (map made (filter shares names) ++ symbols)
          named ih [] e k = skip ih
          named ih (name ∷ other ∷ names) e k = absurd k
          named ih (name ∷ []) e k = go (is_shared (t.bindings name)) refl
            where
              go : (b : Bool) → is_shared (t.bindings name) ≡ b
                  → ByOrdinal n (map (export (seen z)) (if b then name ∷ [] else []) ++ later) (map made (if b then name ∷ [] else []) ++ symbols)
              go false f = skip ih
              go true f = (
                made_of z name h e f,
                omega (arith, r, ordinal_is),
                subst (λ m. ByOrdinal (suc m) later symbols) (sym ordinal_is) ih,
              )

  -- ---- all files

  pub all_matched : (file : ℕ) (os : List Object) (all : List MaybeMapped) → AreMade R p file os all
      → AreMatched file 0 0 (flat_map (exports_at is_shared p) all) (exports_from symbols.is_shared file os)
  all_matched file [] all h = subst (λ l. AreMatched file 0 0 (flat_map (exports_at is_shared p) l) []) (sym h) tt
  all_matched file (o ∷ os) all (own, rest, e, m, h) =
      subst (λ l. AreMatched file 0 0 l (exports_in symbols.is_shared file o 0 o.symbols ++ exports_from symbols.is_shared (suc file) os)) (sym joined)
      (by_index file o (flat_map (exports_at is_shared p) rest) (exports_from symbols.is_shared (suc file) os) (all_matched (suc file) os rest h)
      0 0 0 (omega arith) (flat_map (exports_at is_shared p) (map m.seen m.laid)) o.symbols
      (subst (λ ss. ByOrdinal file o 0 (flat_map (exports_at is_shared p) (map m.seen m.laid)) ss) (sym m.exported_are)
      (sooner file o 0 1 (omega arith) (flat_map (exports_at is_shared p) (map m.seen m.laid)) (exports m.t m.laid)
      (by_ordinal file o m.t m.laid m.seen m.tables m.located 1 m.laid m.rise m.pairs))))
    where
      joined : flat_map (exports_at is_shared p) all ≡ flat_map (exports_at is_shared p) (map m.seen m.laid) ++ flat_map (exports_at is_shared p) rest
      joined =
          ap (flat_map (exports_at is_shared p)) e ∙ flat_map-append (exports_at is_shared p) own rest
          ∙ ap (λ l. flat_map (exports_at is_shared p) l ++ flat_map (exports_at is_shared p) rest) m.own_are

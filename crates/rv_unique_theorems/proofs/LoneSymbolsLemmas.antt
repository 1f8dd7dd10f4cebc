-- No two symbols of a source have one name and one place.

use Rattle.std.proofs.Common.{◌≡◌, ℕ, ◌+◌, ◌≤◌, Bool, true, false, List, [], ◌∷◌, ◌++◌, map, refl, sym, ap, ◌∙◌, subst, arith, Option, Some, None}
use Rattle.rv_assemble_laws.specs.Symbols.{is_named, stands_in, SymbolUse, laid_at, after_found, assigned_definition, statement_definition, local_symbol, shared_symbol, references, is_meant, unnamed_symbols, is_absolute, named_symbols, local_symbols, exports_of, exports, missing_name, distinct_from, undefined_symbols, symbols_of}
use Rattle.std.specs.Prelude.{not, ◌&&◌, ◌||◌, ◌==◌, filter, flat_map, if◌then◌else◌}
use Rattle.std.specs.List.{AllByRecursion, list_any}
use Rattle.std.specs.Str.{bytes_eq}
use Rattle.std.proofs.lemmas.Bool.{eqb-true, eq-eqb, and_parts, and_right}
use Rattle.std.proofs.lemmas.List.Folds.{list_any-append}
use Rattle.rv_list_laws.proofs.ElementsLemmas.{same_bytes}
use Rattle.rv_list_laws.proofs.FilterLemmas.{each_filter}
use Rattle.rv_list_laws.proofs.EachLemmas.{each_append, each_mapped}
use Rattle.rv_map_laws.specs.Globals.{is_one_of}
use Rattle.rv_statement_laws.specs.Statement.{StatementKind, Directs, Sets}
use Rattle.rv_expression_laws.specs.Values.{Meaning, Known, InSection as InData, Open as OpenAddress, Refused}
use Rattle.rv_unit_laws.specs.Bindings.{is_shared}
use Rattle.rv_unit_laws.specs.Tables.{Tables, Assignment, assigned_ever}
use Rattle.rv_source_laws.specs.Exports.{defined_name}
use Rattle.rv_object_laws.specs.declared.symbol.Definition.{Definition as Defined}
use Rattle.rv_object_laws.specs.declared.symbol.Definition.TheVariants.{Undefined, Absolute, InSection, Skipped}
use Rattle.rv_object_laws.specs.Object.{Symbol}
use Rattle.rv_assemble_laws.specs.LaidStatements.{LaidStatement}
use Rattle.rv_unique_theorems.proofs.CountsLemmas.{one_if, count, count_append, one_most, one_is, one_none, count_less, count_none, count_map, count_kept, count_dropped}

-- ---- tests

abbrev pub is_this : List ℕ → List ℕ → Bool
is_this name n = bytes_eq n name

-- the name that a statement defines
abbrev pub names_of : Tables → LaidStatement → List (List ℕ)
names_of t s = defined_name t s.located.ordinal s.located.kind

abbrev pub is_undefined : Defined → Bool
is_undefined Undefined = true
is_undefined _ = false

-- a symbol of this name at a place, and one that is left undefined
abbrev pub is_place : List ℕ → ℕ → ℕ → Symbol → Bool
is_place name section offset x = is_named name x && stands_in section offset x.definition

abbrev pub is_outer : List ℕ → Symbol → Bool
is_outer name x = is_named name x && is_undefined x.definition

-- ---- names that are left undefined are distinct

distinct_once : (name : List ℕ) (before names : List (List ℕ)) → count (is_this name) (distinct_from before names) + one_if (is_one_of before name) ≤ 1
distinct_once name before [] = let most = one_most (is_one_of before name) in omega (arith, most)
distinct_once name before (n ∷ names) = go (is_one_of before n) refl (bytes_eq n name) refl (distinct_once name before names) (distinct_once name (n ∷ before) names)
  where
    go : (b : Bool) → is_one_of before n ≡ b → (c : Bool) → bytes_eq n name ≡ c → count (is_this name) (distinct_from before names) + one_if (is_one_of before name) ≤ 1
        → count (is_this name) (distinct_from (n ∷ before) names) + one_if (bytes_eq n name || is_one_of before name) ≤ 1
        → count (is_this name) (if b then distinct_from before names else n ∷ distinct_from (n ∷ before) names) + one_if (is_one_of before name) ≤ 1
    go true e c f h k = h
    go false e true f h k =
        let same : n ≡ name = same_bytes n name f in
        let none : one_if (is_one_of before name) ≡ 0 = one_none (is_one_of before name) (ap (is_one_of before) (sym same) ∙ e) in
        let own : one_if (bytes_eq n name) ≡ 1 = one_is (bytes_eq n name) f in
        let both : one_if (bytes_eq n name || is_one_of before name) ≡ 1 = ap (λ b. one_if (b || is_one_of before name)) f in
        omega (arith, none, own, both, k)
    go false e false f h k =
        let own : one_if (bytes_eq n name) ≡ 0 = one_none (bytes_eq n name) f in
        let both : one_if (bytes_eq n name || is_one_of before name) ≡ one_if (is_one_of before name) = ap (λ b. one_if (b || is_one_of before name)) f in
        omega (arith, own, both, k)

module _ (t : Tables) (laid : List LaidStatement) where
  abbrev place : LaidStatement → Defined
  place s = statement_definition t laid s s.located.kind

  abbrev own : List Symbol
  own = local_symbols t laid [] laid ++ exports t laid

  whole : (test : Symbol → Bool) → count test (symbols_of t laid) ≡ count test (local_symbols t laid [] laid) + (count test (exports t laid) + count test (undefined_symbols t laid))
  whole test =
      count_append test (local_symbols t laid [] laid) (exports t laid ++ undefined_symbols t laid)
      ∙ ap (λ n. count test (local_symbols t laid [] laid) + n) (count_append test (exports t laid) (undefined_symbols t laid))

  -- ---- what holds of the symbols of each statement

  module _ (P : Symbol → Type 0) where
    abbrev Locals : LaidStatement → Type 0
    Locals s = AllByRecursion (λ n. P (local_symbol n (place s))) (names_of t s)

    abbrev Globals : LaidStatement → Type 0
    Globals s = AllByRecursion (λ n. P (shared_symbol t n (place s))) (names_of t s)

    named_all : (s : LaidStatement) → Locals s → AllByRecursion P (named_symbols t laid s)
    named_all s h =
        each_filter P (λ x. not (is_absolute x)) _ (each_mapped P (λ n. local_symbol n (place s)) _ (each_filter (λ n. P (local_symbol n (place s))) (λ n. not (is_shared (t.bindings n))) (names_of t s) h))

    exported_all : (xs : List LaidStatement) → AllByRecursion Globals xs → AllByRecursion P (flat_map (exports_of t laid) xs)
    exported_all [] h = tt
    exported_all (s ∷ xs) (h, hs) =
        each_append P (exports_of t laid s) _ (each_mapped P (λ n. shared_symbol t n (place s)) _ (each_filter (λ n. P (shared_symbol t n (place s))) (λ n. is_shared (t.bindings n)) (names_of t s) h)) (exported_all xs hs)

  -- ---- undefined ones

  not_undefined_found : (found : Option LaidStatement) (plus : ℕ) → is_undefined (after_found found plus) ≡ false
  not_undefined_found None plus = refl
  not_undefined_found (Some s) plus = refl

  not_undefined_set : (found : Option Assignment) → is_undefined (assigned_definition laid found) ≡ false
  not_undefined_set None = refl
  not_undefined_set (Some a) = go a.meaning
    where
      go : (m : Meaning)
          → is_undefined (elim m [ Known n ↦ Absolute n | InData section offset ↦ after_found (laid_at laid a.ordinal) a.plus | OpenAddress ↦ Skipped 0 | Refused code ↦ Skipped 0 ]) ≡ false
      go (Known n) = refl
      go (InData section offset) = not_undefined_found (laid_at laid a.ordinal) a.plus
      go OpenAddress = refl
      go (Refused code) = refl

  not_undefined : (s : LaidStatement) (kind : StatementKind) → is_undefined (statement_definition t laid s kind) ≡ false
  not_undefined s (Directs (Sets name e)) = not_undefined_set (assigned_ever t.assignments name)
  not_undefined s (Directs d) = refl
  not_undefined s kind = refl

  every : {X : Type 0} (P : X → Type 0) (xs : List X) → ((x : X) → P x) → AllByRecursion P xs
  every P [] f = tt
  every P (x ∷ xs) f = (f x, every P xs f)

  module _ (name : List ℕ) where
    abbrev Inner : Symbol → Type 0
    Inner x = is_outer name x ≡ false

    unnamed_inner : (before : List LaidStatement) (s : LaidStatement) → AllByRecursion Inner (unnamed_symbols t (references t laid) before s)
    unnamed_inner before s = go _
      where
        go : (b : Bool) → AllByRecursion Inner (if b then local_symbol [] (InSection s.located.section s.offset) ∷ [] else [])
        go true = (and_right (bytes_eq [] name) false refl, tt)
        go false = tt

    locals_inner : (before xs : List LaidStatement) → AllByRecursion Inner (local_symbols t laid before xs)
    locals_inner before [] = tt
    locals_inner before (s ∷ xs) =
        each_append Inner (unnamed_symbols t (references t laid) before s) _ (unnamed_inner before s)
        (each_append Inner (named_symbols t laid s) _
        (named_all Inner s (every (λ n. Inner (local_symbol n (place s))) (names_of t s) (λ n. and_right (bytes_eq n name) (is_undefined (place s)) (not_undefined s s.located.kind))))
        (locals_inner (before ++ s ∷ []) xs))

    exports_inner : (xs : List LaidStatement) → AllByRecursion Inner (flat_map (exports_of t laid) xs)
    exports_inner xs =
        exported_all Inner xs (every (Globals Inner) xs (λ s. every (λ n. Inner (shared_symbol t n (place s))) (names_of t s) (λ n. and_right (bytes_eq n name) (is_undefined (place s)) (not_undefined s s.located.kind))))

    outer_named : (x : Symbol) → is_outer name x ≡ true → is_named name x ≡ true
    outer_named x e = (and_parts (is_named name x) (is_undefined x.definition) e).0

    pub outer_once : count (is_outer name) (symbols_of t laid) ≤ 1
    outer_once =
        let names = distinct_from [] (flat_map (λ r. missing_name t r.ordinal r.symbol) (references t laid)) in
        let all = whole (is_outer name) in
        let locals = count_none (is_outer name) (local_symbols t laid [] laid) (locals_inner [] laid) in
        let globals = count_none (is_outer name) (exports t laid) (exports_inner laid) in
        let less = count_less (is_outer name) (is_named name) outer_named (undefined_symbols t laid) in
        let names_are : count (is_named name) (undefined_symbols t laid) ≡ count (is_this name) names = count_map (is_named name) (λ n. shared_symbol t n Undefined) names in
        let once = distinct_once name [] (flat_map (λ r. missing_name t r.ordinal r.symbol) (references t laid)) in
        omega (arith, all, locals, globals, less, names_are, once)

  -- ---- those with a name

  module _ (name : List ℕ) (some : bytes_eq [] name ≡ false) where
    unnamed_none : (before : List LaidStatement) (s : LaidStatement) → count (is_named name) (unnamed_symbols t (references t laid) before s) ≡ 0
    unnamed_none before s = go _
      where
        go : (b : Bool) → count (is_named name) (if b then local_symbol [] (InSection s.located.section s.offset) ∷ [] else []) ≡ 0
        go true = let none = one_none (bytes_eq [] name) some in omega (arith, none)
        go false = refl

    -- the name's own binding
    bound : (b : Bool) → is_shared (t.bindings name) ≡ b → (n : List ℕ) → is_this name n ≡ true → is_shared (t.bindings n) ≡ b
    bound b g n e = ap (λ m. is_shared (t.bindings m)) (same_bytes n name e) ∙ g

    named_few : (s : LaidStatement) → count (is_named name) (named_symbols t laid s) ≤ count (is_this name) (names_of t s)
    named_few s =
        let mine = filter (λ n. not (is_shared (t.bindings n))) (names_of t s) in
        let a = count_kept (is_named name) (λ x. not (is_absolute x)) (map (λ n. local_symbol n (place s)) mine) in
        let b : count (is_named name) (map (λ n. local_symbol n (place s)) mine) ≡ count (is_this name) mine = count_map (is_named name) (λ n. local_symbol n (place s)) mine in
        let c = count_kept (is_this name) (λ n. not (is_shared (t.bindings n))) (names_of t s) in
        omega (arith, a, b, c)

    named_none : is_shared (t.bindings name) ≡ true → (s : LaidStatement) → count (is_named name) (named_symbols t laid s) ≡ 0
    named_none g s =
        let mine = filter (λ n. not (is_shared (t.bindings n))) (names_of t s) in
        let a = count_kept (is_named name) (λ x. not (is_absolute x)) (map (λ n. local_symbol n (place s)) mine) in
        let b : count (is_named name) (map (λ n. local_symbol n (place s)) mine) ≡ count (is_this name) mine = count_map (is_named name) (λ n. local_symbol n (place s)) mine in
        let c = count_dropped (is_this name) (λ n. not (is_shared (t.bindings n))) (λ n e. ap not (bound true g n e)) (names_of t s) in
        omega (arith, a, b, c)

    exported_few : (s : LaidStatement) → count (is_named name) (exports_of t laid s) ≤ count (is_this name) (names_of t s)
    exported_few s =
        let ours = filter (λ n. is_shared (t.bindings n)) (names_of t s) in
        let b : count (is_named name) (exports_of t laid s) ≡ count (is_this name) ours = count_map (is_named name) (λ n. shared_symbol t n (place s)) ours in
        let c = count_kept (is_this name) (λ n. is_shared (t.bindings n)) (names_of t s) in
        omega (arith, b, c)

    exported_none : is_shared (t.bindings name) ≡ false → (s : LaidStatement) → count (is_named name) (exports_of t laid s) ≡ 0
    exported_none g s =
        let ours = filter (λ n. is_shared (t.bindings n)) (names_of t s) in
        let b : count (is_named name) (exports_of t laid s) ≡ count (is_this name) ours = count_map (is_named name) (λ n. shared_symbol t n (place s)) ours in
        let c = count_dropped (is_this name) (λ n. is_shared (t.bindings n)) (λ n e. bound false g n e) (names_of t s) in
        omega (arith, b, c)

    abbrev Told : List LaidStatement → ℕ
    Told xs = count (is_this name) (flat_map (names_of t) xs)

    locals_few : (before xs : List LaidStatement) → count (is_named name) (local_symbols t laid before xs) ≤ Told xs
    locals_few before [] = omega arith
    locals_few before (s ∷ xs) =
        let next = local_symbols t laid (before ++ s ∷ []) xs in
        let a = count_append (is_named name) (unnamed_symbols t (references t laid) before s) (named_symbols t laid s ++ next) in
        let b = count_append (is_named name) (named_symbols t laid s) next in
        let c = unnamed_none before s in
        let d = named_few s in
        let e = locals_few (before ++ s ∷ []) xs in
        let f = count_append (is_this name) (names_of t s) (flat_map (names_of t) xs) in
        omega (arith, a, b, c, d, e, f)

    locals_none : is_shared (t.bindings name) ≡ true → (before xs : List LaidStatement) → count (is_named name) (local_symbols t laid before xs) ≡ 0
    locals_none g before [] = refl
    locals_none g before (s ∷ xs) =
        let next = local_symbols t laid (before ++ s ∷ []) xs in
        let a = count_append (is_named name) (unnamed_symbols t (references t laid) before s) (named_symbols t laid s ++ next) in
        let b = count_append (is_named name) (named_symbols t laid s) next in
        let c = unnamed_none before s in
        let d = named_none g s in
        let e = locals_none g (before ++ s ∷ []) xs in
        omega (arith, a, b, c, d, e)

    exports_few : (xs : List LaidStatement) → count (is_named name) (flat_map (exports_of t laid) xs) ≤ Told xs
    exports_few [] = omega arith
    exports_few (s ∷ xs) =
        let a = count_append (is_named name) (exports_of t laid s) (flat_map (exports_of t laid) xs) in
        let b = exported_few s in
        let c = exports_few xs in
        let f = count_append (is_this name) (names_of t s) (flat_map (names_of t) xs) in
        omega (arith, a, b, c, f)

    exports_none : is_shared (t.bindings name) ≡ false → (xs : List LaidStatement) → count (is_named name) (flat_map (exports_of t laid) xs) ≡ 0
    exports_none g [] = refl
    exports_none g (s ∷ xs) =
        let a = count_append (is_named name) (exports_of t laid s) (flat_map (exports_of t laid) xs) in
        let b = exported_none g s in
        let c = exports_none g xs in
        omega (arith, a, b, c)

    own_once : Told laid ≤ 1 → count (is_named name) (local_symbols t laid [] laid) + count (is_named name) (exports t laid) ≤ 1
    own_once once = go (is_shared (t.bindings name)) refl
      where
        go : (b : Bool) → is_shared (t.bindings name) ≡ b → count (is_named name) (local_symbols t laid [] laid) + count (is_named name) (exports t laid) ≤ 1
        go true g = let a = locals_none g [] laid in let b = exports_few laid in omega (arith, a, b, once)
        go false g = let a = locals_few [] laid in let b = exports_none g laid in omega (arith, a, b, once)

    pub named_once : (section offset : ℕ) → Told laid ≤ 1 → count (is_place name section offset) (symbols_of t laid) ≤ 1
    named_once section offset once =
        let test = is_place name section offset in
        let names = distinct_from [] (flat_map (λ r. missing_name t r.ordinal r.symbol) (references t laid)) in
        let less : (x : Symbol) → test x ≡ true → is_named name x ≡ true = λ x e. (and_parts (is_named name x) (stands_in section offset x.definition) e).0 in
        let all = whole test in
        let locals = count_less test (is_named name) less (local_symbols t laid [] laid) in
        let globals = count_less test (is_named name) less (exports t laid) in
        let outer = count_none test (undefined_symbols t laid) (each_mapped (λ x. test x ≡ false) (λ n. shared_symbol t n Undefined) names (every (λ n. test (shared_symbol t n Undefined) ≡ false) names (λ n. and_right (bytes_eq n name) false refl))) in
        let own = own_once once in
        omega (arith, all, locals, globals, outer, own)

  -- ---- those without a name

  module _ (section offset : ℕ) (shown : AllByRecursion (λ s. AllByRecursion (λ n. bytes_eq n [] ≡ false) (names_of t s)) laid) where
    abbrev here : Symbol → Bool
    here = is_place [] section offset

    abbrev rs : List SymbolUse
    rs = references t laid

    -- a reference before this one means the place
    abbrev seen : ℕ → ℕ → List LaidStatement → Bool
    seen a b before = list_any (λ q. ((a == q.located.section) && (b == q.offset)) && is_meant t rs q) before

    nameless_none : (s : LaidStatement) → AllByRecursion (λ n. bytes_eq n [] ≡ false) (names_of t s) → count here (named_symbols t laid s) ≡ 0
    nameless_none s h =
        count_none here (named_symbols t laid s)
        (named_all (λ x. here x ≡ false) s (all_map (λ n. bytes_eq n [] ≡ false) (λ n. here (local_symbol n (place s)) ≡ false) (names_of t s) (λ n e. ap (λ b. b && stands_in section offset (place s)) e) h))
      where
        all_map : (P Q : List ℕ → Type 0) (xs : List (List ℕ)) → ((n : List ℕ) → P n → Q n) → AllByRecursion P xs → AllByRecursion Q xs
        all_map P Q [] f h = tt
        all_map P Q (x ∷ xs) f (p, ps) = (f x p, all_map P Q xs f ps)

    exports_nameless : count here (exports t laid) ≡ 0
    exports_nameless =
        count_none here (exports t laid)
        (exported_all (λ x. here x ≡ false) laid (each laid shown))
      where
        all_map : (P Q : List ℕ → Type 0) (xs : List (List ℕ)) → ((n : List ℕ) → P n → Q n) → AllByRecursion P xs → AllByRecursion Q xs
        all_map P Q [] f h = tt
        all_map P Q (x ∷ xs) f (p, ps) = (f x p, all_map P Q xs f ps)

        each : (xs : List LaidStatement) → AllByRecursion (λ s. AllByRecursion (λ n. bytes_eq n [] ≡ false) (names_of t s)) xs → AllByRecursion (Globals (λ x. here x ≡ false)) xs
        each [] h = tt
        each (s ∷ xs) (h, hs) =
            (all_map (λ n. bytes_eq n [] ≡ false) (λ n. here (shared_symbol t n (place s)) ≡ false) (names_of t s) (λ n e. ap (λ b. b && stands_in section offset (place s)) e) h, each xs hs)

    seen_more : (before : List LaidStatement) (s : LaidStatement)
        → seen section offset (before ++ s ∷ []) ≡ (seen section offset before || (((section == s.located.section) && (offset == s.offset)) && is_meant t rs s || false))
    seen_more before s = list_any-append (λ q. ((section == q.located.section) && (offset == q.offset)) && is_meant t rs q) before (s ∷ [])

    first_or : (b c : Bool) → one_if b ≤ one_if (b || c)
    first_or true c = omega arith
    first_or false c = omega arith

    or_last : (b c : Bool) → c ≡ true → (b || (c || false)) ≡ true
    or_last true c e = refl
    or_last false true e = refl
    or_last false false e = absurd (cc)

    -- one symbol more stands there where none did
    step : (before : List LaidStatement) (s : LaidStatement) → count here (unnamed_symbols t rs before s) + one_if (seen section offset before) ≤ one_if (seen section offset (before ++ s ∷ []))
    step before s = go (is_meant t rs s) refl (seen s.located.section s.offset before) refl
      where
        more : one_if (seen section offset before) ≤ one_if (seen section offset (before ++ s ∷ []))
        more = subst (λ b. one_if (seen section offset before) ≤ one_if b) (sym (seen_more before s)) (first_or (seen section offset before) _)

        other : (n : ℕ) → n ≡ 0 → n + one_if (seen section offset before) ≤ one_if (seen section offset (before ++ s ∷ []))
        other n e = omega (arith, e, more)

        -- the symbol of the statement itself
        itself : (b : Bool) → ((s.located.section == section) && (s.offset == offset)) ≡ b → is_meant t rs s ≡ true → seen s.located.section s.offset before ≡ false
            → (one_if b + 0) + one_if (seen section offset before) ≤ one_if (seen section offset (before ++ s ∷ []))
        itself false at m free = other 0 refl
        itself true at m free =
            let parts = and_parts (s.located.section == section) (s.offset == offset) at in
            let one : s.located.section ≡ section = eqb-true s.located.section section parts.0 in
            let two : s.offset ≡ offset = eqb-true s.offset offset parts.1 in
            let not_seen : seen section offset before ≡ false = ap (λ n. seen n offset before) (sym one) ∙ ap (λ n. seen s.located.section n before) (sym two) ∙ free in
            let place_is : ((section == s.located.section) && (offset == s.offset)) ≡ true =
            ap (λ b. b && (offset == s.offset)) (eq-eqb section s.located.section (sym one)) ∙ eq-eqb offset s.offset (sym two) in
            let now : seen section offset (before ++ s ∷ []) ≡ true =
            seen_more before s ∙ or_last (seen section offset before) _ (ap (λ b. b && is_meant t rs s) place_is ∙ m) in
            let a = one_none (seen section offset before) not_seen in
            let b = one_is (seen section offset (before ++ s ∷ [])) now in
            omega (arith, a, b)

        go : (m : Bool) → is_meant t rs s ≡ m → (o : Bool) → seen s.located.section s.offset before ≡ o
            → count here (if m && not o then local_symbol [] (InSection s.located.section s.offset) ∷ [] else []) + one_if (seen section offset before) ≤ one_if (seen section offset (before ++ s ∷ []))
        go true m false o = itself ((s.located.section == section) && (s.offset == offset)) refl m o
        go true m true o = other 0 refl
        go false m o f = other 0 refl

    locals_once : (before xs : List LaidStatement) → AllByRecursion (λ s. AllByRecursion (λ n. bytes_eq n [] ≡ false) (names_of t s)) xs
        → count here (local_symbols t laid before xs) + one_if (seen section offset before) ≤ 1
    locals_once before [] h = let most = one_most (seen section offset before) in omega (arith, most)
    locals_once before (s ∷ xs) (h, hs) =
        let next = local_symbols t laid (before ++ s ∷ []) xs in
        let a = count_append here (unnamed_symbols t rs before s) (named_symbols t laid s ++ next) in
        let b = count_append here (named_symbols t laid s) next in
        let c = nameless_none s h in
        let d = step before s in
        let e = locals_once (before ++ s ∷ []) xs hs in
        omega (arith, a, b, c, d, e)

    pub unnamed_once : count here (symbols_of t laid) ≤ 1
    unnamed_once =
        let names = distinct_from [] (flat_map (λ r. missing_name t r.ordinal r.symbol) (references t laid)) in
        let all = whole here in
        let locals = locals_once [] laid shown in
        let globals = exports_nameless in
        let outer = count_none here (undefined_symbols t laid) (each_mapped (λ x. here x ≡ false) (λ n. shared_symbol t n Undefined) names (every (λ n. here (shared_symbol t n Undefined) ≡ false) names (λ n. and_right (bytes_eq n []) false refl))) in
        omega (arith, all, locals, globals, outer)

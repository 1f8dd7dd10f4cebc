-- What uses of symbols mean, use by use.

use Rattle.std.proofs.Common.{◌≡◌, ℕ, ◌+◌, ◌<◌, ◌≤◌, Bool, true, false, List, [], ◌∷◌, ◌++◌, length, length-append, map, take, drop, refl, sym, ap, ◌∙◌, subst, append_assoc, append-nil, arith, Option, Some, None}
use Rattle.std.proofs.lemmas.Bool.{and_from}
use Rattle.std.specs.Prelude.{is_some, ◌||◌, flat_map, slice_get, slice_index_or, option_map, if◌then◌else◌}
use Rattle.std.specs.Borrow.{Bor}
use Rattle.std.specs.List.{list_any}
use Rattle.std.specs.Str.{bytes_eq}
use Rattle.std.proofs.lemmas.List.Folds.{list_any-append, list_all-append}
use Rattle.rv_list_laws.proofs.ElementsLemmas.{bytes_eq_swap, get_index_or}
use Rattle.std.proofs.lemmas.Option.{slice_get-map}
use Rattle.rv_list_laws.proofs.TakeDropLemmas.{drop_next, take_next}
use Rattle.rv_list_laws.proofs.TruthLemmas.{or_false}
use Rattle.rv_map_laws.specs.Globals.{is_one_of}
use Rattle.rv_map_laws.specs.Name.{is_name}
use Rattle.rv_assemble_laws.specs.ShownNames.{primary_names, used_names, are_shown}
use Rattle.rv_expression_laws.specs.Expression.{Primary, Literal, Symbol as Named, Here, Reference}
use Rattle.rv_statement.specs.View.{now_of}
use Rattle.rv_unit_laws.specs.Tables as laws
use Rattle.rv_unit_laws.specs.Tables.{Tables}
use Rattle.rv_unit.specs.Unit.{definition_of}
use Rattle.rv_unit.specs.declared.section_offset.Definition.{Definition}
use Rattle.rv_assemble_laws.specs.Symbols.{SymbolUse, missing_name, distinct_from}
use Rattle.rv_symbols.specs.declared.symbol_use.SymbolUse.{SymbolUse as DeclaredUse}
use Rattle.rv_symbols.specs.SymbolUse.{use_of, uses_of}
use Rattle.rv_symbols.specs.Numbers.{missing_names}
use Rattle.rv_symbols.specs.Found.{definition_in, is_here, next_ordinal, IsNext, means, any_means, missing_by, with_names}

-- the use at an index
pub use_at : (us : List DeclaredUse) (i : ℕ) (d : DeclaredUse) → i < length us → slice_get (uses_of us) i ≡ Some (use_of (slice_index_or us i d))
use_at us i d inside = slice_get-map use_of us i ∙ ap (option_map use_of) (get_index_or us i d inside)

pub found_at : (t : Tables) (us : List DeclaredUse) (ds : List (Option Definition)) → map (option_map definition_of) ds ≡ map (definition_in t) (uses_of us) → (i : ℕ) (d : DeclaredUse) (n : Option Definition)
    → i < length us → i < length ds → option_map definition_of (slice_index_or ds i n) ≡ definition_in t (use_of (slice_index_or us i d))
found_at t us ds e i d n inside within =
    let left : slice_get (map (option_map definition_of) ds) i ≡ Some (option_map definition_of (slice_index_or ds i n)) =
    slice_get-map (option_map definition_of) ds i ∙ ap (option_map (option_map definition_of)) (get_index_or ds i n within) in
    let right : slice_get (map (definition_in t) (uses_of us)) i ≡ Some (definition_in t (use_of (slice_index_or us i d))) =
    slice_get-map (definition_in t) (uses_of us) i ∙ ap (option_map (definition_in t)) (use_at us i d inside) in
    let both : Some (option_map definition_of (slice_index_or ds i n)) ≡ Some (definition_in t (use_of (slice_index_or us i d))) = sym left ∙ ap (λ l. slice_get l i) e ∙ right in
    cc

-- ---- marks

pub mark_more : (t : Tables) (rs : List SymbolUse) (i : ℕ) (r : SymbolUse) (k : ℕ) (q : Primary) (found : Option laws.Definition) (old new : Bool) → slice_get rs i ≡ Some r → q ≡ r.symbol → found ≡ definition_in t r
    → new ≡ (old || means k q found) → old ≡ any_means t k (take i rs) → new ≡ any_means t k (take (i + 1) rs)
mark_more t rs i r k q found old new at s f n o =
    n ∙ ap (λ b. b || means k q found) o
    ∙ ap (λ p. any_means t k (take i rs) || means k p found) s ∙ ap (λ d. any_means t k (take i rs) || means k r.symbol d) f
    ∙ ap (λ b. any_means t k (take i rs) || b) (sym (or_false (means k r.symbol (definition_in t r))))
    ∙ sym (list_any-append (λ y. means k y.symbol (definition_in t y)) (take i rs) (r ∷ []))
    ∙ ap (any_means t k) (sym (take_next rs i r at))

-- ---- names that are missing

pub missing_is : (t : Tables) (r : SymbolUse) → missing_name t r.ordinal r.symbol ≡ missing_by (definition_in t r) r.symbol
missing_is t r = by r.ordinal r.symbol
  where
    by : (o : ℕ) (q : Primary) → missing_name t o q ≡ missing_by (laws.definition t o q) q
    by o (Named name) = refl
    by o (Literal n) = refl
    by o Here = refl
    by o (Reference digits forward) = refl

pub with_join : (had bs cs : List (List ℕ)) → with_names had (bs ++ cs) ≡ with_names (with_names had bs) cs
with_join had [] cs = refl
with_join had (b ∷ bs) cs = with_join (if is_one_of had b then had else had ++ b ∷ []) bs cs

pub missing_more : (t : Tables) (rs : List SymbolUse) (i : ℕ) (r : SymbolUse) (q : Primary) (found : Option laws.Definition) (old new all : List (List ℕ)) → slice_get rs i ≡ Some r → q ≡ r.symbol → found ≡ definition_in t r
    → new ≡ with_names old (missing_by found q) → with_names old (flat_map (λ r. missing_name t r.ordinal r.symbol) (drop i rs)) ≡ all
    → with_names new (flat_map (λ r. missing_name t r.ordinal r.symbol) (drop (i + 1) rs)) ≡ all
missing_more t rs i r q found old new all at s f n h =
    let rest = flat_map (λ r. missing_name t r.ordinal r.symbol) (drop (i + 1) rs) in
    ap (λ l. with_names l rest) (n ∙ ap (λ p. with_names old (missing_by found p)) s ∙ ap (λ d. with_names old (missing_by d r.symbol)) f ∙ ap (with_names old) (sym (missing_is t r)))
    ∙ sym (with_join old (missing_name t r.ordinal r.symbol) rest)
    ∙ ap (λ l. with_names old (flat_map (λ r. missing_name t r.ordinal r.symbol) l)) (sym (drop_next rs i r at))
    ∙ h

any_map : (name : Bor (List ℕ)) (ks : List (Bor (List ℕ))) → list_any (λ k. bytes_eq name.now k.now) ks ≡ is_one_of (map now_of ks) name.now
any_map name [] = refl
any_map name (k ∷ ks) = ap (λ b. b || list_any (λ k. bytes_eq name.now k.now) ks) (bytes_eq_swap name.now k.now) ∙ ap (λ b. bytes_eq k.now name.now || b) (any_map name ks)

map_join : (xs : List (Bor (List ℕ))) (y : Bor (List ℕ)) → map now_of (xs ++ y ∷ []) ≡ map now_of xs ++ y.now ∷ []
map_join [] y = refl
map_join (x ∷ xs) y = ap (λ l. x.now ∷ l) (map_join xs y)

-- a name is put among those that are missing
pub put_new : (name : Bor (List ℕ)) (ks new : List (Bor (List ℕ))) → new ≡ (if list_any (λ k. bytes_eq name.now k.now) ks then ks else ks ++ name ∷ []) → map now_of new ≡ with_names (map now_of ks) (name.now ∷ [])
put_new name ks new e =
    ap (map now_of) e ∙ go (list_any (λ k. bytes_eq name.now k.now) ks) ∙ ap (λ b. if b then map now_of ks else map now_of ks ++ name.now ∷ []) (any_map name ks)
  where
    go : (b : Bool) → map now_of (if b then ks else ks ++ name ∷ []) ≡ (if b then map now_of ks else map now_of ks ++ name.now ∷ [])
    go true = refl
    go false = map_join ks name

-- names in the order of their first use
distinct : (names before had : List (List ℕ)) → ((n : List ℕ) → is_one_of had n ≡ is_one_of before n) → with_names had names ≡ had ++ distinct_from before names
distinct [] before had same = sym (append-nil had)
distinct (n ∷ ns) before had same = ap (λ b. with_names (if b then had else had ++ n ∷ []) ns) (same n) ∙ go (is_one_of before n) (distinct ns before had same) (distinct ns (n ∷ before) (had ++ n ∷ []) more)
  where
    or_swap : (a b : Bool) → (a || b) ≡ (b || a)
    or_swap true true = refl
    or_swap true false = refl
    or_swap false true = refl
    or_swap false false = refl

    more : (m : List ℕ) → is_one_of (had ++ n ∷ []) m ≡ is_one_of (n ∷ before) m
    more m =
        list_any-append (λ x. bytes_eq x m) had (n ∷ []) ∙ ap (λ b. is_one_of had m || b) (or_false (bytes_eq n m)) ∙ or_swap (is_one_of had m) (bytes_eq n m)
        ∙ ap (λ b. bytes_eq n m || b) (same m)

    go : (b : Bool) → with_names had ns ≡ had ++ distinct_from before ns → with_names (had ++ n ∷ []) ns ≡ (had ++ n ∷ []) ++ distinct_from (n ∷ before) ns
        → with_names (if b then had else had ++ n ∷ []) ns ≡ had ++ (if b then distinct_from before ns else n ∷ distinct_from (n ∷ before) ns)
    go true e f = e
    go false e f = f ∙ append_assoc had (n ∷ []) (distinct_from (n ∷ before) ns)

pub missing_are : (t : Tables) (rs : List SymbolUse) → with_names [] (flat_map (λ r. missing_name t r.ordinal r.symbol) rs) ≡ missing_names t rs
missing_are t rs = distinct (flat_map (λ r. missing_name t r.ordinal r.symbol) rs) [] [] (λ n. refl)

-- ---- definitions

-- the statement at which a use is looked up
pub next_within : (low high : ℕ) (r : SymbolUse) → IsNext low high r → low ≤ high + 1 → (low ≤ next_ordinal low r) × (next_ordinal low r ≤ high + 1)
next_within low high r h l = go (is_here r.symbol) refl
  where
    go : (b : Bool) → is_here r.symbol ≡ b → (low ≤ (if b then low else r.ordinal)) × ((if b then low else r.ordinal) ≤ high + 1)
    go true e = (omega arith, l)
    go false e = (
      (h e).0,
      let m = (h e).1 in omega (arith, m),
    )

pub next_own : (low : ℕ) (r : SymbolUse) → is_here r.symbol ≡ false → next_ordinal low r ≡ r.ordinal
next_own low r e = ap (λ b. if b then low else r.ordinal) e

map_more : (t : Tables) (ds : List (Option Definition)) (d : Option Definition) → map (option_map definition_of) (ds ++ d ∷ []) ≡ map (option_map definition_of) ds ++ option_map definition_of d ∷ []
map_more t [] d = refl
map_more t (x ∷ ds) d = ap (λ l. option_map definition_of x ∷ l) (map_more t ds d)

pub found_more : (t : Tables) (rs : List SymbolUse) (i : ℕ) (r : SymbolUse) (ds now : List (Option Definition)) (d : Option Definition) (all : List (Option laws.Definition)) → slice_get rs i ≡ Some r
    → now ≡ ds ++ d ∷ [] → option_map definition_of d ≡ definition_in t r
    → map (option_map definition_of) ds ++ map (definition_in t) (drop i rs) ≡ all
    → map (option_map definition_of) now ++ map (definition_in t) (drop (i + 1) rs) ≡ all
found_more t rs i r ds now d all at n f h =
    let rest = map (definition_in t) (drop (i + 1) rs) in
    ap (λ l. map (option_map definition_of) l ++ rest) n ∙ ap (λ l. l ++ rest) (map_more t ds d)
    ∙ append_assoc (map (option_map definition_of) ds) (option_map definition_of d ∷ []) rest
    ∙ ap (λ e. map (option_map definition_of) ds ++ e ∷ rest) f
    ∙ ap (λ l. map (option_map definition_of) ds ++ map (definition_in t) l) (sym (drop_next rs i r at))
    ∙ h

pub none_by : (d : Option Definition) (name : List ℕ) → is_some d ≡ false → missing_by (option_map definition_of d) (Named name) ≡ name ∷ []
none_by None name e = refl
none_by (Some d) name e = absurd (cc)

pub numbers_more : (f : SymbolUse → ℕ) (rs : List SymbolUse) (i : ℕ) (r : SymbolUse) (old new : List ℕ) (n : ℕ) (all : List ℕ) → slice_get rs i ≡ Some r → new ≡ old ++ n ∷ [] → n ≡ f r
    → old ++ map f (drop i rs) ≡ all → new ++ map f (drop (i + 1) rs) ≡ all
numbers_more f rs i r old new n all at push is h =
    let rest = map f (drop (i + 1) rs) in
    ap (λ l. l ++ rest) push ∙ append_assoc old (n ∷ []) rest ∙ ap (λ m. old ++ m ∷ rest) is ∙ ap (λ l. old ++ map f l) (sym (drop_next rs i r at)) ∙ h

-- with a name that a map can show all can still be shown
pub put_shown : (name : Bor (List ℕ)) (ks new : List (Bor (List ℕ))) → new ≡ (if list_any (λ k. bytes_eq name.now k.now) ks then ks else ks ++ name ∷ []) → are_shown (name.now ∷ []) ≡ true
    → are_shown (map now_of ks) ≡ true → are_shown (map now_of new) ≡ true
put_shown name ks new e named old = ap (λ l. are_shown (map now_of l)) e ∙ go (list_any (λ k. bytes_eq name.now k.now) ks)
  where
    go : (b : Bool) → are_shown (map now_of (if b then ks else ks ++ name ∷ [])) ≡ true
    go true = old
    go false =
        ap are_shown (map_join ks name) ∙ list_all-append is_name (map now_of ks) (name.now ∷ [])
        ∙ and_from (are_shown (map now_of ks)) (are_shown (name.now ∷ [])) old named

-- one more at most
pub put_few : (name : Bor (List ℕ)) (ks new : List (Bor (List ℕ))) → new ≡ (if list_any (λ k. bytes_eq name.now k.now) ks then ks else ks ++ name ∷ []) → length new ≤ length ks + 1
put_few name ks new e = subst (λ (l : List (Bor (List ℕ))). length l ≤ length ks + 1) (sym e) (go (list_any (λ k. bytes_eq name.now k.now) ks))
  where
    go : (b : Bool) → length (if b then ks else ks ++ name ∷ []) ≤ length ks + 1
    go true = omega arith
    go false = let l = length-append ks (name ∷ []) in omega (arith, l)

-- the names so far, with those of the uses that are left, are no more than those of all uses
pub few_more : (rs : List SymbolUse) (i : ℕ) (r : SymbolUse) (q : Primary) (old new : ℕ) → slice_get rs i ≡ Some r → q ≡ r.symbol → new ≤ old + length (primary_names q)
    → old + length (used_names (drop i rs)) ≤ length (used_names rs) → new + length (used_names (drop (i + 1) rs)) ≤ length (used_names rs)
few_more rs i r q old new at s n h =
    let rest = used_names (drop (i + 1) rs) in
    let own = ap (λ p. length (primary_names p)) s in
    let next = ap (λ l. length (used_names l)) (drop_next rs i r at) in
    let both = length-append (primary_names r.symbol) rest in
    omega (arith, n, own, next, both, h)

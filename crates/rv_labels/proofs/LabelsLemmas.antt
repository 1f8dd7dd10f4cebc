-- Names of objects, one after another, and what the indices answer.

use Rattle.std.proofs.Common.{◌≡◌, ◌∙◌, ℕ, suc, ◌+◌, ◌<◌, Bool, true, false, cond, List, [], ◌∷◌, ◌++◌, length, get_or, take, drop, map, flat_map, reverse, ap, sym, append-nil, Option, Some, None, refl, arith}
use Rattle.std.specs.Prelude.{option_map, option_and_then, unwrap_or, bytes_eq, if◌then◌else◌}
use Rattle.std.specs.List.{find}
use Rattle.std.proofs.lemmas.List.{map-append, reverse-append, take_more}
use Rattle.rv_list_laws.proofs.ElementsLemmas.{append_some_more, get_read, same_bytes}
use Rattle.rv_list_laws.proofs.TakeDropLemmas.{take_next}
use Rattle.rv_map_laws.specs.declared.map.Region.{Region}
use Rattle.rv_map_laws.specs.declared.map.Row.{Row as MapRow}
use Rattle.rv_object_laws.specs.declared.row.Row.{Row}
use Rattle.rv_object_laws.specs.Object.{Symbol}
use Rattle.rv_object_types.specs.declared.symbol.Symbol.{Symbol as DeclaredSymbol}
use Rattle.rv_object_types.specs.Parts.{symbol_of}
use Rattle.rv_debug_laws.specs.declared.mark.NameSaid.{NameSaid}
use Rattle.rv_debug_laws.specs.Labels.{Mark, last_named, one_of, object_names, names_from, nothing_said, only_span, said_behind, said_from, said_of}
use Rattle.rv_debug_laws.specs.Symbols.{KnownName}
use Rattle.rv_labels.specs.declared.described.Described.{Described as DeclaredDescribed}
use Rattle.rv_labels.specs.declared.known.KnownName.{KnownName as DeclaredName}
use Rattle.rv_labels.specs.Indices.{kept_span}
use Rattle.rv_labels.specs.Known.{described_of, known_of}

-- ---- look-ups

pub kept_some : (rows : List MapRow) (span : Option Region) → Some span ≡ kept_span rows → span ≡ only_span rows
kept_some [] span e = absurd (cc)
kept_some (row ∷ rows) span e = cc

pub kept_none : (rows : List MapRow) → None ≡ kept_span rows → None ≡ only_span rows
kept_none [] e = refl
kept_none (row ∷ rows) e = absurd (cc)

-- what is looked up by the ordinal of a row, where there is one
pub by_row : {X : Type 0} (F : ℕ → Option X) (row : Option Row) (ordinal : ℕ) → Some ordinal ≡ option_map (λ r. r.ordinal) row
    → F ordinal ≡ option_and_then (λ r. F r.ordinal) row
by_row F None ordinal e = absurd (cc)
by_row F (Some row) ordinal e = let same : ordinal ≡ row.ordinal = cc in ap F same

pub by_none : {X : Type 0} (F : ℕ → Option X) (row : Option Row) → None ≡ option_map (λ r. r.ordinal) row
    → None ≡ option_and_then (λ r. F r.ordinal) row
by_none F None e = refl
by_none F (Some row) e = absurd (cc)

-- ---- what is said

said_append : (name : List ℕ) (before : NameSaid) (ms : List Mark) (m : Mark)
    → said_from name before (ms ++ m ∷ []) ≡ (if bytes_eq m.name name then said_behind (said_from name before ms) m.said else said_from name before ms)
said_append name before [] m = refl
said_append name before (k ∷ ks) m = said_append name (if bytes_eq k.name name then said_behind before k.said else before) ks m

pub said_more : (m : Mark) (ms : List Mark) (name : List ℕ) (old new : Option NameSaid) (it : NameSaid) → new ≡ cond (bytes_eq m.name name) (Some it) old
    → it ≡ said_behind (said_of ms m.name) m.said → unwrap_or old nothing_said ≡ said_of ms name → unwrap_or new nothing_said ≡ said_of (ms ++ m ∷ []) name
said_more m ms name old new it now is before =
    ap (λ o. unwrap_or o nothing_said) now ∙ by (bytes_eq m.name name) refl ∙ sym (said_append name nothing_said ms m)
  where
    by : (b : Bool) → bytes_eq m.name name ≡ b → unwrap_or (cond b (Some it) old) nothing_said ≡ (if b then said_behind (said_of ms name) m.said else said_of ms name)
    by true e = is ∙ ap (λ n. said_behind (said_of ms n) m.said) (same_bytes m.name name e)
    by false e = before

-- ---- the last of a name

pub last_more : (k : DeclaredName) (ks : List KnownName) (name : List ℕ) (old new : Option DeclaredName) → new ≡ cond (bytes_eq k.name.now name) (Some k) old
    → option_map known_of old ≡ last_named ks name → option_map known_of new ≡ last_named (ks ++ known_of k ∷ []) name
last_more k ks name old new now before =
    ap (option_map known_of) now ∙ by (bytes_eq k.name.now name)
    ∙ ap (find (λ (x : KnownName). bytes_eq x.name name)) (sym (reverse-append ks (known_of k ∷ [])))
  where
    by : (b : Bool) → option_map known_of (cond b (Some k) old) ≡ cond b (Some (known_of k)) (find (λ (x : KnownName). bytes_eq x.name name) (reverse ks))
    by true = refl
    by false = before

-- ---- one symbol

pub symbol_left : (out : List KnownName) (b : Bool) (o : Option KnownName) → b ≡ false → out ≡ out ++ (if b then one_of o else [])
symbol_left out b o e = sym (ap (λ t. out ++ (if t then one_of o else [])) e ∙ append-nil out)

pub symbol_nowhere : (out : List KnownName) (b : Bool) (o : Option KnownName) → None ≡ o → out ≡ out ++ (if b then one_of o else [])
symbol_nowhere out true o e = sym (ap (λ p. out ++ one_of p) (sym e) ∙ append-nil out)
symbol_nowhere out false o e = sym (append-nil out)

pub symbol_added : (out : List KnownName) (b : Bool) (o : Option KnownName) (k : KnownName) → b ≡ true → Some k ≡ o → out ++ k ∷ [] ≡ out ++ (if b then one_of o else [])
symbol_added out b o k e is = (λ i. out ++ (if sym e i then one_of (is i) else []))

-- ---- one after another

pub more_map : {X Y : Type 0} (f : X → Y) (xs : List X) (i : ℕ) (d : X) → i < length xs → map f (take (i + 1) xs) ≡ map f (take i xs) ++ f (get_or xs i d) ∷ []
more_map f xs i d inside = ap (map f) (take_more xs i d inside) ∙ map-append f (take i xs) (get_or xs i d ∷ [])

pub taken : {X : Type 0} (xs : List X) (i : ℕ) (x : X) → i < length xs → x ≡ get_or xs i x → take (i + 1) xs ≡ take i xs ++ x ∷ []
taken xs i x inside is = take_next xs i x (get_read xs i x inside is)

pub taken_map : {X Y : Type 0} (f : X → Y) (xs : List X) (i : ℕ) (x : X) → i < length xs → x ≡ get_or xs i x → map f (take (i + 1) xs) ≡ map f (take i xs) ++ f x ∷ []
taken_map f xs i x inside is = ap (map f) (taken xs i x inside is) ∙ map-append f (take i xs) (x ∷ [])

pub symbol_more : (of_symbol : Symbol → List KnownName) (out new whole : List KnownName) (xs : List DeclaredSymbol) (i : ℕ) (x : DeclaredSymbol)
    → drop i xs ≡ x ∷ drop (i + 1) xs → new ≡ out ++ of_symbol (symbol_of x) → out ++ flat_map of_symbol (map symbol_of (drop i xs)) ≡ whole
    → new ++ flat_map of_symbol (map symbol_of (drop (i + 1) xs)) ≡ whole
symbol_more of_symbol out new whole xs i x here added before =
    append_some_more out new (of_symbol (symbol_of x)) (flat_map of_symbol (map symbol_of (drop (i + 1) xs))) (flat_map of_symbol (map symbol_of (drop i xs))) whole added
    (ap (λ l. flat_map of_symbol (map symbol_of l)) here) before

pub object_more : (shared : Bool) (known : List MapRow) (file : ℕ) (out new whole : List KnownName) (os : List DeclaredDescribed) (i : ℕ) (o : DeclaredDescribed)
    → drop i os ≡ o ∷ drop (i + 1) os → new ≡ out ++ object_names shared known file (described_of o) → out ++ names_from shared known file (map described_of (drop i os)) ≡ whole
    → new ++ names_from shared known (file + 1) (map described_of (drop (i + 1) os)) ≡ whole
object_more shared known file out new whole os i o here added before =
    append_some_more out new (object_names shared known file (described_of o)) (names_from shared known (file + 1) (map described_of (drop (i + 1) os))) (names_from shared known file (map described_of (drop i os))) whole added
    (ap (λ l. names_from shared known file (map described_of l)) here
    ∙ ap (λ n. object_names shared known file (described_of o) ++ names_from shared known n (map described_of (drop (i + 1) os))) (let next : suc file ≡ file + 1 = omega arith in next)) before

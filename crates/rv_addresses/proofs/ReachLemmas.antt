-- The extents of symbols, one after another.

use Rattle.std.proofs.Common.{◌≡◌, ◌+◌, ◌<◌, ◌≤◌, ℕ, zero, suc, Option, Some, List, [], ◌∷◌, ◌++◌, length, map, drop, slice_get, refl, sym, ap, subst, ◌∙◌, append-nil, append_assoc, arith}
use Rattle.std.specs.Prelude.{option_and_then}
use Rattle.std.specs.List.{drop-map}
use Rattle.std.proofs.lemmas.List.{length-map, at_drop_all}
use Rattle.rv_list_laws.proofs.TakeDropLemmas.{drop_get, drop_some}
use Rattle.rv_object_laws.specs.Object.{Symbol, Object}
use Rattle.rv_link_laws.specs.Inputs.{Starts}
use Rattle.rv_link_laws.specs.Names.{Outer}
use Rattle.rv_object_types.specs.Parts.{symbol_of}
use Rattle.rv_cut_laws.specs.Cutting.{cut_symbol}
use Rattle.rv_shorten.specs.declared.object.ShortObject.{ShortObject}
use Rattle.rv_shorten.specs.View.{moves_by_section, whole_object_of}
use Rattle.rv_addresses.specs.Ended.{short_ends}
use Rattle.rv_addresses.specs.Extents.{ended_symbols, addresses_in, addresses_from, extent, extents_in, extents_by}
use Rattle.rv_addresses.specs.declared.extents.SymbolExtent.{SymbolExtent}

-- ---- as many ends as symbols

ends_many : (o : Object) (sizes : ℕ → ℕ) (index : ℕ) (ss : List Symbol) → length (ended_symbols o sizes index ss) ≡ length ss
ends_many o sizes index [] = refl
ends_many o sizes index (s ∷ ss) = ap suc (ends_many o sizes (suc index) ss)

pub many_ends : (sizes : ℕ → ℕ) (o : ShortObject) → length (short_ends sizes o) ≡ length o.whole.now.symbols.items
many_ends sizes o =
    let whole = whole_object_of o in
    length-map (ended_symbols whole sizes 0 whole.symbols) (cut_symbol (moves_by_section o))
    ∙ ends_many whole sizes 0 whole.symbols ∙ length-map o.whole.now.symbols.items symbol_of

-- ---- the symbols of a file

mapped : {A B : Type 0} (f : A → B) (xs : List A) (i : ℕ) (x : A) → drop i xs ≡ x ∷ drop (i + 1) xs → drop i (map f xs) ≡ f x ∷ drop (i + 1) (map f xs)
mapped f xs i x is = drop-map f i xs ∙ ap (λ l. map f l) is ∙ ap (λ l. f x ∷ l) (sym (drop-map f (i + 1) xs))

pub symbol_more : (f g : Symbol → Option ℕ) (xs ys : List Symbol) (i : ℕ) (old new all : List (Option SymbolExtent)) (x : Option SymbolExtent) → i < length xs → i < length ys
    → x ≡ extent (option_and_then f (slice_get xs i)) (option_and_then g (slice_get ys i)) → new ≡ old ++ x ∷ []
    → old ++ extents_in (drop i (map f xs)) (drop i (map g ys)) ≡ all → new ++ extents_in (drop (i + 1) (map f xs)) (drop (i + 1) (map g ys)) ≡ all
symbol_more f g xs ys i old new all x inside inside' is pushed h =
    let s = drop_some xs i inside in
    let t = drop_some ys i inside' in
    let here = (drop_get xs i s.0 (drop (i + 1) xs) s.1).0 in
    let there = (drop_get ys i t.0 (drop (i + 1) ys) t.1).0 in
    let more = extents_in (drop (i + 1) (map f xs)) (drop (i + 1) (map g ys)) in
    let same : x ≡ extent (f s.0) (g t.0) = is ∙ ap (λ o. extent (option_and_then f o) (option_and_then g (slice_get ys i))) here ∙ ap (λ o. extent (f s.0) (option_and_then g o)) there in
    ap (λ l. l ++ more) pushed ∙ append_assoc old (x ∷ []) more ∙ ap (λ y. old ++ y ∷ more) same
    ∙ sym (ap (λ l. old ++ extents_in l (drop i (map g ys))) (mapped f xs i s.0 s.1) ∙ ap (λ l. old ++ extents_in (f s.0 ∷ drop (i + 1) (map f xs)) l) (mapped g ys i t.0 t.1))
    ∙ h

pub symbols_done : (f g : Symbol → Option ℕ) (xs ys : List Symbol) (i : ℕ) (out all : List (Option SymbolExtent)) → length xs ≤ i
    → out ++ extents_in (drop i (map f xs)) (drop i (map g ys)) ≡ all → out ≡ all
symbols_done f g xs ys i out all past h =
    let none : drop i (map f xs) ≡ [] = at_drop_all (λ l. l) (map f xs) i (subst (λ n. n ≤ i) (sym (length-map xs f)) past) in
    sym (append-nil out) ∙ sym (ap (λ l. out ++ extents_in l (drop i (map g ys))) none) ∙ h

-- ---- the files

addresses_at : (outer : Outer) (starts : Starts) (file : ℕ) (os : List Object) (i : ℕ) (o : Object) → slice_get os i ≡ Some o
    → drop i (addresses_from outer starts file os) ≡ addresses_in outer (starts (file + i)) o ∷ drop (i + 1) (addresses_from outer starts file os)
addresses_at outer starts file [] i o at = absurd (cc)
addresses_at outer starts file (p ∷ os) zero o at =
    let same : p ≡ o = cc in
    ap (λ q. addresses_in outer (starts file) q ∷ addresses_from outer starts (suc file) os) same
    ∙ ap (λ n. addresses_in outer (starts n) o ∷ addresses_from outer starts (suc file) os) (omega arith)
addresses_at outer starts file (p ∷ os) (suc i) o at =
    addresses_at outer starts (suc file) os i o at
    ∙ ap (λ n. addresses_in outer (starts n) o ∷ drop (i + 1) (addresses_from outer starts (suc file) os)) (omega arith)
    ∙ ap (λ n. addresses_in outer (starts (file + suc i)) o ∷ drop n (addresses_from outer starts file (p ∷ os))) (let e : suc (i + 1) ≡ suc i + 1 = omega arith in e)

addresses_many : (outer : Outer) (starts : Starts) (file : ℕ) (os : List Object) → length (addresses_from outer starts file os) ≡ length os
addresses_many outer starts file [] = refl
addresses_many outer starts file (o ∷ os) = ap suc (addresses_many outer starts (suc file) os)

module _ (f g : Outer) (starts : Starts) (os es : List Object) where
  abbrev own : List (List (Option ℕ))
  own = addresses_from f starts 1 os

  abbrev ends : List (List (Option ℕ))
  ends = addresses_from g starts 1 es

  pub file_more : (i : ℕ) (o e : Object) (old new all : List (List (Option SymbolExtent))) (x : List (Option SymbolExtent)) → slice_get os i ≡ Some o → slice_get es i ≡ Some e
      → x ≡ extents_in (addresses_in f (starts (i + 1)) o) (addresses_in g (starts (i + 1)) e) → new ≡ old ++ x ∷ []
      → old ++ extents_by (drop i own) (drop i ends) ≡ all → new ++ extents_by (drop (i + 1) own) (drop (i + 1) ends) ≡ all
  file_more i o e old new all x here there is pushed h =
      let more = extents_by (drop (i + 1) own) (drop (i + 1) ends) in
      let same : x ≡ extents_in (addresses_in f (starts (1 + i)) o) (addresses_in g (starts (1 + i)) e) =
      is ∙ ap (λ n. extents_in (addresses_in f (starts n) o) (addresses_in g (starts n) e)) (let t : i + 1 ≡ 1 + i = omega arith in t) in
      ap (λ l. l ++ more) pushed ∙ append_assoc old (x ∷ []) more ∙ ap (λ y. old ++ y ∷ more) same
      ∙ sym
      (ap (λ l. old ++ extents_by l (drop i ends)) (addresses_at f starts 1 os i o here)
      ∙ ap (λ l. old ++ extents_by (addresses_in f (starts (1 + i)) o ∷ drop (i + 1) own) l) (addresses_at g starts 1 es i e there))
      ∙ h

  pub files_done : (i : ℕ) (out all : List (List (Option SymbolExtent))) → length os ≤ i → out ++ extents_by (drop i own) (drop i ends) ≡ all → out ≡ all
  files_done i out all past h =
      let none : drop i own ≡ [] = at_drop_all (λ l. l) own i (subst (λ n. n ≤ i) (sym (addresses_many f starts 1 os)) past) in
      sym (append-nil out) ∙ sym (ap (λ l. out ++ extents_by l (drop i ends)) none) ∙ h

-- The table while definitions come to it: one symbol more of a file, and one file more.

use Rattle.std.proofs.Common.{◌≡◌, ◌<◌, ◌+◌, ℕ, suc, Bool, List, [], ◌++◌, length, map, drop, get_or, sym, ap, subst, ◌∙◌, append_assoc, append-nil, arith}
use Rattle.rv_list_laws.proofs.TakeDropLemmas.{drop_read}
use Rattle.rv_map_laws.specs.Globals.{AreDistinct}
use Rattle.rv_object_types.specs.declared.object.Object.{Object as DeclaredObject}
use Rattle.rv_object_laws.specs.declared.symbol.Binding.{Binding}
use Rattle.rv_object_types.specs.declared.symbol.Symbol.{Symbol as DeclaredSymbol}
use Rattle.rv_object_laws.specs.Object.{Object}
use Rattle.rv_object_types.specs.Parts.{symbol_of}
use Rattle.rv_object_types.specs.View.{object_of}
use Rattle.rv_object_laws.specs.Bindings.{is_global}
use Rattle.rv_link_laws.specs.Names.{global_names}
use Rattle.rv_names.specs.declared.definitions.Definitions.{Definitions}
use Rattle.rv_names.specs.declared.fault.ResolveFault.{ResolveFault}
use Rattle.rv_names.specs.Chosen.{Seen, seen, seen_of, Definer, definers_at, definers_in, definers_from, names_in}
use Rattle.rv_link_laws.specs.Exports.{first_again, first_duplicate}
use Rattle.rv_names.specs.Names.{IsDefinitionTable, IsDuplicate, IsRefused}
use Rattle.rv_names.proofs.ChosenLemmas.{global_names_are}
use Rattle.rv_names.proofs.DistinctLemmas.{all_apart}

-- ---- what is left

abbrev pub seen_symbols : List DeclaredSymbol → List Seen
seen_symbols xs = map seen (map symbol_of xs)

module _ (test : Binding → Bool) where
  pub symbols_left : (file : ℕ) (xs : List DeclaredSymbol) (i : ℕ) (x : DeclaredSymbol) → i < length xs → x ≡ get_or xs i x
      → definers_in test file i (seen_symbols (drop i xs)) ≡ definers_at test file i (seen (symbol_of x)) ++ definers_in test file (i + 1) (seen_symbols (drop (i + 1) xs))
  symbols_left file xs i x inside is =
      ap (λ l. definers_in test file i (seen_symbols l)) (drop_read xs i x inside is)
      ∙ ap (λ n. definers_at test file i (seen (symbol_of x)) ++ definers_in test file n (seen_symbols (drop (i + 1) xs))) (let e : suc i ≡ i + 1 = omega arith in e)

  pub files_left : (xs : List DeclaredObject) (i : ℕ) (x : DeclaredObject) → i < length xs → x ≡ get_or xs i x
      → definers_from test i (seen_of (map object_of (drop i xs)))
      ≡ definers_in test i 0 (seen_symbols x.symbols.items) ++ definers_from test (i + 1) (seen_of (map object_of (drop (i + 1) xs)))
  files_left xs i x inside is =
      ap (λ l. definers_from test i (seen_of (map object_of l))) (drop_read xs i x inside is)
      ∙ ap (λ n. definers_in test i 0 (seen_symbols x.symbols.items) ++ definers_from test n (seen_of (map object_of (drop (i + 1) xs)))) (let e : suc i ≡ i + 1 = omega arith in e)

-- ---- the table

-- something holds of some definitions, of which these are left
abbrev pub HasBut : (List Definer → Type 0) → (all drop_read : List Definer) → Type 0
HasBut P all drop_read = (done : List Definer) × P done × (done ++ drop_read ≡ all)

pub all_had : (P : List Definer → Type 0) (all : List Definer) → HasBut P all [] → P all
all_had P all h = subst P (sym (append-nil h.0) ∙ h.2) h.1

module _ (P : List Definer → Type 0) (all here own behind : List Definer) (splits : here ≡ own ++ behind) (h : HasBut P all here) where
  rejoined : (h.0 ++ own) ++ behind ≡ all
  rejoined = append_assoc h.0 own behind ∙ ap (λ l. h.0 ++ l) (sym splits) ∙ h.2

  pub one_more : (Q : List Definer → Type 0) → ((ds : List Definer) → P ds → Q (ds ++ own)) → HasBut Q all behind
  one_more Q put = (h.0 ++ own, put h.0 h.1, rejoined)

  pub one_refused : (fault : ResolveFault) → ((ds : List Definer) → P ds → IsRefused fault (ds ++ own)) → IsRefused fault all
  one_refused fault put = λ rest.
      subst (λ l. IsDuplicate fault (first_again [] (names_in l))) (sym (append_assoc (h.0 ++ own) behind rest) ∙ ap (λ l. l ++ rest) rejoined) (put h.0 h.1 (behind ++ rest))

-- ---- the names of all global definitions

abbrev pub global_definers : List Object → List Definer
global_definers os = definers_from is_global 0 (seen_of os)

pub table_distinct : (os : List Object) (t : Definitions) → IsDefinitionTable (global_definers os) t → AreDistinct (global_names os)
table_distinct os t table =
    all_apart [] (global_names os)
    (ap (first_again []) (sym (global_names_are os)) ∙ ap (λ l. first_again [] (names_in l)) (sym (append-nil (global_definers os))) ∙ table.fresh [])

pub first_refused : (os : List Object) (fault : ResolveFault) → IsRefused fault (global_definers os) → IsDuplicate fault (first_duplicate os)
first_refused os fault h =
    subst (IsDuplicate fault) (ap (λ l. first_again [] (names_in l)) (append-nil (global_definers os)) ∙ ap (first_again []) (global_names_are os)) (h [])

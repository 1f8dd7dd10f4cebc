-- The names of symbols that pass a test, one symbol after another.

use Rattle.std.proofs.Common.{◌≡◌, ℕ, ◌+◌, ◌<◌, Bor, Bool, true, false, cond, List, [], ◌∷◌, ◌++◌, length, get_or, map, take, refl, sym, ap, ◌∙◌}
use Rattle.std.specs.Prelude.{filter}
use Rattle.std.proofs.lemmas.List.{map-append, append-nil}
use Rattle.std.proofs.lemmas.List.Elements.{filter-append}
use Rattle.rv_list_laws.proofs.ElementsLemmas.{get_index_or}
use Rattle.rv_list_laws.proofs.TakeDropLemmas.{take_next}
use Rattle.rv_object_laws.specs.Object.{Symbol}
use Rattle.rv_object_types.specs.declared.symbol.Symbol.{Symbol as DeclaredSymbol}
use Rattle.rv_object_types.specs.Parts.{symbol_of}
use Rattle.rv_inputs.specs.Plain.{plain_texts}
use Rattle.rv_inputs.specs.Names.{names_where}

last_by : (test : Symbol → Bool) (x : Symbol) (t : Bool) → test x ≡ t → names_where test (x ∷ []) ≡ cond t (x.name ∷ []) []
last_by test x true at = ap (λ t. map (λ (s : Symbol). s.name) (cond t (x ∷ []) [])) at
last_by test x false at = ap (λ t. map (λ (s : Symbol). s.name) (cond t (x ∷ []) [])) at

where_append : (test : Symbol → Bool) (xs ys : List Symbol) → names_where test (xs ++ ys) ≡ names_where test xs ++ names_where test ys
where_append test xs ys = ap (map (λ (s : Symbol). s.name)) (filter-append test xs ys) ∙ map-append (λ (s : Symbol). s.name) (filter test xs) (filter test ys)

module _ (test : Symbol → Bool) (symbols : List DeclaredSymbol) (i : ℕ) (d : DeclaredSymbol) (less : i < length symbols) where
  next_is : map symbol_of (take (i + 1) symbols) ≡ map symbol_of (take i symbols) ++ symbol_of (get_or symbols i d) ∷ []
  next_is = ap (map symbol_of) (take_next symbols i (get_or symbols i d) (get_index_or symbols i d less)) ∙ map-append symbol_of (take i symbols) (get_or symbols i d ∷ [])

  more_by : (t : Bool) → test (symbol_of (get_or symbols i d)) ≡ t
      → names_where test (map symbol_of (take (i + 1) symbols)) ≡ names_where test (map symbol_of (take i symbols)) ++ cond t ((symbol_of (get_or symbols i d)).name ∷ []) []
  more_by t at =
      ap (names_where test) next_is ∙ where_append test (map symbol_of (take i symbols)) (symbol_of (get_or symbols i d) ∷ [])
      ∙ ap (λ names. names_where test (map symbol_of (take i symbols)) ++ names) (last_by test (symbol_of (get_or symbols i d)) t at)

  -- a symbol that fails the test
  pub names_skip : (names : List (Bor (List ℕ))) → test (symbol_of (get_or symbols i d)) ≡ false → plain_texts names ≡ names_where test (map symbol_of (take i symbols))
      → plain_texts names ≡ names_where test (map symbol_of (take (i + 1) symbols))
  names_skip names at is = is ∙ sym (append-nil (names_where test (map symbol_of (take i symbols)))) ∙ sym (more_by false at)

  -- a symbol that passes it
  pub names_next : (names new : List (Bor (List ℕ))) (name : Bor (List ℕ)) → test (symbol_of (get_or symbols i d)) ≡ true → name.now ≡ (get_or symbols i d).name.now → new ≡ names ++ name ∷ []
      → plain_texts names ≡ names_where test (map symbol_of (take i symbols)) → plain_texts new ≡ names_where test (map symbol_of (take (i + 1) symbols))
  names_next names new name at same pushed is =
      ap plain_texts pushed ∙ map-append (λ (n : Bor (List ℕ)). n.now) names (name ∷ [])
      ∙ ap (λ xs. xs ++ name.now ∷ []) is
      ∙ ap (λ n. names_where test (map symbol_of (take i symbols)) ++ n ∷ []) same
      ∙ sym (more_by true at)

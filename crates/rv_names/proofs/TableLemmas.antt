-- One definition more in the table.

use Rattle.std.proofs.Common.{◌≡◌, ℕ, Bool, true, false, cond, Option, Some, None, option_map, List, [], ◌∷◌, ◌++◌, map, is_some, refl, sym, ap, ◌∙◌, append_assoc}
use Rattle.std.specs.Prelude.{◌||◌, ◌&&◌, if◌then◌else◌, bytes_eq}
use Rattle.std.specs.List.{find}
use Rattle.std.specs.Option.{option_or}
use Rattle.std.proofs.lemmas.List.{map-append}
use Rattle.std.proofs.lemmas.List.Folds.{find-append}
use Rattle.rv_list_laws.proofs.ElementsLemmas.{same_bytes}
use Rattle.rv_map_laws.specs.Globals.{is_one_of}
use Rattle.rv_object_laws.specs.declared.symbol.Binding.{Binding}
use Rattle.rv_names.specs.declared.definitions.Definitions.{Definitions}
use Rattle.rv_names.specs.declared.definitions.Exported.{Exported}
use Rattle.rv_names.specs.Chosen.{Seen, Definer, definers_at, names_in, first_named}
use Rattle.rv_link_laws.specs.Exports.{first_again}
use Rattle.rv_names.specs.Names.{exported_of, IsDefinitionTable}

-- a name is that of an element where one is found by it
pub one_of_named : {X : Type 0} (own : X → List ℕ) (xs : List X) (name : List ℕ) → is_one_of (map own xs) name ≡ is_some (find (λ x. bytes_eq (own x) name) xs)
one_of_named own [] name = refl
one_of_named own (x ∷ xs) name = by (bytes_eq (own x) name) (one_of_named own xs name)
  where
    by : (b : Bool) → is_one_of (map own xs) name ≡ is_some (find (λ y. bytes_eq (own y) name) xs)
        → (b || is_one_of (map own xs) name) ≡ is_some (cond b (Some x) (find (λ y. bytes_eq (own y) name) xs))
    by true rest = refl
    by false rest = rest

module _ (test : Binding → Bool) (file index : ℕ) (s : Seen) (ds : List Definer) where
  abbrev it : Definer
  it = record { name = s.name; file = file; symbol = index }

  abbrev own : List Definer
  own = definers_at test file index s

  -- no definition of this binding
  pub none_more : (test s.binding && s.defined) ≡ false → ds ++ own ≡ ds
  none_more e = ap (λ b. ds ++ (if b then it ∷ [] else [])) e ∙ nothing ds
    where
      nothing : (xs : List Definer) → xs ++ [] ≡ xs
      nothing [] = refl
      nothing (x ∷ xs) = ap (λ l. x ∷ l) (nothing xs)

  -- one whose name stands before changes none that is found
  pub known_more : is_some (first_named ds s.name) ≡ true → (name : List ℕ) → first_named (ds ++ own) name ≡ first_named ds name
  known_more known name = find-append (λ (d : Definer). bytes_eq d.name name) ds own ∙ by (first_named ds name) refl (test s.binding && s.defined) (bytes_eq s.name name) refl
    where
      by : (f : Option Definer) → first_named ds name ≡ f → (b c : Bool) → bytes_eq s.name name ≡ c → option_or f (first_named (if b then it ∷ [] else []) name) ≡ f
      by (Some d) e b c same = refl
      by None e false c same = refl
      by None e true false same = ap (λ a. cond a (Some it) None) same
      by None e true true same = absurd (let t : false ≡ true = sym (ap is_some (ap (first_named ds) (same_bytes s.name name same) ∙ e)) ∙ known in cc)

  module _ (exported : (test s.binding && s.defined) ≡ true) where
    alone : own ≡ it ∷ []
    alone = ap (λ b. if b then it ∷ [] else []) exported

    module _ (t : Definitions) (table : IsDefinitionTable ds t) (rest : List Definer) where
      looks : first_again [] (names_in ((ds ++ own) ++ rest)) ≡ (if is_some (first_named ds s.name) then Some s.name else first_again (names_in ds ++ s.name ∷ []) (names_in rest))
      looks =
          ap (λ l. first_again [] (names_in l)) (append_assoc ds own rest) ∙ table.fresh (own ++ rest)
          ∙ ap (λ l. first_again (names_in ds) (names_in (l ++ rest))) alone
          ∙ ap (λ b. if b then Some s.name else first_again (names_in ds ++ s.name ∷ []) (names_in rest)) (one_of_named (λ (d : Definer). d.name) ds s.name)

      -- its name stands before
      pub again : is_some (first_named ds s.name) ≡ true → first_again [] (names_in ((ds ++ own) ++ rest)) ≡ Some s.name
      again there = looks ∙ ap (λ b. if b then Some s.name else first_again (names_in ds ++ s.name ∷ []) (names_in rest)) there

      -- its name is a new one
      pub apart : first_named ds s.name ≡ None → first_again [] (names_in ((ds ++ own) ++ rest)) ≡ first_again (names_in (ds ++ own)) (names_in rest)
      apart free =
          looks ∙ ap (λ f. if is_some f then Some s.name else first_again (names_in ds ++ s.name ∷ []) (names_in rest)) free
          ∙ ap (λ l. first_again l (names_in rest)) (sym (map-append (λ (d : Definer). d.name) ds (it ∷ [])))
          ∙ ap (λ l. first_again (names_in (ds ++ l)) (names_in rest)) (sym alone)

    -- and the table answers it as well
    pub answers_more : (name : List ℕ) (new old : Option Exported) → new ≡ cond (bytes_eq s.name name) (Some (exported_of it)) old → first_named ds s.name ≡ None
        → old ≡ option_map exported_of (first_named ds name) → new ≡ option_map exported_of (first_named (ds ++ own) name)
    answers_more name new old now free before =
        now ∙ by (bytes_eq s.name name) refl
        ∙ ap (option_map exported_of) (sym (find-append (λ (d : Definer). bytes_eq d.name name) ds (it ∷ [])))
        ∙ ap (λ l. option_map exported_of (first_named (ds ++ l) name)) (sym alone)
      where
        by : (b : Bool) → bytes_eq s.name name ≡ b → cond b (Some (exported_of it)) old ≡ option_map exported_of (option_or (first_named ds name) (cond b (Some it) None))
        by true e = ap (λ f. option_map exported_of (option_or f (Some it))) (sym (ap (first_named ds) (sym (same_bytes s.name name e)) ∙ free))
        by false e = before ∙ go (first_named ds name)
          where
            go : (f : Option Definer) → option_map exported_of f ≡ option_map exported_of (option_or f None)
            go None = refl
            go (Some x) = refl

-- The symbol that a name means in all files is that of its first definition.

use Rattle.std.proofs.Common.{◌≡◌, ◌-◌, ℕ, suc, Bool, true, false, cond, Option, Some, None, option_map, List, [], ◌∷◌, ◌++◌, map, is_some, refl, sym, ap, subst, ◌∙◌, arith}
use Rattle.std.specs.Prelude.{bytes_eq, if◌then◌else◌}
use Rattle.std.specs.List.{find}
use Rattle.std.proofs.lemmas.List.{map-append}
use Rattle.rv_list_laws.proofs.OptionsLemmas.{is_some_map, option_map_none}
use Rattle.rv_object_laws.specs.declared.symbol.Binding.{Binding}
use Rattle.rv_object_laws.specs.Object.{Symbol, Object}
use Rattle.rv_object_laws.specs.Bindings.{is_global, is_weak}
use Rattle.rv_link_laws.specs.Names.{Export, is_export, exports_in, exports_from, exports_where, names_of, candidates, chosen, global_names}
use Rattle.rv_names.specs.declared.definitions.Exported.{Exported}
use Rattle.rv_names.specs.Chosen.{seen, seen_of, Definer, definers_in, definers_from, definitions, names_in, first_named, definer}
use Rattle.rv_names.specs.Names.{exported_of, IsAt}
use Rattle.rv_link_laws.proofs.ChosenLemmas.{chosen_held}

-- ---- one by one they are the definitions of the laws

abbrev pub definer_of : Export → Definer
definer_of e = record { name = e.symbol.name; file = e.file - 1; symbol = e.index }

module _ (test : Binding → Bool) where
  same_in : (file index : ℕ) (o : Object) (ss : List Symbol) → definers_in test file index (map seen ss) ≡ map definer_of (exports_in test (suc file) o index ss)
  same_in file index o [] = refl
  same_in file index o (s ∷ ss) = by (is_export test s) (same_in file (suc index) o ss)
    where
      rest : List Export
      rest = exports_in test (suc file) o (suc index) ss

      by : (b : Bool) → definers_in test file (suc index) (map seen ss) ≡ map definer_of rest
          → (if b then record { name = s.name; file = file; symbol = index } ∷ [] else []) ++ definers_in test file (suc index) (map seen ss)
          ≡ map definer_of (if b then record { file = suc file; object = o; index = index; symbol = s } ∷ rest else rest)
      by true h =
          ap (λ l. record { name = s.name; file = file; symbol = index } ∷ l) h
          ∙ ap (λ n. record { name = s.name; file = n; symbol = index } ∷ map definer_of rest) (let e : file ≡ suc file - 1 = omega arith in e)
      by false h = h

  pub same_from : (file : ℕ) (os : List Object) → definers_from test file (seen_of os) ≡ map definer_of (exports_from test (suc file) os)
  same_from file [] = refl
  same_from file (o ∷ os) =
      ap (λ l. l ++ definers_from test (suc file) (seen_of os)) (same_in file 0 o o.symbols)
      ∙ ap (λ l. map definer_of (exports_in test (suc file) o 0 o.symbols) ++ l) (same_from (suc file) os)
      ∙ sym (map-append definer_of (exports_in test (suc file) o 0 o.symbols) (exports_from test (suc (suc file)) os))

definitions_are : (os : List Object) → definitions os ≡ map definer_of (candidates os)
definitions_are os =
    ap (λ l. l ++ definers_from is_weak 0 (seen_of os)) (same_from is_global 0 os)
    ∙ ap (λ l. map definer_of (exports_where is_global os) ++ l) (same_from is_weak 0 os)
    ∙ sym (map-append definer_of (exports_where is_global os) (exports_where is_weak os))

names_are : (es : List Export) → names_in (map definer_of es) ≡ names_of es
names_are [] = refl
names_are (e ∷ es) = ap (λ l. e.symbol.name ∷ l) (names_are es)

pub global_names_are : (os : List Object) → names_in (definers_from is_global 0 (seen_of os)) ≡ global_names os
global_names_are os = ap names_in (same_from is_global 0 os) ∙ names_are (exports_where is_global os)

found_in : (es : List Export) (name : List ℕ) → first_named (map definer_of es) name ≡ option_map definer_of (find (λ (e : Export). bytes_eq e.symbol.name name) es)
found_in [] name = refl
found_in (e ∷ es) name = by (bytes_eq e.symbol.name name) (found_in es name)
  where
    by : (b : Bool) → first_named (map definer_of es) name ≡ option_map definer_of (find (λ (f : Export). bytes_eq f.symbol.name name) es)
        → cond b (Some (definer_of e)) (first_named (map definer_of es) name) ≡ option_map definer_of (cond b (Some e) (find (λ (f : Export). bytes_eq f.symbol.name name) es))
    by true h = refl
    by false h = h

pub definer_is : (os : List Object) (name : List ℕ) → definer os name ≡ option_map definer_of (chosen os name)
definer_is os name = ap (λ ds. first_named ds name) (definitions_are os) ∙ found_in (candidates os) name

-- ---- what a name means

-- what is kept of it
abbrev pub kept : Export → Exported
kept e = exported_of (definer_of e)

pub kept_is : (os : List Object) (name : List ℕ) → option_map exported_of (definer os name) ≡ option_map kept (chosen os name)
kept_is os name = ap (option_map exported_of) (definer_is os name) ∙ by (chosen os name)
  where
    by : (f : Option Export) → option_map exported_of (option_map definer_of f) ≡ option_map kept f
    by None = refl
    by (Some e) = refl

pub chosen_at : (os : List Object) (name : List ℕ) (x : Exported) → option_map exported_of (definer os name) ≡ Some x → (e : Export) × (chosen os name ≡ Some e) × IsAt os x e
chosen_at os name x is = by (chosen os name) refl (sym (kept_is os name) ∙ is)
  where
    by : (f : Option Export) → chosen os name ≡ f → option_map kept f ≡ Some x → (e : Export) × (f ≡ Some e) × IsAt os x e
    by None f h = absurd (cc)
    by (Some e) f h =
        let same : kept e ≡ x = cc in
        let held = chosen_held os name e f in (
          e,
          refl,
          subst (λ y. IsAt os y e) same (record { file = held.counted; object = held.object; symbol = held.symbol }),
        )

pub chosen_none : (os : List Object) (name : List ℕ) → option_map exported_of (definer os name) ≡ None → chosen os name ≡ None
chosen_none os name is = option_map_none kept (chosen os name) (sym (kept_is os name) ∙ is)

pub kept_some : (os : List Object) (name : List ℕ) → is_some (option_map exported_of (definer os name)) ≡ is_some (chosen os name)
kept_some os name = ap is_some (kept_is os name) ∙ is_some_map kept (chosen os name)

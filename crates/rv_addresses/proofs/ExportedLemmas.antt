-- Whether a symbol of a file is the definition that its name means, as the table tells.

use Rattle.std.proofs.Common.{◌≡◌, ◌+◌, ◌-◌, ℕ, Bool, true, false, Option, Some, None, option_map, List, slice_get, refl, sym, ap, ◌∙◌, arith}
use Rattle.std.specs.Prelude.{◌&&◌, ◌==◌}
use Rattle.std.proofs.lemmas.Bool.{and_parts, and_from, eqb-true, eq-eqb}
use Rattle.rv_list_laws.proofs.TruthLemmas.{same_tests}
use Rattle.rv_map_laws.specs.Globals.{AreDistinct}
use Rattle.rv_object_laws.specs.declared.symbol.Binding.{Binding}
use Rattle.rv_object_laws.specs.declared.symbol.Binding.TheVariants as bindings
use Rattle.rv_object_laws.specs.Object.{Symbol, Object}
use Rattle.rv_object_laws.specs.Bindings.{is_global, is_shared}
use Rattle.rv_link_laws.specs.Names.{Export, is_defined, is_export, chosen, is_this, is_chosen, global_names}
use Rattle.rv_names.specs.Chosen.{definer}
use Rattle.rv_names.specs.Names.{exported_of}
use Rattle.rv_addresses.specs.Shown.{export_at, is_chosen_at, is_kept}
use Rattle.rv_names.proofs.ChosenLemmas.{kept, kept_is}
use Rattle.rv_link_laws.proofs.ChosenLemmas.{chosen_held}
use Rattle.rv_link_laws.proofs.HeldLemmas.{IsHeld, held_one}
use Rattle.rv_link_laws.proofs.ShownLemmas.{chosen_kept, global_chosen}

-- the numbers of a file and of an index there, from 0, tell a definition
same_place : (file index : ℕ) (e f : Export) → e.file ≡ file + 1 → e.index ≡ index → f.file - 1 + 1 ≡ f.file → is_kept file index (Some (kept f)) ≡ is_this e (Some f)
same_place file index e f at place counted =
    same_tests (is_kept file index (Some (kept f))) (is_this e (Some f))
    (λ h.
    let both = and_parts (f.file - 1 == file) (f.index == index) h in
    let own = eqb-true (f.file - 1) file both.0 in
    and_from (e.file == f.file) (e.index == f.index) (eq-eqb e.file f.file (omega (own, at, counted, arith))) (eq-eqb e.index f.index (place ∙ sym (eqb-true f.index index both.1))))
    (λ h.
    let both = and_parts (e.file == f.file) (e.index == f.index) h in
    let own = eqb-true e.file f.file both.0 in
    and_from (f.file - 1 == file) (f.index == index) (eq-eqb (f.file - 1) file (omega (own, at, arith))) (eq-eqb f.index index (sym (eqb-true e.index f.index both.1) ∙ place)))

module _ (os : List Object) (file : ℕ) (o : Object) (index : ℕ) (s : Symbol) where
  abbrev it : Export
  it = export_at file o index s

  -- as the table names it
  kept_this : is_kept file index (option_map exported_of (definer os s.name)) ≡ is_chosen os it
  kept_this = ap (is_kept file index) (kept_is os s.name) ∙ by (chosen os s.name) refl
    where
      by : (f : Option Export) → chosen os s.name ≡ f → is_kept file index (option_map kept f) ≡ is_this it f
      by None is = refl
      by (Some e) is = same_place file index it e refl refl (chosen_held os s.name e is).counted

  pub weak_chosen : s.binding ≡ bindings.Weak → (is_defined s.definition && is_kept file index (option_map exported_of (definer os s.name))) ≡ is_chosen_at os file o index s
  weak_chosen weak =
      ap (λ b. is_defined s.definition && b) kept_this
      ∙ sym (ap (λ b. (is_shared b && is_defined s.definition) && is_chosen os it) weak)

  module _ (at : slice_get os file ≡ Some o) (there : slice_get o.symbols index ≡ Some s) where
    held : is_export is_shared s ≡ true → IsHeld os it
    held shared = record {
      counted = let e : file + 1 - 1 + 1 ≡ file + 1 = omega arith in e;
      object = ap (slice_get os) (let e : file + 1 - 1 ≡ file = omega arith in e) ∙ at;
      symbol = there;
      shared = shared;
    }

    -- as no name has two global definitions
    pub global_chosen_at : AreDistinct (global_names os) → s.binding ≡ bindings.Global → is_defined s.definition ≡ is_chosen_at os file o index s
    global_chosen_at distinct global =
        by (is_defined s.definition) refl ∙ sym (ap (λ b. (is_shared b && is_defined s.definition) && is_chosen os it) global)
      where
        by : (d : Bool) → is_defined s.definition ≡ d → d ≡ (d && is_chosen os it)
        by false is = refl
        by true is =
            let exported : (b : Binding) → s.binding ≡ b → (test : Binding → Bool) → test b ≡ true → is_export test s ≡ true =
            λ b same test passes. and_from (test s.binding) (is_defined s.definition) (ap test same ∙ passes) is in
            sym
            (chosen_kept os it
            (global_chosen os it distinct (held_one os is_global it (held (exported bindings.Global global is_shared refl)) (exported bindings.Global global is_global refl))))

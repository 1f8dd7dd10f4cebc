-- No name of a raw listing's object is defined twice or left without a meaning.

use Rattle.std.proofs.Common.{◌≡◌, ℕ, true, List, [], ◌∷◌, Some, None, refl, ◌∙◌, ap}
use Rattle.std.specs.Prelude.{if◌then◌else◌}
use Rattle.std.specs.List.{AllByRecursion, slice_get}
use Rattle.std.specs.Option.{option_or}
use Rattle.rv_object_laws.specs.Object.{Relocation, Object}
use Rattle.rv_link_laws.specs.Names.{chosen}
use Rattle.rv_link_laws.specs.Exports.{first_again, first_duplicate}
use Rattle.rv_link_laws.specs.Undefined.{is_loaded_at, has_address, is_known, is_resolved, undefined_symbol, undefined_name, first_some, undefined_in, first_undefined}
use Rattle.rv_raw_theorems.proofs.FieldsLemmas.{IsLeading}
use Rattle.rv_raw_theorems.proofs.LoneSectionLemmas.{IsSimple, sure_to}

module _ (o : Object) (start : ℕ) (h : IsSimple o start) where
  pub none_twice : first_duplicate (o ∷ []) ≡ None
  none_twice = ap (first_again []) h.entered.names

  resolved : (r : Relocation) (l : IsLeading o.symbols r) → is_resolved (o ∷ []) o l.to ≡ true
  resolved r l =
      ap (λ b. if b then has_address o l.to.definition else is_known l.to (chosen (o ∷ []) l.to.name)) (sure_to o start h r l)
      ∙ ap (has_address o) l.definition ∙ ap (λ ss. is_loaded_at (slice_get ss 0)) h.alone ∙ h.loaded

  meant : (r : Relocation) → IsLeading o.symbols r → undefined_name (o ∷ []) o r.symbol ≡ None
  meant r l =
      ap (undefined_name (o ∷ []) o) l.symbol ∙ ap (undefined_symbol (o ∷ []) o) l.there ∙ ap (λ b. if b then None else Some l.to.name) (resolved r l)

  all_meant : (rs : List Relocation) → AllByRecursion (IsLeading o.symbols) rs → first_some (λ r. undefined_name (o ∷ []) o r.symbol) rs ≡ None
  all_meant [] l = refl
  all_meant (r ∷ rs) (one, l) = ap (λ n. option_or n (first_some (λ r. undefined_name (o ∷ []) o r.symbol) rs)) (meant r one) ∙ all_meant rs l

  pub none_undefined : first_undefined (o ∷ []) ≡ None
  none_undefined =
      ap (λ ss. option_or (first_some (undefined_in (o ∷ []) o) ss) None) h.alone
      ∙ ap (λ b. option_or (option_or (if b then first_some (λ r. undefined_name (o ∷ []) o r.symbol) h.section.relocations else None) None) None) h.loaded
      ∙ ap (λ n. option_or (option_or n None) None) (all_meant h.section.relocations h.leading)

-- A run has an entry where `_start` means one.

use Rattle.std.proofs.Common.{◌≡◌, ℕ, true, Option, Some, None, List, is_some, refl, ◌∙◌}
use Rattle.rv_object_laws.specs.Object.{Object}
use Rattle.rv_link_laws.specs.Inputs.{Starts}
use Rattle.rv_link_laws.specs.Names.{entry_of}
use Rattle.rv_link_laws.specs.Entry.{has_entry}
use Rattle.rv_link_laws.proofs.EntryLemmas.{entry_some}

pub entry_there : (starts : Starts) (os : List Object) → has_entry os ≡ true → (a : ℕ) × (entry_of starts os ≡ Some a)
entry_there starts os e = by (entry_of starts os) refl (entry_some starts os ∙ e)
  where
    by : (f : Option ℕ) → entry_of starts os ≡ f → is_some f ≡ true → (a : ℕ) × (entry_of starts os ≡ Some a)
    by (Some a) is h = (a, is)
    by None is h = absurd (cc)

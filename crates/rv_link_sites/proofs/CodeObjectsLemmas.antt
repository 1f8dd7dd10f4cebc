-- The text of objects of the code, and its sites.

use Rattle.std.proofs.Common.{List, map, ℕ}
use Rattle.rv_size_laws.specs.Calls.{site_at, IsText}
use Rattle.rv_link_laws.specs.Inputs.{goes_to_text, inputs}
use Rattle.rv_link_laws.specs.CallSites.{sites_of, length_of}
use Rattle.rv_link_laws.specs.Within.{IsWithin}
use Rattle.rv_link_laws.proofs.TextLineLemmas.{whole_text, whole_within}
use Rattle.rv_object_types.specs.declared.object.Object.{Object as DeclaredObject}
use Rattle.rv_object_types.specs.View.{object_of}
use Rattle.rv_object_types.proofs.WholeLemmas.{are_whole}

pub sites_text : (ds : List DeclaredObject) → IsText (sites_of (map object_of ds))
sites_text ds = whole_text (map object_of ds) (are_whole ds)

pub sites_within : (ds : List DeclaredObject) (i : ℕ) → IsWithin (length_of (inputs goes_to_text (map object_of ds))) (site_at (sites_of (map object_of ds)) i)
sites_within ds i = whole_within (map object_of ds) (are_whole ds) i

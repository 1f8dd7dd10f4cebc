-- The definition that is chosen for a name.

use Rattle.std.specs.Prelude.{bytes_eq}
use Rattle.std.proofs.Common.{◌≡◌, ℕ, List, Some}
use Rattle.rv_list_laws.proofs.FindLemmas.{each_found, find_test}
use Rattle.rv_list_laws.proofs.ElementsLemmas.{same_bytes}
use Rattle.rv_object_laws.specs.Object.{Object}
use Rattle.rv_link_laws.specs.Names.{Export, candidates, chosen}
use Rattle.rv_link_laws.proofs.HeldLemmas.{IsHeld, candidates_held}

pub chosen_held : (os : List Object) (name : List ℕ) (e : Export) → chosen os name ≡ Some e → IsHeld os e
chosen_held os name e is = each_found (IsHeld os) (λ (f : Export). bytes_eq f.symbol.name name) (candidates os) e (candidates_held os) is

pub chosen_named : (os : List Object) (name : List ℕ) (e : Export) → chosen os name ≡ Some e → e.symbol.name ≡ name
chosen_named os name e is = same_bytes e.symbol.name name (find_test (λ (f : Export). bytes_eq f.symbol.name name) (candidates os) e is)

-- The name of a register.

use Rattle.std.proofs.Common.{◌≡◌, ℕ, List, [], Some, sym}
use Rattle.std.specs.Prelude.{slice_get}
use Rattle.std.proofs.lemmas.Option.{get_or_from_slice_get}
use Rattle.rv_isa.specs.RegisterNames.{abi_names}
use Rattle.rv_listing_laws.specs.Instruction.{abi_register}

pub register_is : (r : ℕ) (name : List ℕ) → slice_get abi_names r ≡ Some name → name ≡ abi_register r
register_is r name h = sym (get_or_from_slice_get abi_names r name [] h)

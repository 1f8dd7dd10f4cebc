-- An item of code stands in its statement's section.

use Rattle.std.proofs.Common.{◌≡◌, ℕ, List, Option, Some, None, refl}
use Rattle.rv_size_laws.specs.declared.item.Forms.{Forms}
use Rattle.rv_size_laws.specs.declared.item.Forms.TheVariants.{Settled, CompressedBranch, Branch, CompressedJump}
use Rattle.rv_statement_laws.specs.Statement.{Operand}
use Rattle.rv_unit_laws.specs.Tables.{Tables}
use Rattle.rv_source_laws.specs.Located.{Located}
use Rattle.rv_source_laws.specs.Sizes.{Near, near_target, branch_item, item_by}

-- each statement has an item of its own section
branch_section : (s : Located) (forms : Forms) (near : Option Near) → (branch_item s forms near).section ≡ s.section
branch_section s forms None = refl
branch_section s forms (Some near) = refl

pub item_section : (t : Tables) (all : List Located) (s : Located) (n : ℕ) (os : List Operand) (forms : Option Forms) → (item_by t all s n os forms).section ≡ s.section
item_section t all s n os None = refl
item_section t all s n os (Some (Settled size)) = refl
item_section t all s n os (Some CompressedBranch) = branch_section s CompressedBranch (near_target t all s os)
item_section t all s n os (Some Branch) = branch_section s Branch (near_target t all s os)
item_section t all s n os (Some CompressedJump) = branch_section s CompressedJump (near_target t all s os)

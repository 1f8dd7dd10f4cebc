-- The sizes of branches: the least family in which each form below a statement's largest reaches
-- (GNU as, "RISC-V-Directives"; ISA manual, "Conditional Branches").

use Rattle.std.specs.Prelude.{◌≡◌, ◌⊎◌, ℕ, ◌^◌, ◌≤◌, ◌<◌, ◌==◌, Bool, true, false, List, [], ◌∷◌, length, map, slice_index, slice_index_or, count_by, ℤ, pos, if◌then◌else◌}
use Rattle.rv_size_laws.specs.declared.item.Forms.{Forms}
use Rattle.rv_size_laws.specs.declared.item.Forms.TheVariants.{Settled, CompressedBranch, Branch, CompressedJump}
use Rattle.rv_size_laws.specs.declared.item.Item.{Item}
use Rattle.rv_size_laws.specs.Offsets.{distance, AtMost, Reaches}
use Rattle.rv_size_laws.specs.Steps.{IsFamilyOf, SingleSteps, StepRounds}

-- a size that the forms have
abbrev pub Offers : Forms → ℕ → Type 0
Offers (Settled bytes) size = size ≡ bytes
Offers CompressedBranch size = (size ≡ 2) ⊎ ((size ≡ 4) ⊎ (size ≡ 8))
Offers Branch size = (size ≡ 4) ⊎ (size ≡ 8)
Offers CompressedJump size = (size ≡ 2) ⊎ (size ≡ 4)

abbrev pub smallest : Forms → ℕ
smallest (Settled bytes) = bytes
smallest CompressedBranch = 2
smallest Branch = 4
smallest CompressedJump = 2

abbrev pub largest : Forms → ℕ
largest (Settled bytes) = bytes
largest CompressedBranch = 8
largest Branch = 8
largest CompressedJump = 4

-- the form of a size reaches from -half on, and less far than half: c.beqz and c.bnez 256, branches
-- 4096, c.j 2048
abbrev pub half : Forms → ℕ → ℕ
half CompressedJump size = 2 ^ 11
half CompressedBranch size = if size == 2 then 2 ^ 8 else 2 ^ 12
half forms size = 2 ^ 12

abbrev pub is_branch : Forms → Bool
is_branch (Settled bytes) = false
is_branch forms = true

-- the statement of an index, or one of no bytes past the end
abbrev pub item_at : List Item → ℕ → Item
item_at items i =
    slice_index_or items i (record { addend = pos 0; section = 0; target = 0; forms = Settled 0 })

-- the sizes of one section's statements, and 0 for those of others
abbrev pub of_section : ℕ → List Item → List ℕ → List ℕ
of_section section items [] = []
of_section section [] (size ∷ sizes) = []
of_section section (item ∷ items) (size ∷ sizes) =
    (if item.section == section then size else 0) ∷ of_section section items sizes

-- from a statement's start to its target's, in its section
abbrev pub distance_of : List Item → List ℕ → ℕ → ℤ
distance_of items sizes i =
    let item = item_at items i in distance (of_section item.section items sizes) i item.target

-- whether a statement would reach its target in the form of a size
abbrev pub ReachesBy : List Item → List ℕ → ℕ → ℕ → Type 0
ReachesBy items sizes i size =
    let item = item_at items i in
    Reaches (half item.forms size) item.addend (distance_of items sizes i)

-- a size for each statement, and each one that its forms have
abbrev pub IsFamily : List Item → List ℕ → Type 0
IsFamily items = IsFamilyOf (length items) (λ i. Offers (item_at items i).forms)

-- each form below the statement's largest reaches; the largest is taken without a test
pub record IsGood (items : List Item) (sizes : List ℕ) : Type 0 where
  pub family : IsFamily items sizes
  pub reaching : (i : ℕ) → slice_index sizes i < largest (item_at items i).forms
      → ReachesBy items sizes i (slice_index sizes i)

pub record IsLeastGood (items : List Item) (sizes : List ℕ) : Type 0 where
  pub good : IsGood items sizes
  pub least : (others : List ℕ) → IsGood items others → AtMost sizes others

abbrev pub branches : List Item → ℕ
branches items = count_by (λ item. is_branch item.forms) items

-- a larger form may be taken where none from the present one up to it reaches
pub record MayWiden (items : List Item) (sizes : List ℕ) (i wider : ℕ) : Type 0 where
  pub grows : slice_index sizes i < wider
  pub offered : Offers (item_at items i).forms wider
  pub short : (size : ℕ) → Offers (item_at items i).forms size → slice_index sizes i ≤ size →
      size < wider
      → ReachesBy items sizes i size → ⊥

-- sizes that come from others by so many widenings, one after the other, in any order
abbrev pub Widenings : (items : List Item) (from : List ℕ) → List ℕ → ℕ → Type 0
Widenings items = SingleSteps (MayWiden items)

-- and by so many rounds, each of one widening or more
abbrev pub Rounds : (items : List Item) (from : List ℕ) → List ℕ → ℕ → Type 0
Rounds items = StepRounds (MayWiden items)

abbrev pub smallest_sizes : List Item → List ℕ
smallest_sizes items = map (λ item. smallest item.forms) items

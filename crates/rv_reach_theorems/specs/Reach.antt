-- That no form that is chosen because it reaches comes to be out of reach, whatever paddings
-- regrow: of a call the shorter one that relaxation leaves, of a branch or a jump the one below its
-- largest (RISC-V ELF psABI, "Linker Relaxation", function call relaxation, and "Relocations"; ISA,
-- "Conditional Branches", "Unconditional Jumps").

use Rattle.std.specs.Prelude.{◌≡◌, ◌==◌, ℕ, ◌+◌, ◌-◌, nat_le, nat_lt, Bool, true, false, not, ◌&&◌, ◌||◌, List, map, Some, None, option_and_then}
use Rattle.std.specs.List.{AllByRecursion, slice_get, list_any}
use Rattle.rv_isa.specs.declared.kind.Kind.{Kind}
use Rattle.rv_isa.specs.declared.kind.Kind.TheVariants as kinds
use Rattle.rv_map_laws.specs.declared.map.SectionId.{SectionId}
use Rattle.rv_statement_laws.specs.Statement.{Statement}
use Rattle.rv_object_laws.specs.declared.row.Row.{Row}
use Rattle.rv_object_laws.specs.Object.{Relocation, Object}
use Rattle.rv_object_laws.specs.Whole.{IsWhole}
use Rattle.rv_source_laws.specs.Compressed.{names_parcel}
use Rattle.rv_link_laws.specs.declared.bounds.Ground.{Ground}
use Rattle.rv_link_laws.specs.Inputs.{InputSection, goes_to_text, inputs}
use Rattle.rv_link_laws.specs.CallSites.{is_call}
use Rattle.rv_link_laws.specs.Shortened.{Relaxes}
use Rattle.rv_link_laws.specs.Without.{without}
use Rattle.rv_link_laws.specs.Ground.{IsGround}
use Rattle.rv_link_laws.specs.Untaken.{IsTaken}
use Rattle.rv_link_laws.specs.Layout.{Layout, IsLayout}
use Rattle.rv_sources_link_theorems.specs.Joins.{AreObjectsOf}

-- the field of a call, of which `jal` or `c.j` is left
abbrev pub is_short_call : (before now : Kind) → Bool
is_short_call before now = is_call before && not (is_call now)

-- the field of a branch of 2 or 4 bytes, or of `c.j`: a form below the largest, which for a branch
-- is the inverted one over a jump, and for a jump is `jal`
abbrev pub is_short_branch : Kind → Bool
is_short_branch kinds.Branch = true
is_short_branch kinds.RvcBranch = true
is_short_branch kinds.RvcJump = true
is_short_branch _ = false

-- the statement of a file that has an ordinal names a parcel: that is its one form, within reach or
-- not
abbrev pub is_parcel_statement : List (List Statement) → (file ordinal : ℕ) → Bool
is_parcel_statement sources file ordinal =
    elim (option_and_then (λ ss. slice_get ss (ordinal - 1)) (slice_get sources (file - 1))) [
      | None ↦ false
      | Some s ↦ names_parcel s.kind
    ]

-- a place of a section is in the bytes of a row
abbrev pub is_in_row : (section place : ℕ) → Row → Bool
is_in_row section place r =
    (r.section == section) && nat_le r.offset place && nat_lt place (r.offset + r.bytes)

-- a relocation is one of a statement that names a parcel
abbrev pub is_of_parcel : List (List Statement) → InputSection → Relocation → Bool
is_of_parcel sources i q =
    list_any (λ r. is_in_row i.index q.place r
    && is_parcel_statement sources i.file r.ordinal) i.object.rows

-- a field has a form that was chosen because it reaches
abbrev pub is_chosen_branch : List (List Statement) → InputSection → Relocation → Bool
is_chosen_branch sources i q = is_short_branch q.kind && not (is_of_parcel sources i q)

-- this holds of each relocation of the text, as it was before relaxation and as it is now, and of
-- the sections that it was in and is in
abbrev pub ForEachLeft : List Object → List Object →
    ((before now : Relocation) → (of to : InputSection) → Type 0) → Type 0
ForEachLeft os left P =
    (section place : ℕ) (i j : InputSection) (before now : Relocation)
    → slice_get (inputs goes_to_text os) section ≡ Some i
    → slice_get (inputs goes_to_text left) section ≡ Some j
    → slice_get i.section.relocations place ≡ Some before
    → slice_get j.section.relocations place ≡ Some now
    → P before now i j

-- where what relaxation leaves of objects without some of their sections is placed, the field of
-- each such call takes its value
abbrev pub ShortCallsReach : Type 0
ShortCallsReach =
    (objects : List Object) (drops : List SectionId) (left : List Object) (bounds : Ground)
    (relax : Bool) (l : Layout)
    → AllByRecursion IsWhole objects → Relaxes relax (without drops objects) left
    → IsGround bounds → IsLayout left bounds l
    → ForEachLeft (without drops objects) left
    (λ before now i j. is_short_call before.kind now.kind ≡ true → IsTaken left l j now)

-- and so does the field of each branch and jump of sources that has a form below its largest,
-- unless its statement names it
abbrev pub ShortBranchesReach : Type 0
ShortBranchesReach =
    (sources : List (List Statement)) (objects : List Object) (drops : List SectionId)
    (left : List Object) (bounds : Ground) (relax : Bool) (l : Layout)
    → AllByRecursion IsWhole objects → AreObjectsOf sources objects
    → Relaxes relax (without drops objects) left
    → IsGround bounds → IsLayout left bounds l
    → ForEachLeft (without drops objects) left
    (λ before now i j. is_chosen_branch sources i before ≡ true → IsTaken left l j now)

-- both, where what relaxation leaves of objects of sources is placed: a build has no fault at such
-- a field
abbrev pub ShortFormsReach : List (List Statement) → List Object → List Object → Ground → Type 0
ShortFormsReach sources os left bounds =
    (l : Layout) → IsLayout left bounds l
    → ForEachLeft os left
    (λ before now i j.
    (is_short_call before.kind now.kind || is_chosen_branch sources i before) ≡ true
    → IsTaken left l j now)

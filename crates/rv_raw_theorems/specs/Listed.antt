-- What is promised of the statements of a raw listing, and of their object:
-- they are refused for nothing but their length.

use Rattle.std.specs.Prelude.{◌≡◌, ℕ, ◌+◌, ◌≤◌, Bool, List, [], ◌∷◌, ◌++◌, length, flat_map, None}
use Rattle.std.specs.List.{AllByRecursion}
use Rattle.rv_isa_laws.specs.Platform.{stack_start}
use Rattle.rv_statement_laws.specs.Statement.{Statement}
use Rattle.rv_parse_laws.specs.Reading.{longest_source}
use Rattle.rv_unit_laws.specs.Faults.{StatementFault}
use Rattle.rv_listing_laws.specs.declared.code.Code.{Code}
use Rattle.rv_listing_laws.specs.Raw.{IsSourced, raw_bytes, lines_text, raw_lines}
use Rattle.rv_raw_theorems.specs.Statements.{on_lines, raw_statements}
use Rattle.rv_object_laws.specs.Object.{Object}
use Rattle.rv_assemble_laws.specs.Refusals.{statements_fault, IsTooLong}
use Rattle.rv_assemble_laws.specs.IsObjectOf.{IsObjectOf}
use Rattle.rv_fault.specs.declared.link_fault.LinkFault.{LinkFault}
use Rattle.rv_fault.specs.declared.link_fault.LinkFault.TheVariants.{OutOfMemory}
use Rattle.rv_link_laws.specs.Ground.{usual}
use Rattle.rv_link_laws.specs.TextStart.{IsTextStart}
use Rattle.rv_link_laws.specs.Refusals.{HasNoProgram}

-- the statements of a raw listing
abbrev pub listed : (before after : List Code) → List Statement
listed before after = on_lines 1 (raw_statements before after)

-- a source can say each of its instructions, and it is no longer than a source may be
pub record IsShortListing (before after : List Code) : Type 0 where
  pub sourced : AllByRecursion IsSourced (before ++ after)
  pub short : length (lines_text (raw_lines before after)) ≤ longest_source

-- from a start on its instructions end below the stack
abbrev pub FitsAt : ℕ → (before after : List Code) → Type 0
FitsAt start before after = start + length (flat_map raw_bytes (before ++ after)) ≤ stack_start

-- such a listing has an object: no statement is faulty, and no section of code is too long
abbrev pub HaveNoFault : Type 0
HaveNoFault =
    (before after : List Code) → IsShortListing before after
    → (statements_fault (listed before after) ≡ None)
    × ((f : StatementFault) → IsTooLong (listed before after) f → ⊥)

-- and that object has a program where it fits, with relaxation and collection and without: what
-- refuses it is want of memory
abbrev pub HaveAProgram : Type 0
HaveAProgram =
    (before after : List Code) → IsShortListing before after
    → (o : Object) → IsObjectOf (listed before after) o
    → (start : ℕ) → IsTextStart start → FitsAt start before after
    → (relax gc : Bool) (fault : LinkFault) → HasNoProgram (o ∷ []) (usual start) relax gc fault
    → fault ≡ OutOfMemory

-- The rows of a table of instructions, and what they have of the events of a run.

use Rattle.std.specs.Prelude.{◌≡◌, ℕ, ◌-◌, ◌<◌, ◌^◌, min, Bool, true, false, if◌then◌else◌, List, [], ◌∷◌, ◌++◌, All, length, ◌⊎◌, sum_by, set, slice_index_or, Option, Some}
use Rattle.rv_isa.specs.declared.instruction.Inst.{Inst}
use Rattle.rv_isa_laws.specs.Reader.{Reader}
use Rattle.rv_isa_laws.specs.Run.{Fetched, Got, NoRight, NoInstruction}
use Rattle.rv_isa_laws.specs.Word.{Spells}
use Rattle.rv_parcel.specs.Parcel.{StandsFor}
use Rattle.rv_machine.specs.Fetch.{fetched_of, spelled_at}
use Rattle.rv_machine.specs.declared.fetch.Fetched.{Fetched as CodeFetched}
use Rattle.rv_machine.specs.declared.fetch.Fetched.TheVariants as code
use Rattle.rv_event_laws.specs.Event.{Event}
use Rattle.rv_counts.specs.declared.rows.CountedInstruction.{CountedInstruction}
use Rattle.rv_counts.specs.declared.rows.Done.{Done}
use Rattle.rv_counts.specs.declared.rows.Found.{Found}
use Rattle.rv_counts.specs.Counted.{executions, branches_taken, times_called, told_registers, ends_in_call}
use Rattle.rv_counts.specs.Kinds.{more}
use Rattle.rv_counts.specs.Totals.{one_if, totals_of}
use Rattle.rv_counts.specs.declared.totals.Totals.{Totals}
use Rattle.rv_counts.specs.declared.depth.Depth.{Depth}
use Rattle.rv_counts.specs.declared.branches.Branches.{Branches}
use Rattle.rv_counts.specs.Depth.{HasDepth}
use Rattle.rv_isa.specs.declared.instruction.Format.{Format}
use Rattle.rv_isa.specs.declared.instruction.Format.TheVariants.{Branch}
use Rattle.rv_isa.specs.Operations.{format_of}

-- the sum of a count over the rows whose address and instruction pass a test
abbrev pub counted_if : (ℕ → Inst → Bool) → (CountedInstruction → ℕ) → CountedInstruction → ℕ
counted_if test count row = if test row.pc row.inst then count row else 0

abbrev pub sum_of : (ℕ → Inst → Bool) → (CountedInstruction → ℕ) → List CountedInstruction → ℕ
sum_of test count rows = sum_by (counted_if test count) rows

-- the counts are those of the events, for every test of addresses and instructions: of an
-- instruction at an address, of a mnemonic, of a line, and of all
pub record AreCounted (rows : List CountedInstruction) (seen : List Event) : Type 0 where
  pub executed :
      (test : ℕ → Inst → Bool) → sum_of test (λ row. row.count) rows ≡ executions test seen
  pub taken :
      (test : ℕ → Inst → Bool) → sum_of test (λ row. row.taken) rows ≡ branches_taken test seen
  pub called :
      (test : ℕ → Inst → Bool) → sum_of test (λ row. row.calls) rows ≡ times_called test seen

-- the instruction of each row is what its bits spell
abbrev pub IsSpelled : CountedInstruction → Type 0
IsSpelled row =
    (r : Reader Spells StandsFor) → spelled_at r (Some row.bits) ≡ Got row.inst row.bytes

abbrev pub AreSpelled : List CountedInstruction → Type 0
AreSpelled rows = All IsSpelled rows

-- all that is counted is of these events; a run has fewer than 2 ^ 64
pub record HasCounted (sums : Totals) (rows : List CountedInstruction) (registers : List ℕ)
    (called : Bool) (depth : Depth) (seen : List Event) : Type 0 where
  pub totals : sums ≡ totals_of seen
  pub spelled : AreSpelled rows
  pub counts : length seen < 2 ^ 64 → AreCounted rows seen
  pub told : registers ≡ told_registers seen
  pub call : called ≡ ends_in_call seen
  pub deep : HasDepth depth seen

-- the instructions that are branches
abbrev pub is_branch : Format → Bool
is_branch (Branch operation x) = true
is_branch _ = false

abbrev pub at_branch : ℕ → Inst → Bool
at_branch pc i = is_branch (format_of i)

-- a sum that stays at 2 ^ 64 - 1 where it would be more
abbrev pub capped : ℕ → ℕ
capped n = min n (2 ^ 64 - 1)

abbrev pub branches_in : List CountedInstruction → Branches
branches_in rows =
    record {
      executed = capped (sum_of at_branch (λ row. row.count) rows);
      taken = capped (sum_of at_branch (λ row. row.taken) rows);
    }

-- ---- one step

abbrev pub no_row : (pc bits : ℕ) → Inst → (bytes : ℕ) → CountedInstruction
no_row pc bits inst bytes =
    record {
      pc = pc;
      bits = bits;
      inst = inst;
      bytes = bytes;
      count = 0;
      taken = 0;
      calls = 0;
    }

-- a row with what a step did
abbrev pub with_done : CountedInstruction → Done → CountedInstruction
with_done row done =
    record {
      pc = row.pc;
      bits = row.bits;
      inst = row.inst;
      bytes = row.bytes;
      count = more row.count (one_if done.executed);
      taken = more row.taken (one_if done.taken);
      calls = more row.calls (one_if done.called);
    }

-- the row at an index is of this instruction at this address; the rows are those from before, or
-- these with one more, of which nothing is counted
pub record IsFound (before after : List CountedInstruction) (index pc : ℕ) (inst : Inst) :
    Type 0 where
  pub row : CountedInstruction
  pub below : index < length after
  pub stands : slice_index_or after index row ≡ row
  pub place : row.pc ≡ pc
  pub instruction : row.inst ≡ inst
  pub kept : (after ≡ before)
      ⊎ ((bits bytes : ℕ) × (after ≡ before ++ (no_row pc bits inst bytes ∷ [])))

-- what a step did at this instruction is counted, once
pub record HasOneMore (before after : List CountedInstruction) (pc : ℕ) (inst : Inst)
    (done : Done) : Type 0 where
  pub index : ℕ
  pub found : List CountedInstruction
  pub is_found : IsFound before found index pc inst
  pub changed : after ≡ set found index (with_done is_found.row done)

-- at what was fetched, if that is an instruction
abbrev pub IsNoted : (before after : List CountedInstruction) → ℕ → Fetched → Done → Type 0
IsNoted before after pc (Got i bytes) done = HasOneMore before after pc i done
IsNoted before after pc NoRight done = after ≡ before
IsNoted before after pc NoInstruction done = after ≡ before

-- ---- what is found at an address

-- of an instruction its row, and else nothing
abbrev pub IsRowOf : (before after : List CountedInstruction) → (index pc : ℕ) → CodeFetched →
    Type 0
IsRowOf before after index pc (code.Got i bytes) = IsFound before after index pc i
IsRowOf before after index pc code.NoRight = after ≡ before
IsRowOf before after index pc code.NoInstruction = after ≡ before

-- what these bits spell is found, with its row
pub record IsFoundAt (before after : List CountedInstruction) (pc : ℕ) (bits : Option ℕ)
    (found : Found) : Type 0 where
  pub place : IsRowOf before after found.index pc found.fetched
  pub stands : (r : Reader Spells StandsFor) → fetched_of found.fetched ≡ spelled_at r bits
  pub spelled : AreSpelled after

-- an instruction's index is that of a row
abbrev pub IsWithin : List CountedInstruction → ℕ → CodeFetched → Type 0
IsWithin rows index (code.Got i bytes) = index < length rows
IsWithin rows index code.NoRight = Unit {0}
IsWithin rows index code.NoInstruction = Unit {0}

-- what a step did is counted at the row of an instruction
abbrev pub IsDoneAt : (before after : List CountedInstruction) → ℕ → CodeFetched → Done → Type 0
IsDoneAt before after index (code.Got i bytes) done =
    (row : CountedInstruction) → slice_index_or before index row ≡ row →
    after ≡ set before index (with_done row done)
IsDoneAt before after index code.NoRight done = after ≡ before
IsDoneAt before after index code.NoInstruction done = after ≡ before

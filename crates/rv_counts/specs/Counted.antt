-- How often the instructions of a run were executed, branched and were called: numbers of its
-- events. A test says of which addresses and instructions: an instruction at an address, a mnemonic,
-- a line, or all.

use Rattle.std.specs.Prelude.{ℕ, ◌+◌, ◌==◌, Bool, false, ◌&&◌, ◌||◌, List, [], ◌∷◌, fold, count_by, slice_index}
use Rattle.rv_isa.specs.declared.instruction.Inst.{Inst}
use Rattle.rv_isa.specs.declared.instruction.Format.{Format}
use Rattle.rv_isa.specs.declared.instruction.Format.TheVariants.{Branch, Jal, Jalr}
use Rattle.rv_isa.specs.Operations.{format_of}
use Rattle.rv_isa_laws.specs.Hart.{start}
use Rattle.rv_isa_laws.specs.Meaning.{is_taken}
use Rattle.rv_isa_laws.specs.Run.{Fetched, Got, NoRight, NoInstruction}
use Rattle.rv_event_laws.specs.Event.{Event}
use Rattle.rv_event_laws.specs.Changes.{with_set}
use Rattle.rv_counts.specs.Totals.{is_executed, one_if}

-- ---- what one event is

-- an instruction was fetched that passes a test
abbrev pub is_spelled : (Inst → Bool) → Fetched → Bool
is_spelled test (Got i bytes) = test i
is_spelled test NoRight = false
is_spelled test NoInstruction = false

-- it stands at an address with which it passes a test
abbrev pub is_of : (ℕ → Inst → Bool) → Event → Bool
is_of test e = is_spelled (test e.pc) e.fetched

-- the instruction was executed
abbrev pub has_executed : Event → Bool
has_executed e = is_executed e.fetched e.«end»

-- a branch whose comparison holds of these registers (ISA, 2.5)
abbrev pub is_branching : List ℕ → Format → Bool
is_branching registers (Branch operation x) =
    is_taken operation (slice_index registers x.rs1) (slice_index registers x.rs2)
is_branching registers _ = false

-- a branch was taken, from these registers
abbrev pub has_branched : List ℕ → Event → Bool
has_branched registers e =
    has_executed e && is_spelled (λ i. is_branching registers (format_of i)) e.fetched

-- a jump that leaves its return address in ra or t0 is a call (ISA, 2.5)
abbrev pub is_link : ℕ → Bool
is_link r = r == 1 || r == 5

abbrev pub is_calling : Format → Bool
is_calling (Jal x) = is_link x.rd
is_calling (Jalr x) = is_link x.rd
is_calling _ = false

abbrev pub has_called : Event → Bool
has_called e = is_spelled (λ i. is_calling (format_of i)) e.fetched

-- ---- what the events before it tell

-- the registers before the first step
abbrev pub start_registers : List ℕ
start_registers = (start 0 []).registers

-- the registers after events: each has the value that the last event tells that set it, and before
-- that its value at the start. x0 is 0, since no event of a run sets it
abbrev pub told_registers : List Event → List ℕ
told_registers seen = fold (λ registers e. with_set e.set registers) start_registers seen

-- the latest event was a call
abbrev pub ends_in_call : List Event → Bool
ends_in_call seen = fold (λ called e. has_called e) false seen

-- ---- how many

-- executions of what passes a test
abbrev pub executions : (ℕ → Inst → Bool) → List Event → ℕ
executions test seen = count_by (λ e. is_of test e && has_executed e) seen

-- branches that were taken: `taken_from` counts from registers on
abbrev pub taken_from : (ℕ → Inst → Bool) → List ℕ → List Event → ℕ
taken_from test registers [] = 0
taken_from test registers (e ∷ es) =
    one_if (is_of test e && has_branched registers e) +
    taken_from test (with_set e.set registers) es

abbrev pub branches_taken : (ℕ → Inst → Bool) → List Event → ℕ
branches_taken test seen = taken_from test start_registers seen

-- calls: events right after a call. `calls_from` counts from one on that came after a call or not
abbrev pub calls_from : (ℕ → Inst → Bool) → Bool → List Event → ℕ
calls_from test called [] = 0
calls_from test called (e ∷ es) =
    one_if (is_of test e && called) + calls_from test (has_called e) es

abbrev pub times_called : (ℕ → Inst → Bool) → List Event → ℕ
times_called test seen = calls_from test false seen

-- What the counts of a run sum over its events.

use Rattle.std.specs.Prelude.{ℕ, ◌==◌, Bool, true, false, if◌then◌else◌, List, fold, Option, Some, None}
use Rattle.rv_isa.specs.Operations.{format_of}
use Rattle.rv_isa_laws.specs.Hart.{End, Exited, Breakpoint}
use Rattle.rv_isa_laws.specs.Run.{Fetched, Got, NoRight, NoInstruction}
use Rattle.rv_event_laws.specs.declared.access.Access.{Access}
use Rattle.rv_event_laws.specs.Event.{Event}
use Rattle.rv_counts.specs.declared.kinds.Kinds.{Kinds}
use Rattle.rv_counts.specs.declared.totals.Totals.{Totals}
use Rattle.rv_counts.specs.Kinds.{instruction_kind, more, no_kinds, with_kind}

-- an instruction is executed where its step goes on, or ends the run by what it means, and not by
-- an access that fails
abbrev pub is_meant : End → Bool
is_meant (Exited code) = true
is_meant Breakpoint = true
is_meant _ = false

abbrev pub is_executed : Fetched → Option End → Bool
is_executed (Got i bytes) None = true
is_executed (Got i bytes) (Some e) = is_meant e
is_executed NoRight e = false
is_executed NoInstruction e = false

abbrev pub is_compressed : Fetched → Bool
is_compressed (Got i bytes) = bytes == 2
is_compressed NoRight = false
is_compressed NoInstruction = false

abbrev pub one_if : Bool → ℕ
one_if holds = if holds then 1 else 0

-- whether something was read or stored, and its bytes
abbrev pub accesses_in : Option Access → ℕ
accesses_in None = 0
accesses_in (Some x) = 1

abbrev pub access_bytes : Option Access → ℕ
access_bytes None = 0
access_bytes (Some x) = x.bytes

-- the kinds with that of what was fetched
abbrev pub with_kind_in : Fetched → Kinds → Kinds
with_kind_in (Got i bytes) k = with_kind k (instruction_kind (format_of i))
with_kind_in NoRight k = k
with_kind_in NoInstruction k = k

abbrev pub with_event : Totals → Event → Totals
with_event t e =
    let executed = is_executed e.fetched e.«end» in
    record {
      executed = more t.executed (one_if executed);
      compressed =
          more t.compressed (if executed then one_if (is_compressed e.fetched) else 0);
      loads = more t.loads (accesses_in e.read);
      read = more t.read (access_bytes e.read);
      stores = more t.stores (accesses_in e.stored);
      written = more t.written (access_bytes e.stored);
      kinds = if executed then with_kind_in e.fetched t.kinds else t.kinds;
    }

abbrev pub nothing : Totals
nothing =
    record {
      executed = 0;
      compressed = 0;
      loads = 0;
      read = 0;
      stores = 0;
      written = 0;
      kinds = no_kinds;
    }

abbrev pub totals_of : List Event → Totals
totals_of seen = fold with_event nothing seen

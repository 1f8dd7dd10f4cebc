-- Which bytes of a step a line shows.

use Rattle.std.specs.Prelude.{Bool, true, false, if◌then◌else◌, Option, Some, None}
use Rattle.rv_event_laws.specs.declared.access.Access.{Access as Bytes}
use Rattle.rv_machine.specs.declared.event.Step.{Step}
use Rattle.rv_trace.specs.declared.access.Access.{Access}
use Rattle.rv_trace.specs.declared.access.AccessKind.{AccessKind}
use Rattle.rv_trace.specs.declared.access.AccessKind.TheVariants.{Load, Store, LoadReserved, StoreConditional, Update}

abbrev pub stores : AccessKind → Bool
stores Load = false
stores Store = true
stores LoadReserved = false
stores StoreConditional = true
stores Update = true

-- the bytes stored, of what stores; else those read
abbrev pub shown_bytes : AccessKind → Step → Option Bytes
shown_bytes kind s = if stores kind then s.accesses.stored else s.accesses.read

abbrev pub is_some : Option Bytes → Bool
is_some None = false
is_some (Some x) = true

-- the line of an instruction that accesses memory has all its parts exactly where bytes are shown
abbrev pub is_full : Option Access → Step → Bool
is_full None s = true
is_full (Some access) s = is_some (shown_bytes access.kind s)

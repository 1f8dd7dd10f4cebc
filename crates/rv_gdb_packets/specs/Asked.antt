-- What packets ask that read, and the answer to what cannot be done (GDB manual, "Remote Protocol", "Packets").

use Rattle.std.specs.Prelude.{◌≡◌, ℕ, ◌==◌, Bool, true, false, ◌||◌, List, [], ◌∷◌, ⊤}
use Rattle.rv_gdb_packets.specs.Numbers.{number_on}
use Rattle.rv_gdb_packets.specs.declared.command.Command.{Command}
use Rattle.rv_gdb_packets.specs.declared.command.Command.TheVariants.{ReadRegisters, ReadRegister, ReadMemory, WriteRegisters, WriteRegister, WriteMemory, WriteBytes, Unknown}

-- bytes from the address that these digits spell first, or nothing that is known
abbrev pub ReadsFrom : List ℕ → Command → Type 0
ReadsFrom digits Unknown = ⊤
ReadsFrom digits (ReadMemory range) = range.address ≡ number_on 0 digits
ReadsFrom digits _ = ⊥

-- the state of the program, or nothing that is known
abbrev pub reads : Command → Bool
reads ReadRegisters = true
reads (ReadRegister _) = true
reads (ReadMemory _) = true
reads Unknown = true
reads _ = false

-- registers or memory are to be written
abbrev pub writes : Command → Bool
writes (WriteRegisters _) = true
writes (WriteRegister _ _) = true
writes (WriteMemory _ _) = true
writes (WriteBytes _ _) = true
writes _ = false

-- the letters of such packets: G, P, M and X
abbrev pub begins_write : ℕ → Bool
begins_write letter = letter == 71 || letter == 80 || letter == 77 || letter == 88

-- E01
abbrev pub error_reply : List ℕ
error_reply = 69 ∷ 48 ∷ 49 ∷ []

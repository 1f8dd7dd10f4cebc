-- The ends of runs in numbers (include/rv.h).

use Rattle.std.specs.Prelude.{ℕ}
use Rattle.rv_machine.specs.declared.end.End.{End}
use Rattle.rv_machine.specs.declared.end.End.TheVariants.{Exited, Limit, Breakpoint, Illegal, FetchOutside, LoadText, LoadOutside, StoreText, StoreOutside, MisalignedAtomic}
use Rattle.rv_machine.specs.End.{address_in_end}
use Rattle.rv_library.specs.Answer.{or_zero}
use Rattle.rv_library.specs.declared.ends.Ended.{Ended}

abbrev pub end_kind : End → ℕ
end_kind (Exited code) = 0
end_kind Limit = 1
end_kind Breakpoint = 2
end_kind (Illegal a) = 3
end_kind (FetchOutside a) = 4
end_kind (LoadText a) = 5
end_kind (LoadOutside a) = 6
end_kind (StoreText a) = 7
end_kind (StoreOutside a) = 8
end_kind (MisalignedAtomic a) = 9

abbrev pub code_or_zero : End → ℕ
code_or_zero (Exited code) = code
code_or_zero _ = 0

abbrev pub address_or_zero : End → ℕ
address_or_zero e = or_zero (address_in_end e)

abbrev pub end_numbers : End → Ended
end_numbers e = record { address = address_or_zero e; kind = end_kind e; code = code_or_zero e }

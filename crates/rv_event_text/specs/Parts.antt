-- The parts of a line, as the code adds them.

use Rattle.std.specs.Prelude.{ℕ, List, [], ◌++◌, codes}
use Rattle.rv_machine.specs.declared.end.End.{End}
use Rattle.rv_machine.specs.declared.end.End.TheVariants.{Exited, Limit, Breakpoint, Illegal, FetchOutside, LoadText, LoadOutside, StoreText, StoreOutside, MisalignedAtomic}
use Rattle.rv_event_text_laws.specs.EventLine.{hex_digits}

-- what stands behind the name of an end: its code, or its address
abbrev pub end_number : End → List ℕ
end_number (Exited code) = codes " " ++ hex_digits 2 code
end_number Limit = []
end_number Breakpoint = []
end_number (Illegal a) = codes " " ++ hex_digits 16 a
end_number (FetchOutside a) = codes " " ++ hex_digits 16 a
end_number (LoadText a) = codes " " ++ hex_digits 16 a
end_number (LoadOutside a) = codes " " ++ hex_digits 16 a
end_number (StoreText a) = codes " " ++ hex_digits 16 a
end_number (StoreOutside a) = codes " " ++ hex_digits 16 a
end_number (MisalignedAtomic a) = codes " " ++ hex_digits 16 a

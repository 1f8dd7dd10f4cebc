-- An end's name, and the number behind it.

use Rattle.std.proofs.Common.{◌≡◌, ◌++◌, refl}
use Rattle.rv_machine.specs.declared.end.End.{End}
use Rattle.rv_machine.specs.declared.end.End.TheVariants.{Exited, Limit, Breakpoint, Illegal, FetchOutside, LoadText, LoadOutside, StoreText, StoreOutside, MisalignedAtomic}
use Rattle.rv_machine.specs.End.{law_end, end_name}
use Rattle.rv_event_text_laws.specs.EventLine.{end_words}
use Rattle.rv_event_text.specs.Parts.{end_number}

pub end_parts : (e : End) → end_words (law_end e) ≡ end_name e ++ end_number e
end_parts (Exited code) = refl
end_parts Limit = refl
end_parts Breakpoint = refl
end_parts (Illegal a) = refl
end_parts (FetchOutside a) = refl
end_parts (LoadText a) = refl
end_parts (LoadOutside a) = refl
end_parts (StoreText a) = refl
end_parts (StoreOutside a) = refl
end_parts (MisalignedAtomic a) = refl

-- The line of an event: its parts in ASCII, a blank before each, numbers in hexadecimal. Each part has
-- a fixed width, or a mark that closes it, so that an event can be read back from its line.

use Rattle.std.specs.Prelude.{ℕ, zero, suc, ◌*◌, ◌/◌, ◌%◌, false, List, [], ◌∷◌, ◌++◌, Option, Some, None, codes, flat_map}
use Rattle.std.specs.Fmt.{digit_glyph}
use Rattle.rv_isa.specs.RegisterNames.{decimal}
use Rattle.rv_isa_laws.specs.Hart.{End, Exited, Limit, Breakpoint, Illegal, FetchOutside, LoadText, LoadOutside, StoreText, StoreOutside, MisalignedAtomic, Astray}
use Rattle.rv_isa_laws.specs.Run.{Fetched, NoRight, NoInstruction, Got}
use Rattle.rv_isa_laws.specs.Word.{form, word}
use Rattle.rv_event_laws.specs.declared.access.Access.{Access}
use Rattle.rv_event_laws.specs.declared.access.Setting.{Setting}
use Rattle.rv_event_laws.specs.Event.{Event}

-- so many of the last digits of a number, in lower case
unfoldable pub hex_digits : (count number : ℕ) → List ℕ
hex_digits zero n = []
hex_digits (suc count) n = hex_digits count (n / 16) ++ (digit_glyph false (n % 16) ∷ [])

-- bytes, two digits each
abbrev pub hex_bytes : List ℕ → List ℕ
hex_bytes [] = []
hex_bytes (b ∷ bytes) = hex_digits 2 b ++ hex_bytes bytes

-- what stands at the pc: how many bytes it has, and its word, which of a parcel is that of the
-- instruction that it stands for; or why there is none
abbrev pub fetched_text : Fetched → List ℕ
fetched_text (Got i bytes) = hex_digits 1 bytes ++ (codes " " ++ hex_digits 8 (word (form i)))
fetched_text NoRight = codes "no right"
fetched_text NoInstruction = codes "no instruction"

-- bytes of memory: the address of the first, an arrow, and their number, two digits a byte
abbrev pub access_text : (arrow : List ℕ) → Access → List ℕ
access_text arrow x =
    codes " [" ++ (hex_digits 16 x.address ++ (codes "] " ++ (arrow
    ++ (codes " " ++ hex_digits (2 * x.bytes) x.number))))

abbrev pub accessed_text : (arrow : List ℕ) → Option Access → List ℕ
accessed_text arrow None = []
accessed_text arrow (Some x) = access_text arrow x

-- a register by its number, and its new value
abbrev pub set_text : Option Setting → List ℕ
set_text None = []
set_text (Some x) = codes " x" ++ (decimal x.register ++ (codes " <- " ++ hex_digits 16 x.value))

-- the bytes that a call moved, if any, behind a word
abbrev pub moved_text : (name bytes : List ℕ) → List ℕ
moved_text name [] = []
moved_text name (b ∷ bytes) = name ++ hex_bytes (b ∷ bytes)

-- an end by its name, with its code or its address
abbrev pub end_words : End → List ℕ
end_words (Exited code) = codes "Exited " ++ hex_digits 2 code
end_words Limit = codes "Limit"
end_words Breakpoint = codes "Breakpoint"
end_words (Illegal a) = codes "Illegal " ++ hex_digits 16 a
end_words (FetchOutside a) = codes "FetchOutside " ++ hex_digits 16 a
end_words (LoadText a) = codes "LoadText " ++ hex_digits 16 a
end_words (LoadOutside a) = codes "LoadOutside " ++ hex_digits 16 a
end_words (StoreText a) = codes "StoreText " ++ hex_digits 16 a
end_words (StoreOutside a) = codes "StoreOutside " ++ hex_digits 16 a
end_words (MisalignedAtomic a) = codes "MisalignedAtomic " ++ hex_digits 16 a
end_words Astray = codes "Astray"

abbrev pub ended_text : Option End → List ℕ
ended_text None = []
ended_text (Some e) = codes " end " ++ end_words e

-- a line feed ends it
abbrev pub event_line : Event → List ℕ
event_line e =
    hex_digits 16 e.pc ++ (codes " " ++ (fetched_text e.fetched
    ++ (accessed_text (codes "->") e.read ++ (set_text e.set
    ++ (accessed_text (codes "<-") e.stored
    ++ (moved_text (codes " input ") e.taken ++ (moved_text (codes " output ") e.put
    ++ (ended_text e.«end» ++ 10 ∷ []))))))))

abbrev pub lines_of : List Event → List ℕ
lines_of told = flat_map event_line told

-- The name of a member, by what its head says (GNU ar, System V "ar"; LLVM's GNU archives are the
-- same).

use Rattle.std.specs.Prelude.{ℕ, ◌-◌, ◌==◌, nat_le, nat_eq, Bool, not, ◌&&◌, ◌||◌, List, length, take, drop, codes, Option, Some, None, option_and_then, is_none, Result, Ok, Err, if◌then◌else◌, bytes_eq}
use Rattle.std.specs.List.{starts_with, list_all, position}
use Rattle.std.specs.Option.{option_or}
use Rattle.rv_archive_laws.specs.declared.fault.ArchiveFault.{ArchiveFault}
use Rattle.rv_archive_laws.specs.declared.fault.ArchiveFault.TheVariants.{BadName, BsdArchive}
use Rattle.rv_archive_laws.specs.Decimal.{begins_number, decimal}

abbrev pub first_byte : ℕ → List ℕ → Option ℕ
first_byte byte bytes = position (λ b. b == byte) bytes

-- ---- a name in the head itself

abbrev pub up_to : Option ℕ → List ℕ → List ℕ
up_to None field = field
up_to (Some end) field = take end field

-- what stands before the first slash, or without a slash before the first blank
abbrev pub short_name : List ℕ → List ℕ
short_name field = up_to (option_or (first_byte 47 field) (first_byte 32 field)) field

-- ---- a name in the table of long names

-- more than any file's name has
abbrev pub longest_name : ℕ
longest_name = 4096

-- a name without the slash that ends it
abbrev pub without_slash : List ℕ → Option (List ℕ)
without_slash name =
    if bytes_eq (drop (length name - 1) name) (codes "/")
    then Some (take (length name - 1) name) else None

-- what stands from an offset on before the first line's end, which follows a slash
abbrev pub line_at : List ℕ → Option ℕ → Option (List ℕ)
line_at line None = None
line_at line (Some end) = without_slash (take end line)

abbrev pub long_name : List ℕ → ℕ → Option (List ℕ)
long_name table offset =
    let line = take longest_name (drop offset table) in line_at line (first_byte 10 line)

-- ---- both

-- BSD's names: `#1/` and the length of a name that stands in front of the contents
abbrev pub is_bsd_name : List ℕ → Bool
is_bsd_name field = starts_with nat_eq field (codes "#1/") && begins_number (drop 3 field)

-- BSD's index: its name has no slash behind it, as each name of GNU's has
abbrev pub is_bsd_index : List ℕ → Bool
is_bsd_index field =
    starts_with nat_eq field (codes "__.SYMDEF") && is_none (first_byte 47 field)

abbrev pub is_bsd : List ℕ → Bool
is_bsd field = is_bsd_name field || is_bsd_index field

-- a message can show it: one byte or more, and none is a control character
abbrev pub is_shown_byte : ℕ → Bool
is_shown_byte byte = nat_le 32 byte && not (byte == 127)

abbrev pub is_shown : List ℕ → Bool
is_shown name = not (length name == 0) && list_all is_shown_byte name

abbrev pub message_name : Option (List ℕ) → Result (List ℕ) ArchiveFault
message_name None = Err BadName
message_name (Some name) = if is_shown name then Ok name else Err BadName

-- a slash, and an offset in decimal in the 15 bytes behind it, mean a long name
abbrev pub found_name : List ℕ → List ℕ → Option (List ℕ)
found_name table field =
    if starts_with nat_eq field (codes "/")
    then option_and_then (long_name table) (decimal (take 15 (drop 1 field)))
    else Some (short_name field)

-- the name of a member whose head has these 16 bytes, by the table of long names
unfoldable pub member_name : List ℕ → List ℕ → Result (List ℕ) ArchiveFault
member_name table field =
    if is_bsd field then Err BsdArchive else message_name (found_name table field)

-- What every object keeps of what a reader of files tests (System V gABI, "Sections", "Symbol
-- Table", "Relocation"; RISC-V ELF psABI, "Relocations"; this project's refusals).

use Rattle.std.specs.Prelude.{ℕ, ℤ, pos, negsuc, unwrap_or, ◌+◌, ◌%◌, ◌^◌, Bool, true, false, not, ◌&&◌, ◌||◌, ◌==◌, nat_le, nat_lt, max, List, [], ◌∷◌, length, codes, Option, Some, None, bytes_eq, if◌then◌else◌}
use Rattle.std.specs.List.{list_all, list_any, slice_get}
use Rattle.rv_isa.specs.declared.kind.Kind.{Kind}
use Rattle.rv_isa.specs.declared.kind.Kind.TheVariants as kinds
use Rattle.rv_map_laws.specs.Name.{is_name}
use Rattle.rv_object_laws.specs.declared.symbol.Binding.{Binding}
use Rattle.rv_object_laws.specs.declared.symbol.Binding.TheVariants as bindings
use Rattle.rv_object_laws.specs.declared.symbol.Definition.{Definition}
use Rattle.rv_object_laws.specs.declared.symbol.Definition.TheVariants as definitions
use Rattle.rv_object_laws.specs.declared.row.Row.{Row}
use Rattle.rv_isa.specs.Kinds.{width_of}
use Rattle.rv_object_laws.specs.Object.{Contents, Progbits, Note, Nobits, Relocation, Section, Symbol, size_of}

-- a power of two, 4096 at most
abbrev pub is_section_alignment : ℕ → Bool
is_section_alignment n =
    list_any (λ k. n == 2 ^ k) (0 ∷ 1 ∷ 2 ∷ 3 ∷ 4 ∷ 5 ∷ 6 ∷ 7 ∷ 8 ∷ 9 ∷ 10 ∷ 11 ∷ 12 ∷ [])

-- a name ends before the first zero byte in its file
abbrev pub is_string : List ℕ → Bool
is_string name = list_all (λ byte. not (byte == 0)) name

-- the rows are no section of an object: they stand in a section of bytes
abbrev pub is_kept_name : List ℕ → Bool
is_kept_name name = not (bytes_eq name (codes ".rv.rows"))

abbrev pub keeps_name : Contents → List ℕ → Bool
keeps_name (Progbits bytes) name = is_kept_name name
keeps_name (Note bytes) name = true
keeps_name (Nobits size) name = true

-- code has an even size
abbrev pub is_even : Bool → Contents → Bool
is_even executable c = not executable || (size_of c % 2 == 0)

-- a section without an address has no relocations
abbrev pub is_loaded_alone : Bool → List Relocation → Bool
is_loaded_alone loaded rs = loaded || (length rs == 0)

-- a field lies in bytes that the file has; a relocation without a field stands in the section or at
-- its end
abbrev pub fits_inside : Contents → Relocation → Bool
fits_inside (Nobits size) r = width_of r.kind == 0
fits_inside c r = nat_le (r.place + width_of r.kind) (size_of c)

abbrev pub fit_inside : Contents → List Relocation → Bool
fit_inside c rs = list_all (fits_inside c) rs

-- ---- paddings

abbrev pub is_align : Kind → Bool
is_align kinds.Align = true
is_align _ = false

-- the bytes of a padding; none where the addend is negative
abbrev pub padding_of : ℤ → Option ℕ
padding_of (pos n) = Some n
padding_of (negsuc n) = None

abbrev pub is_padding_of : Bool → Contents → ℕ → Option ℕ → Bool
is_padding_of executable c place None = false
is_padding_of executable c place (Some n) =
    (n % 2 == 0) && nat_le n 4094
    && (not executable || (place % 2 == 0) && nat_le (place + n) (size_of c))

-- the padding of an alignment has an even count of bytes, 4094 at most; in code it begins at an
-- even offset and lies in the section
abbrev pub is_padding : Bool → Contents → Relocation → Bool
is_padding executable c r =
    not (is_align r.kind) || is_padding_of executable c r.place (padding_of r.addend)

-- the bytes that a relocation has in code from its place on: a padding or a field
abbrev pub held : Relocation → ℕ
held r = if is_align r.kind then unwrap_or (padding_of r.addend) 0 else width_of r.kind

-- a padding meets no field and no other padding: one of two ends before the later begins, as what
-- has no bytes does
abbrev pub are_apart : Relocation → Relocation → Bool
are_apart r q =
    let later = max r.place q.place in
    not (is_align r.kind || is_align q.kind) || nat_le (r.place + held r) later
    || nat_le (q.place + held q) later

abbrev pub are_all_apart : List Relocation → Bool
are_all_apart [] = true
are_all_apart (r ∷ rs) = list_all (are_apart r) rs && are_all_apart rs

abbrev pub are_paddings : Bool → Contents → List Relocation → Bool
are_paddings executable c rs =
    list_all (is_padding executable c) rs && (not executable || are_all_apart rs)

-- ---- names

-- a name that every object may use has one byte or more, each 21h to 7Eh
abbrev pub is_shown : Binding → List ℕ → Bool
is_shown bindings.Local name = is_string name
is_shown bindings.Global name = is_name name
is_shown bindings.Weak name = is_name name

-- a number that a symbol is has 64 bits
abbrev pub has_64_bits : Definition → Bool
has_64_bits (definitions.Absolute n) = nat_lt n (2 ^ 64)
has_64_bits _ = true

-- ---- indices

abbrev pub is_below : ℕ → Option ℕ → Bool
is_below count None = true
is_below count (Some index) = nat_lt index count

-- each relocation names one of the symbols, or none
abbrev pub are_indexed : List Symbol → List Section → Bool
are_indexed symbols sections =
    list_all (λ s. list_all (λ r. is_below (length symbols) r.symbol) s.relocations) sections

abbrev pub is_defined_in : ℕ → Definition → Bool
is_defined_in count (definitions.InSection section offset) = nat_lt section count
is_defined_in count _ = true

-- each symbol stands in one of the sections
abbrev pub are_defined : List Section → List Symbol → Bool
are_defined sections symbols = list_all (λ s. is_defined_in (length sections) s.definition) symbols

-- a row lies in a section with an address
abbrev pub is_row_in : Row → Option Section → Bool
is_row_in r None = false
is_row_in r (Some s) = s.loaded && nat_le (r.offset + r.bytes) (size_of s.contents)

abbrev pub are_rows : List Section → List Row → Bool
are_rows sections rows = list_all (λ r. is_row_in r (slice_get sections r.section)) rows

-- the numbers of a row have the widths of their fields
abbrev pub is_counted : Row → Bool
is_counted r =
    nat_lt r.line (2 ^ 32) && nat_lt r.ordinal (2 ^ 32) && nat_lt r.section (2 ^ 32)
    && nat_lt r.offset (2 ^ 64) && nat_lt r.bytes (2 ^ 32) && nat_lt r.instructions (2 ^ 32)

abbrev pub are_counted : List Row → Bool
are_counted rows = list_all is_counted rows

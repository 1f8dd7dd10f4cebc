-- Which calls of objects may be shortened, and what lies between them and their targets (RISC-V ELF
-- psABI, "Linker Relaxation", function call relaxation; this project's limits of it).

use Rattle.std.specs.Prelude.{ℕ, ℤ, pos, ◌+ℤ◌, min, ◌+◌, ◌-◌, ◌/◌, ◌%◌, ◌^◌, ◌==◌, Bool, true, false, not, ◌&&◌, ◌||◌, nat_le, nat_lt, List, [], ◌∷◌, ◌++◌, take, drop, filter, map, count_by, Option, Some, None, option_and_then, if◌then◌else◌}
use Rattle.std.specs.Int.{w32, w64, from_le_bytes, int_wrap}
use Rattle.std.specs.List.{list_any, slice_get}
use Rattle.rv_size_laws.specs.Sites.{padding_site}
use Rattle.rv_isa.specs.declared.kind.Kind.{Kind}
use Rattle.rv_isa.specs.declared.kind.Kind.TheVariants as kinds
use Rattle.rv_isa.specs.Kinds.{width_of}
use Rattle.rv_isa.specs.declared.instruction.Inst.TheVariants as isa
use Rattle.rv_isa_laws.specs.Word.{form, word as word_of}
use Rattle.rv_size_laws.specs.declared.site.Site.{Site}
use Rattle.rv_size_laws.specs.declared.site.SiteKind.TheVariants as sites
use Rattle.rv_object_laws.specs.declared.symbol.Definition.{Definition}
use Rattle.rv_object_laws.specs.declared.symbol.Definition.TheVariants as definitions
use Rattle.rv_object_laws.specs.Object.{Relocation, Section, Object, size_of, stored}
use Rattle.rv_object_laws.specs.Valid.{held}
use Rattle.rv_link_laws.specs.Moves.{alignment_of, full_padding, has_padding}
use Rattle.rv_link_laws.specs.Inputs.{InputSection, goes_to_text, inputs, begins_at}
use Rattle.rv_link_laws.specs.Names.{Place, symbol_place, object_at, is_in_text}

-- ---- the words of a call

-- so many bits of a word from one on (ISA, "Base Instruction Formats")
abbrev pub bits : ℕ → (from count : ℕ) → ℕ
bits word from count = word / 2 ^ from % 2 ^ count

abbrev pub opcode : ℕ → ℕ
opcode word = bits word 0 7

abbrev pub funct3 : ℕ → ℕ
funct3 word = bits word 12 3

abbrev pub rd : ℕ → ℕ
rd word = bits word 7 5

abbrev pub rs1 : ℕ → ℕ
rs1 word = bits word 15 5

-- the words of `auipc` and `jalr` whose operands are zeros: they have opcode and funct3 alone
abbrev pub auipc_word : ℕ
auipc_word = word_of (form (isa.Auipc (record { rd = 0; immediate = 0 })))

abbrev pub jalr_word : ℕ
jalr_word = word_of (form (isa.Jalr (record { rd = 0; rs1 = 0; immediate = pos 0 })))

-- a word that spells an `auipc`, a `jalr` (`Spells`), whatever its operands are
abbrev pub is_auipc : ℕ → Bool
is_auipc word = opcode word == opcode auipc_word

abbrev pub is_jalr : ℕ → Bool
is_jalr word = (opcode word == opcode jalr_word) && (funct3 word == funct3 jalr_word)

abbrev pub word_at : List ℕ → ℕ → ℕ
word_at bytes place = from_le_bytes w32 (take 4 (drop place bytes))

-- the register that the call at a place links
abbrev pub link_register : List ℕ → ℕ → ℕ
link_register bytes place = rd (word_at bytes (place + 4))

-- `auipc r` and `jalr rd, r` at an even offset, as instructions stand (ISA, "Instruction Length
-- Encoding"), whatever stands in the fields that the relocation fills
abbrev pub are_call_words : List ℕ → ℕ → Bool
are_call_words bytes place =
    let first = word_at bytes place in
    let second = word_at bytes (place + 4) in
    (place % 2 == 0) && is_auipc first && is_jalr second && (rs1 second == rd first)

-- ---- permitted calls

abbrev pub is_call : Kind → Bool
is_call kinds.Call = true
is_call kinds.CallPlt = true
is_call _ = false

abbrev pub is_relax : Kind → Bool
is_relax kinds.Relax = true
is_relax _ = false

abbrev pub has_relax : ℕ → List Relocation → Bool
has_relax place rs = list_any (λ r. is_relax r.kind && (r.place == place)) rs

-- the field of a relocation meets the 8 bytes from a place on
abbrev pub meets : ℕ → Relocation → Bool
meets place r =
    nat_lt 0 (width_of r.kind) && nat_lt r.place (place + 8)
    && nat_lt place (r.place + width_of r.kind)

-- a definition names a place strictly inside them
abbrev pub is_inside : (index place : ℕ) → Definition → Bool
is_inside index place (definitions.InSection section offset) =
    (section == index) && nat_lt place offset && nat_lt offset (place + 8)
is_inside index place _ = false

abbrev pub is_entered : Object → (index place : ℕ) → Bool
is_entered o index place = list_any (λ s. is_inside index place s.definition) o.symbols

-- the place of a relocation's symbol
abbrev pub target_place : List Object → InputSection → Relocation → Option Place
target_place os i r =
    option_and_then
    (λ index. option_and_then (symbol_place os i.file) (slice_get i.object.symbols index)) r.symbol

-- the section that a place is in, or past the end of
abbrev pub home : List Object → Place → Option Section
home os p = slice_get (object_at os p.file).sections p.section

-- that one goes to text
abbrev pub is_text_place : List Object → Option Place → Bool
is_text_place os None = false
is_text_place os (Some p) = is_in_text (home os p)

-- a place past its section's end moves as the end does: what moves with it, and the bytes from
-- there on to it
abbrev pub moving : Option Section → ℕ → ℕ
moving None offset = offset
moving (Some s) offset = min offset (size_of s.contents)

abbrev pub past_end : Option Section → ℕ → ℕ
past_end None offset = 0
past_end (Some s) offset = offset - size_of s.contents

-- a call that may be shortened: it has a RELAX at its place, is `auipc` and `jalr`,
-- leads to a place in text, no symbol stands strictly inside it,
-- and no field but its own meets its bytes
abbrev pub is_permitted : List Object → InputSection → Relocation → Bool
is_permitted os i r =
    is_call r.kind
    && has_relax r.place i.section.relocations
    && are_call_words (stored i.section.contents) r.place
    && is_text_place os (target_place os i r)
    && not (is_entered i.object i.index r.place)
    && (count_by (meets r.place) i.section.relocations == 1)

-- ---- the text in one line

-- Offsets count all sections of text one behind the other as they are before anything is taken out,
-- each behind as much padding as its start may need.

abbrev pub start_padding : Section → ℕ
start_padding s = begins_at s - 2

-- the offset of a section's first byte, by its file and its index there
abbrev pub base_in : List InputSection → (file index : ℕ) → ℕ
base_in [] file index = 0
base_in (i ∷ is) file index =
    start_padding i.section
    + (if (i.file == file) && (i.index == index) then 0
    else size_of i.section.contents + base_in is file index)

abbrev pub base : List Object → (file index : ℕ) → ℕ
base os file index = base_in (inputs goes_to_text os) file index

-- the offset of a place, or of its section's end where it lies past that, and how far it does
abbrev pub text_offset : List Object → Option Place → ℕ
text_offset os None = 0
text_offset os (Some p) = base os p.file p.section + moving (home os p) p.offset

abbrev pub excess : List Object → Option Place → ℕ
excess os None = 0
excess os (Some p) = past_end (home os p) p.offset

-- ---- sites

-- what may change of a section: its alignments, and the calls that may be shortened
abbrev pub may_change : List Object → InputSection → Relocation → Bool
may_change os i r = has_padding r || is_permitted os i r

-- in the order of their places: before those that begin where it ends or later
abbrev pub inserted_change : Relocation → List Relocation → List Relocation
inserted_change r [] = r ∷ []
inserted_change r (q ∷ qs) =
    if nat_le (r.place + held r) q.place then r ∷ q ∷ qs else q ∷ inserted_change r qs

abbrev pub in_order : List Relocation → List Relocation
in_order [] = []
in_order (r ∷ rs) = inserted_change r (in_order rs)

abbrev pub changes : List Object → InputSection → List Relocation
changes os i = in_order (filter (may_change os i) i.section.relocations)

-- `c.j` may stand for a call that links no register, where its object has compressed code
abbrev pub is_compressible : InputSection → Relocation → Bool
is_compressible i r =
    i.object.rvc && (link_register (stored i.section.contents) r.place == 0)

-- what is added to the target: the addend, and what the symbol lies past its section's end, in 64
-- bits
abbrev pub constant : List Object → InputSection → Relocation → ℤ
constant os i r = int_wrap w64 (r.addend +ℤ pos (excess os (target_place os i r)))

abbrev pub call_site : List Object → InputSection → ℕ → Relocation → Site
call_site os i offset r = record {
  offset = offset;
  kind = sites.Call (record {
    target = text_offset os (target_place os i r);
    addend = constant os i r;
    compressed = is_compressible i r;
  });
}

-- a change of a section whose first byte has an offset
abbrev pub site_of : List Object → InputSection → ℕ → Relocation → Site
site_of os i first r =
    if has_padding r then padding_site (first + r.place) (full_padding r) (alignment_of r)
    else call_site os i (first + r.place) r

-- the sites of sections from an offset on: the start of each, and its changes
abbrev pub sites_from : List Object → ℕ → List InputSection → List Site
sites_from os offset [] = []
sites_from os offset (i ∷ is) =
    let first = offset + start_padding i.section in
    padding_site offset (start_padding i.section) (begins_at i.section)
    ∷ (map (site_of os i first) (changes os i)
    ++ sites_from os (first + size_of i.section.contents) is)

-- the sites of the text of objects
abbrev pub sites_of : List Object → List Site
sites_of os = sites_from os 0 (inputs goes_to_text os)

-- the bytes of sections in that line
abbrev pub length_of : List InputSection → ℕ
length_of [] = 0
length_of (i ∷ is) = start_padding i.section + size_of i.section.contents + length_of is

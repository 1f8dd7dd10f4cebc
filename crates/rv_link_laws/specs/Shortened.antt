-- Objects with their calls shortened (RISC-V ELF psABI, "Linker Relaxation", function call
-- relaxation; Unprivileged ISA, "Unconditional Jumps" and "C.J").

use Rattle.std.specs.Prelude.{◌≡◌, ℕ, suc, pos, ◌+◌, ◌-◌, ◌==◌, Bool, true, false, ◌&&◌, nat_lt, List, [], ◌∷◌, filter, map, Option, Some, None, if◌then◌else◌}
use Rattle.std.specs.List.{slice_get}
use Rattle.rv_size_laws.specs.Sites.{size_at}
use Rattle.rv_isa.specs.declared.kind.Kind.{Kind}
use Rattle.rv_isa.specs.declared.kind.Kind.TheVariants as kinds
use Rattle.rv_isa.specs.declared.instruction.Inst.TheVariants as isa
use Rattle.rv_isa_laws.specs.Bytes.{little_endian}
use Rattle.rv_isa_laws.specs.Word.{form, word}
use Rattle.rv_parcel.specs.declared.form.Compressed.TheVariants as compressed
use Rattle.rv_parcel.specs.Parcel.{parcel}
use Rattle.rv_size_laws.specs.Calls.{IsGreatestClosed}
use Rattle.rv_object_laws.specs.declared.symbol.Definition.{Definition}
use Rattle.rv_object_laws.specs.declared.symbol.Definition.TheVariants as definitions
use Rattle.rv_object_laws.specs.declared.row.Row.{Row}
use Rattle.rv_object_laws.specs.Object.{Contents, Progbits, Note, Nobits, Relocation, Section, Symbol, Object, stored}
use Rattle.rv_link_laws.specs.Moves.{Move, new_offset, kept, lost}
use Rattle.rv_link_laws.specs.Inputs.{goes_to_text}
use Rattle.rv_link_laws.specs.CallSites.{is_call, link_register, in_order, base, sites_of}

-- the bytes of the call at each place of a section
abbrev pub Sizes : Type 0
Sizes = ℕ → ℕ

-- in each section, by its file and its index there
abbrev pub sizes_by : List Object → List ℕ → (file index : ℕ) → Sizes
sizes_by os kept file index place = size_at (sites_of os) kept (base os file index + place)

-- ---- what is left of a call

-- `c.j`, or `jal` that links a register, with an empty field
abbrev pub empty_jump : ℕ
empty_jump = parcel (compressed.J (pos 0))

abbrev pub empty_jal : (link : ℕ) → ℕ
empty_jal link = word (form (isa.Jal (record { rd = link; offset = pos 0 })))

abbrev pub short_call : (bytes link : ℕ) → List ℕ
short_call bytes link =
    if bytes == 2 then little_endian 2 empty_jump else little_endian 4 (empty_jal link)

abbrev pub is_shortened : Sizes → Relocation → Bool
is_shortened sizes r = is_call r.kind && nat_lt (sizes r.place) 8

abbrev pub cut : Sizes → Section → Relocation → Move
cut sizes s r = record {
  place = r.place;
  full = 8;
  text = short_call (sizes r.place) (link_register (stored s.contents) r.place);
}

-- what goes of a section, in the order of the places
abbrev pub cuts : Sizes → Section → List Move
cuts sizes s =
    if goes_to_text s
    then map (cut sizes s) (in_order (filter (is_shortened sizes) s.relocations)) else []

-- ---- sections

abbrev pub shortened_kind : Sizes → Relocation → Kind
shortened_kind sizes r =
    if is_shortened sizes r
    then (if sizes r.place == 2 then kinds.RvcJump else kinds.Jal)
    else r.kind

-- relocations, symbols and rows move with the bytes that are kept
abbrev pub shortened_relocation : Sizes → List Move → Relocation → Relocation
shortened_relocation sizes ms r = record {
  place = new_offset ms r.place;
  kind = shortened_kind sizes r;
  symbol = r.symbol;
  addend = r.addend;
}

abbrev pub shortened_contents : List Move → Contents → Contents
shortened_contents ms (Progbits bytes) = Progbits (kept 0 ms bytes)
shortened_contents ms (Note bytes) = Note (kept 0 ms bytes)
shortened_contents ms (Nobits size) = Nobits size

abbrev pub shortened_text : Sizes → Section → Section
shortened_text sizes s =
    let ms = cuts sizes s in
    record s {
      contents = shortened_contents ms s.contents;
      relocations = map (shortened_relocation sizes ms) s.relocations;
    }

-- all but text stays
abbrev pub shortened_section : Sizes → Section → Section
shortened_section sizes s = if goes_to_text s then shortened_text sizes s else s

abbrev pub shortened_sections : (ℕ → Sizes) → ℕ → List Section → List Section
shortened_sections sizes index [] = []
shortened_sections sizes index (s ∷ ss) =
    shortened_section (sizes index) s ∷ shortened_sections sizes (suc index) ss

-- ---- symbols and rows

abbrev pub cuts_at : Sizes → Option Section → List Move
cuts_at sizes None = []
cuts_at sizes (Some s) = cuts sizes s

abbrev pub cuts_in : (ℕ → Sizes) → Object → ℕ → List Move
cuts_in sizes o index = cuts_at (sizes index) (slice_get o.sections index)

abbrev pub shortened_definition : (ℕ → Sizes) → Object → Definition → Definition
shortened_definition sizes o (definitions.InSection section offset) =
    definitions.InSection section (new_offset (cuts_in sizes o section) offset)
shortened_definition sizes o definitions.Undefined = definitions.Undefined
shortened_definition sizes o (definitions.Absolute n) = definitions.Absolute n
shortened_definition sizes o (definitions.Skipped n) = definitions.Skipped n

abbrev pub shortened_symbol : (ℕ → Sizes) → Object → Symbol → Symbol
shortened_symbol sizes o s = record s { definition = shortened_definition sizes o s.definition }

abbrev pub shortened_row : (ℕ → Sizes) → Object → Row → Row
shortened_row sizes o r =
    let ms = cuts_in sizes o r.section in
    record r {
      offset = new_offset ms r.offset;
      bytes = new_offset ms (r.offset + r.bytes) - new_offset ms r.offset;
      instructions = r.instructions - lost ms r.offset r.bytes;
    }

-- ---- objects

abbrev pub shortened_object : (ℕ → Sizes) → Object → Object
shortened_object sizes o = record {
  sections = shortened_sections sizes 0 o.sections;
  symbols = map (shortened_symbol sizes o) o.symbols;
  rows = map (shortened_row sizes o) o.rows;
  rvc = o.rvc;
}

abbrev pub shortened_from : (ℕ → ℕ → Sizes) → ℕ → List Object → List Object
shortened_from sizes file [] = []
shortened_from sizes file (o ∷ os) =
    shortened_object (sizes file) o ∷ shortened_from sizes (suc file) os

abbrev pub shortened : List ℕ → List Object → List Object
shortened kept os = shortened_from (sizes_by os kept) 1 os

-- ---- relaxation

-- what relaxation, where it is on, leaves of objects: the calls are those of the greatest family in
-- which no call has a shorter form that reaches
abbrev pub Relaxes : (relax : Bool) → List Object → List Object → Type 0
Relaxes false os left = left ≡ os
Relaxes true os left =
    (kept : List ℕ) × IsGreatestClosed (sites_of os) kept × (left ≡ shortened kept os)

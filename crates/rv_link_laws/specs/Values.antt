-- The relocations of objects: their values, and the bytes of a section with all of them applied
-- (gABI, "Relocation"; RISC-V ELF psABI, "Relocations").

use Rattle.std.specs.Prelude.{◌≡◌, ℕ, ◌+◌, ℤ, pos, ◌==◌, Bool, true, false, ◌&&◌, IsTrue, List, [], ◌∷◌, ◌++◌, take, drop, Option, Some, None, is_some, option_map, option_and_then, unwrap_or, if◌then◌else◌}
use Rattle.std.specs.List.{find, slice_get}
use Rattle.rv_isa_laws.specs.Bytes.{zeros}
use Rattle.rv_isa.specs.declared.kind.Kind.{Kind}
use Rattle.rv_isa.specs.declared.kind.Kind.TheVariants as kinds
use Rattle.rv_isa.specs.Kinds.{width_of, is_low_part}
use Rattle.rv_reloc_laws.specs.Values.{value_of}
use Rattle.rv_reloc_laws.specs.Fields.{patched}
use Rattle.rv_reloc_laws.specs.Ranges.{Takes}
use Rattle.rv_object_laws.specs.Object.{Contents, Progbits, Note, Nobits, Relocation, Section, Object}
use Rattle.rv_link_laws.specs.Moves.{Move, moves, new_offset, kept}
use Rattle.rv_link_laws.specs.Inputs.{Starts, InputSection, start_of}
use Rattle.rv_link_laws.specs.Names.{Place, Outer, symbol_address, symbol_place, object_at}

-- S: the address of the symbol; without a symbol 0
abbrev pub target : Outer → (ℕ → ℕ) → Object → Option ℕ → Option ℕ
target outer starts o None = Some 0
target outer starts o (Some index) =
    option_and_then (symbol_address outer starts o) (slice_get o.symbols index)

-- P: the address of an old offset in a section that starts at an address
abbrev pub moved : ℕ → Section → ℕ → ℕ
moved start s offset = start + new_offset (moves start s) offset

-- the value by the relocation's own symbol, addend and place
abbrev pub own_value : Outer → (ℕ → ℕ) → Object → ℕ → Section → Relocation → ℤ
own_value outer starts o start s r =
    value_of r.kind (unwrap_or (target outer starts o r.symbol) 0) r.addend
    (moved start s r.place)

-- ---- low parts of distances

abbrev pub is_high : Kind → Bool
is_high kinds.PcrelHi20 = true
is_high _ = false

-- the first PCREL_HI20 of a section at an old offset, both as they have moved
abbrev pub high_at : List Move → ℕ → List Relocation → Option Relocation
high_at ms offset rs =
    find (λ r. is_high r.kind && (new_offset ms r.place == new_offset ms offset)) rs

-- the value of a PCREL_LO12 is that of the PCREL_HI20 at its symbol's place
abbrev pub value_in : Outer → Starts → ℕ → Object → ℕ → ℕ → Option Section → Option ℤ
value_in outer starts file o section offset None = None
value_in outer starts file o section offset (Some s) =
    let start = starts file section in
    option_map (own_value outer (starts file) o start s)
    (high_at (moves start s) offset s.relocations)

abbrev pub value_at : Outer → Starts → List Object → Option Place → Option ℤ
value_at outer starts os None = None
value_at outer starts os (Some p) =
    let o = object_at os p.file in
    value_in outer starts p.file o p.section p.offset (slice_get o.sections p.section)

abbrev pub paired : Outer → Starts → List Object → ℕ → Object → Option ℕ → Option ℤ
paired outer starts os file o None = None
paired outer starts os file o (Some index) =
    value_at outer starts os (option_and_then (symbol_place os file) (slice_get o.symbols index))

-- ---- values

-- the value of a relocation; none for a low part without its high part, or with an addend
abbrev pub value : Outer → Starts → List Object → InputSection → Relocation → Option ℤ
value outer starts os i r =
    if is_low_part r.kind
    then paired outer starts os i.file i.object r.symbol
    else Some (own_value outer (starts i.file) i.object (start_of starts i) i.section r)

-- the symbol has an address, the value is one, and the field takes it
pub record IsRelocated (outer : Outer) (starts : Starts) (os : List Object)
    (i : InputSection) (r : Relocation) : Type 0 where
  pub resolved : IsTrue (is_some (target outer (starts i.file) i.object r.symbol))
  pub found : IsTrue (is_some (value outer starts os i r))
  pub alone : is_low_part r.kind ≡ true → r.addend ≡ pos 0
  pub takes : Takes r.kind (unwrap_or (value outer starts os i r) (pos 0))

-- ---- bytes

-- bytes with the field at an offset written
abbrev pub patched_at : ℕ → Kind → ℤ → List ℕ → List ℕ
patched_at offset k v bytes =
    take offset bytes
    ++ (patched k v (take (width_of k) (drop offset bytes))
    ++ drop (width_of k) (drop offset bytes))

-- with those of all relocations written, in their order
abbrev pub applied : (ℕ → ℕ) → (Relocation → ℤ) → List Relocation → List ℕ → List ℕ
applied new worth [] bytes = bytes
applied new worth (r ∷ rs) bytes =
    applied new worth rs (patched_at (new r.place) r.kind (worth r) bytes)

-- the bytes that a section begins with: zeros where the file has none
abbrev pub initial_bytes : Contents → List ℕ
initial_bytes (Progbits bytes) = bytes
initial_bytes (Note bytes) = bytes
initial_bytes (Nobits size) = zeros size

-- the bytes of a section in the program: those that are kept, with its relocations applied
abbrev pub linked_bytes : Outer → Starts → List Object → InputSection → List ℕ
linked_bytes outer starts os i =
    let ms = moves (start_of starts i) i.section in
    applied (new_offset ms)
    (λ r. unwrap_or (value outer starts os i r) (pos 0)) i.section.relocations
    (kept 0 ms (initial_bytes i.section.contents))

-- What a linked program holds: the bytes of its regions are those of the statements that stand
-- there.

use Rattle.std.specs.Prelude.{◌≡◌, ℕ, ◌+◌, ◌-◌, ◌≤◌, ◌⊎◌, ⊤, Bool, ◌&&◌, IsTrue, Option, List, [], ◌∷◌, ◌++◌, flat_map, Some}
use Rattle.std.specs.List.{AllByRecursion}
use Rattle.rv_size_laws.specs.Alignment.{aligned}
use Rattle.rv_isa_laws.specs.Bytes.{zeros}
use Rattle.rv_isa.specs.Kinds.{width_of}
use Rattle.rv_parcel.specs.declared.form.Compressed.{Compressed}
use Rattle.rv_parcel.specs.Encoded.{IsLeastAs, IsEncodedAs}
use Rattle.rv_statement_laws.specs.Statement.{Statement, StatementKind, Directs}
use Rattle.rv_pseudo_laws.specs.Code.{Part, Closed, Open, Joined}
use Rattle.rv_pseudo_laws.specs.Filled.{are_closed}
use Rattle.rv_image_laws.specs.Linked.{Linked}
use Rattle.rv_image_laws.specs.Free.{free_until}
use Rattle.rv_unit_laws.specs.Sections.{goes_to_text, goes_to_rodata, goes_to_data}
use Rattle.rv_source_laws.specs.Program.{Mapped, Program, program}
use Rattle.rv_source_laws.specs.Lines.{parts, form_at, Line, AreLines}
use Rattle.rv_source_laws.specs.Fits.{Fits, InputSection, rows_of, input_sections, size}
use Rattle.rv_collect_laws.specs.Graph.{AreDrops}
use Rattle.rv_source_laws.specs.Collected.{graph_of}
use Rattle.rv_source_laws.specs.Resolves.{Resolves}
use Rattle.rv_source_laws.specs.Start.{spelled}
use Rattle.rv_source_laws.specs.Sized.{Sized}
use Rattle.rv_source_laws.specs.Shortened.{Shortened}

-- ---- instructions as they lie in memory

-- each line of a statement's parts has its bytes, those of the form that is named, if one is
abbrev pub AreSized : Option Compressed → Bool → List Part → List Line → Type 0
AreSized named compressed [] [] = ⊤
AreSized named compressed (Closed i ∷ ps) (l ∷ ls) =
    IsLeastAs named compressed l.instruction l.bytes × AreSized named compressed ps ls
AreSized named compressed (Open k i ∷ ps) (l ∷ ls) =
    (l.bytes ≡ width_of k) × AreSized named compressed ps ls
AreSized named compressed (Joined k i j ∷ ps) (l ∷ m ∷ ls) =
    (l.bytes ≡ 4) × (m.bytes ≡ 4) × AreSized named compressed ps ls
AreSized named compressed _ _ = ⊥

-- a padding is instructions of four bytes, and of two at its end where two are left
abbrev pub ArePadding : List Line → Type 0
ArePadding [] = ⊤
ArePadding (l ∷ []) = (l.bytes ≡ 2) ⊎ (l.bytes ≡ 4)
ArePadding (l ∷ ls) = (l.bytes ≡ 4) × ArePadding ls

-- of a statement: it is compressed where compressed code is on and none of its operands is open,
-- where a field is open, as its kind says, and wherever it names the form of a parcel
abbrev pub HasSizes : Option Compressed → Bool → List Part → StatementKind → List Line → Type 0
HasSizes named rvc ps (Directs directive) lines = ArePadding lines
HasSizes named rvc ps kind lines = AreSized named (rvc && are_closed ps) ps lines

-- the bytes of a line: the parcel that is named, if one is, else the word of its instruction,
-- or the parcel that is chosen for it
abbrev pub IsEncoded : Option Compressed → Line → List ℕ → Type 0
IsEncoded named l bytes = IsEncodedAs named l.instruction l.bytes bytes

abbrev pub AreEncoded : Option Compressed → List Line → List ℕ → Type 0
AreEncoded named [] bytes = bytes ≡ []
AreEncoded named (l ∷ ls) bytes =
    (front : List ℕ)
    × ((rest : List ℕ)
    × (bytes ≡ front ++ rest) × IsEncoded named l front × AreEncoded named ls rest)

-- a statement of code is written by its lines, each in its bytes
pub record IsWritten (p : Program) (s : Mapped) (bytes : List ℕ) : Type 0 where
  pub ps : List Part
  pub are_parts : parts p s ≡ Some ps
  pub lines : List Line
  pub are_lines : AreLines p s lines
  pub sizes : HasSizes (form_at p s) s.located.options.rvc ps s.located.kind lines
  pub encoded : AreEncoded (form_at p s) lines bytes

-- so is each statement of code
abbrev pub IsCodeWritten : Program → (Mapped → List ℕ) → Type 0
IsCodeWritten p code =
    AllByRecursion (λ s. IsTrue s.located.home.executable → IsWritten p s (code s)) p.mapped

-- ---- regions

-- the bytes of sections one after another from an end on: zeros up to where each starts, and then
-- those of its statements
abbrev pub contents : (Mapped → List ℕ) → ℕ → List InputSection → List ℕ
contents bytes stop [] = []
contents bytes stop (b ∷ bs) =
    let start = aligned b.alignment stop in
    zeros (start - stop)
    ++ (flat_map bytes b.mapped ++ contents bytes (start + size (rows_of b)) bs)

-- the linked program of sources, relaxed or not, with all sections or with those to which something
-- leads: its map fits them with the least sizes, calls as short as they can be where it is relaxed,
-- all of it in free memory, and each region has the bytes of its sections, bss zeros
pub record IsLinked (sources : List (List Statement)) (text_start : ℕ) (relax gc : Bool)
    (l : Linked) : Type 0 where
  pub collected : AreDrops gc (graph_of sources) l.map.drops
  pub fits : Fits sources l.map text_start
  pub sized : Sized sources l.map
  pub shortened : Shortened relax sources l.map
  pub resolves : Resolves sources l.map
  -- the bytes of each statement of code
  pub code : Mapped → List ℕ
  pub written : IsCodeWritten (program sources l.map) code
  pub below : l.map.bss.end ≤ free_until text_start
  pub text : l.text ≡
      contents code l.map.text.start
      (input_sections goes_to_text sources l.map)
  pub rodata : l.rodata ≡
      contents (spelled (program sources l.map)) l.map.rodata.start
      (input_sections goes_to_rodata sources l.map)
  pub «data» : l.data ≡
      contents (spelled (program sources l.map)) l.map.data.start
      (input_sections goes_to_data sources l.map)

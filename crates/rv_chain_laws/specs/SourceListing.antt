-- The listing of sources at a map: their statements of code in the order of the rows, each with the
-- base instructions that stand for it (RISC-V Assembly Programmer's Manual, "Pseudoinstructions").
-- It speaks of statements and of the map alone: no word, no parcel and no byte of a file is read.

use Rattle.std.specs.Prelude.{◌≡◌, ℕ, Bool, ◌&&◌, nat_lt, List, [], ◌∷◌, ◌++◌, filter, flat_map, codes, Some}
use Rattle.std.specs.declared.cmp.Ordering.{Ordering}
use Rattle.std.specs.List.Sorted.{IsSorted, IsStable}
use Rattle.rv_isa.specs.Operations.{format_of}
use Rattle.rv_map_laws.specs.Text.{hexadecimal}
use Rattle.rv_pseudo_laws.specs.Code.{Part}
use Rattle.rv_source_laws.specs.Program.{Mapped, Program}
use Rattle.rv_source_laws.specs.Lines.{Line, AreLines, parts, form_at}
use Rattle.rv_listing_laws.specs.Instruction.{text_of}
use Rattle.rv_listing_laws.specs.Listing.{statement}
use Rattle.rv_listing_laws.specs.Order.{compared}
use Rattle.rv_chain_laws.specs.Contents.{HasSizes}

-- ---- which statements, and in which order

-- a statement in a section of code, whose row has bytes
abbrev pub is_listed : Mapped → Bool
is_listed s = s.located.home.executable && nat_lt 0 s.row.bytes

-- by the address of their rows, then by file and ordinal
abbrev pub by_row : Mapped → Mapped → Ordering
by_row s t = compared s.row t.row

-- these statements in that order
pub record AreInOrder (statements ordered : List Mapped) : Type 0 where
  pub sorted : IsSorted by_row ordered
  pub stable : IsStable by_row statements ordered

-- ---- what is shown of each

-- an instruction at its address
abbrev pub line_text : Line → List ℕ
line_text l =
    hexadecimal l.address ++ codes ": " ++ text_of l.address (format_of l.instruction) ++ 10 ∷ []

-- `@ FILE LINE ORDINAL`, and the base instructions that stand for the statement, one after another
-- over its row, each of its least bytes where it may be compressed,
-- and of two where it names a parcel
pub record IsEntry (p : Program) (s : Mapped) (text : List ℕ) : Type 0 where
  pub ps : List Part
  pub are_parts : parts p s ≡ Some ps
  pub lines : List Line
  pub are_lines : AreLines p s lines
  pub sizes : HasSizes (form_at p s) s.located.options.rvc ps s.located.kind lines
  pub shows : text ≡ statement s.row ++ flat_map line_text lines

-- the entries of statements, one after another, and nothing else
abbrev pub AreEntries : Program → List Mapped → List ℕ → Type 0
AreEntries p [] text = text ≡ []
AreEntries p (s ∷ ss) text =
    (first : List ℕ)
    × ((rest : List ℕ) × (text ≡ first ++ rest) × IsEntry p s first × AreEntries p ss rest)

-- ---- the listing

pub record IsSourceListing (p : Program) (text : List ℕ) : Type 0 where
  pub statements : List Mapped
  pub order : AreInOrder (filter is_listed p.mapped) statements
  pub entries : AreEntries p statements text

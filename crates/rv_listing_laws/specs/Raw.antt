-- The raw listing of an executable: its instructions alone, each as a source writes it. A source of
-- this text, built at the same address, has the same bytes of code and the same entry.

use Rattle.std.specs.Prelude.{◌≡◌, ℕ, ◌+◌, ◌%◌, ◌<◌, Bool, true, ◌||◌, List, [], ◌∷◌, ◌++◌, length, map, filter, flat_map, codes}
use Rattle.std.specs.List.{AllByRecursion}
use Rattle.rv_isa.specs.declared.instruction.Format.{Format}
use Rattle.rv_isa.specs.declared.instruction.Format.TheVariants.{Fence}
use Rattle.rv_isa.specs.Operations.{format_of}
use Rattle.rv_isa.specs.Ranges.{IsValid}
use Rattle.rv_isa_laws.specs.Bytes.{little_endian}
use Rattle.rv_isa_laws.specs.Memory.{Execute}
use Rattle.rv_isa_laws.specs.Platform.{stack_start}
use Rattle.rv_isa_laws.specs.Word.{form, word}
use Rattle.rv_parcel.specs.Parcel.{parcel, IsLine, IsNoHint}
use Rattle.rv_image_laws.specs.Segment.{Segment}
use Rattle.rv_image_laws.specs.Image.{Image}
use Rattle.rv_image_laws.specs.Memory.{gives_right}
use Rattle.rv_listing_laws.specs.declared.code.Code.{Code}
use Rattle.rv_listing_laws.specs.declared.code.Code.TheVariants.{Word, Parcel}
use Rattle.rv_listing_laws.specs.Instruction.{is_tso, is_between, distant, text_with}
use Rattle.rv_listing_laws.specs.Parcels.{parcel_text}

-- ---- instructions as they lie in memory

-- the four bytes of a word, or the two of a parcel
abbrev pub raw_bytes : Code → List ℕ
raw_bytes (Word i) = little_endian 4 (word (form i))
raw_bytes (Parcel c) = little_endian 2 (parcel c)

-- a source can write every word but some fences
abbrev pub has_source : Format → Bool
has_source (Fence x) = is_tso x || is_between x
has_source format = true

-- the operands are in range, and a source can write it: as a parcel, where it is no HINT
abbrev pub IsSourced : Code → Type 0
IsSourced (Word i) = IsValid i × (has_source (format_of i) ≡ true)
IsSourced (Parcel c) = IsLine c × IsNoHint c

-- how a source writes it, wherever it stands
abbrev pub code_text : Code → List ℕ
code_text (Word i) = text_with distant (format_of i)
code_text (Parcel c) = parcel_text c

-- ---- the text

-- each line with its end
abbrev pub lines_text : List (List ℕ) → List ℕ
lines_text lines = flat_map (λ line. line ++ 10 ∷ []) lines

-- of the instructions before the entry, and of those from there on
abbrev pub raw_lines : (before after : List Code) → List (List ℕ)
raw_lines before after =
    codes ".option norvc" ∷ codes ".option norelax" ∷ codes ".globl _start"
    ∷ (map code_text before ++ codes "_start:" ∷ map code_text after)

-- ---- the listing of an image

abbrev pub is_executable : Segment → Bool
is_executable s = gives_right s.flags Execute

-- the image has one executable segment. Its bytes are instructions, one after another, each of
-- which a source can write, and one of them is at the entry
pub record IsRawListing (image : Image) (text : List ℕ) : Type 0 where
  pub segment : Segment
  pub alone : filter is_executable image.segments ≡ segment ∷ []
  -- where a link may put the code
  pub aligned : segment.address % 4096 ≡ 0
  pub below : segment.address < stack_start
  pub before : List Code
  pub after : List Code
  pub sourced : AllByRecursion IsSourced (before ++ after)
  pub bytes : segment.bytes ≡ flat_map raw_bytes (before ++ after)
  pub some : 0 < length after
  pub entry : image.entry ≡ segment.address + length (flat_map raw_bytes before)
  pub shows : text ≡ lines_text (raw_lines before after)

-- What the regions hold of one worked source at its map.

use Rattle.std.specs.Prelude.{ℕ, List, [], ◌∷◌, flat_map, Option, Some, None}
use Rattle.rv_isa.specs.declared.instruction.Inst.{Inst}
use Rattle.rv_isa_laws.specs.Bytes.{little_endian}
use Rattle.rv_isa_laws.specs.Word.{form, word}
use Rattle.rv_statement_laws.specs.Statement.{Statement}
use Rattle.rv_unit_laws.specs.Sections.{goes_to_text, goes_to_rodata, goes_to_data}
use Rattle.rv_map_laws.specs.Map.{Map}
use Rattle.rv_source_laws.specs.Program.{Mapped, program}
use Rattle.rv_source_laws.specs.Start.{spelled}
use Rattle.rv_source_laws.specs.Fits.{InputSection, input_sections}
use Rattle.rv_source_laws.specs.Lines.{expansion}
use Rattle.rv_chain_laws.specs.Contents.{contents}

abbrev pub text_sections : List Statement → Map → List InputSection
text_sections source m = input_sections goes_to_text (source ∷ []) m

-- instructions as they lie in memory, each a word
abbrev pub words : Option (List Inst) → List ℕ
words None = []
words (Some instructions) = flat_map (λ i. little_endian 4 (word (form i))) instructions

-- the words of a statement
abbrev pub code_words : List Statement → Map → Mapped → List ℕ
code_words source m s = words (expansion (program (source ∷ []) m) s)

-- the bytes of the text, of the constants and of the variables
abbrev pub text_bytes : List Statement → Map → List ℕ
text_bytes source m = contents (code_words source m) m.text.start (text_sections source m)

abbrev pub rodata_bytes : List Statement → Map → List ℕ
rodata_bytes source m =
    contents (spelled (program (source ∷ []) m)) m.rodata.start
    (input_sections goes_to_rodata (source ∷ []) m)

abbrev pub example_data : List Statement → Map → List ℕ
example_data source m =
    contents (spelled (program (source ∷ []) m)) m.data.start
    (input_sections goes_to_data (source ∷ []) m)

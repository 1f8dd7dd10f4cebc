-- Two files, worked by hand: references across them, a local name that both have, a section of
-- notes, and an alignment in code, of whose six bytes two are dropped.

use Rattle.std.specs.Prelude.{ℕ, zero, suc, pos, true, false, List, [], ◌∷◌, Some, None, codes, bytes_eq, if◌then◌else◌}
use Rattle.rv_isa.specs.declared.kind.Kind.{Kind}
use Rattle.rv_isa.specs.declared.kind.Kind.TheVariants.{Align, Abs32, Abs64, Add32, Sub32}
use Rattle.rv_expression_laws.specs.declared.operator.BinaryOperator.TheVariants.{Add, Subtract}
use Rattle.rv_expression_laws.specs.Expression.{Primary, Literal, Symbol as Named, Here, Leaf, Binary}
use Rattle.rv_statement_laws.specs.declared.directive.Choice.TheVariants.{Norvc}
use Rattle.rv_statement_laws.specs.declared.directive.Standard.TheVariants.{Text, Data}
use Rattle.rv_statement_laws.specs.declared.mnemonic.Mnemonic.TheVariants.{Ecall}
use Rattle.rv_statement_laws.specs.declared.directive.Binding.TheVariants as bindings
use Rattle.rv_statement_laws.specs.Statement.{StatementKind, Label, Instruction, Directs, Statement, Expression, Enters, Opens, Binds, Sets, Chooses, Values, As_bytes, Aligns, Emits}
use Rattle.rv_unit_laws.specs.Tables.{at_start}
use Rattle.rv_source_laws.specs.Located.{Located, located_from}
use Rattle.rv_map_laws.specs.Map.{Map, Global as Shown}
use Rattle.rv_map_laws.specs.declared.map.Row.{Row as MapRow}
use Rattle.rv_map_laws.specs.declared.map.Region.{Region}
use Rattle.rv_image_laws.specs.Linked.{Linked}
use Rattle.rv_object_laws.specs.declared.row.Row.{Row}
use Rattle.rv_object_laws.specs.declared.symbol.Binding.{Binding}
use Rattle.rv_object_laws.specs.declared.symbol.Binding.TheVariants.{Local, Global}
use Rattle.rv_object_laws.specs.declared.symbol.Definition.{Definition}
use Rattle.rv_object_laws.specs.declared.symbol.Definition.TheVariants.{Undefined, Absolute, InSection}
use Rattle.rv_object_laws.specs.Object.{Progbits, Note, Relocation, Section, Symbol, Object}
use Rattle.rv_assemble_laws.specs.LaidStatements.{LaidStatement}

abbrev on_line : ℕ → StatementKind → Statement
on_line line kind = record { line = line; kind = kind }

abbrev name : List ℕ → Expression
name n = Leaf (Named n)

-- ---- the sources

--     .option norvc
--     .globl _start
--     _start: ecall
--     .data
--     v: .word f
--     .dword v + 4
--     .word f - g
--     .dword .
abbrev pub first_source : List Statement
first_source =
    on_line 1 (Directs (Chooses Norvc))
    ∷ on_line 2 (Directs (Binds bindings.Global (codes "_start" ∷ [])))
    ∷ on_line 3 (Label (codes "_start"))
    ∷ on_line 3 (Instruction Ecall [])
    ∷ on_line 4 (Directs (Enters Data))
    ∷ on_line 5 (Label (codes "v"))
    ∷ on_line 5 (Directs (Emits (Values 4 (name (codes "f") ∷ []))))
    ∷ on_line 6 (Directs (Emits (Values 8 (Binary Add (name (codes "v")) (Leaf (Literal 4)) ∷ []))))
    ∷ on_line 7
    (Directs (Emits (Values 4 (Binary Subtract (name (codes "f")) (name (codes "g")) ∷ []))))
    ∷ on_line 8 (Directs (Emits (Values 8 (Leaf Here ∷ []))))
    ∷ []

--     .globl f, g, c
--     .data
--     v: .byte 7
--     f: .byte 8
--     g: .word v
--     .set c, 5
--     .section .note.tool, "", @note
--     .byte 9
--     .text
--     .option norvc
--     ecall
--     .balign 8
abbrev pub second_source : List Statement
second_source =
    on_line 1 (Directs (Binds bindings.Global (codes "f" ∷ codes "g" ∷ codes "c" ∷ [])))
    ∷ on_line 2 (Directs (Enters Data))
    ∷ on_line 3 (Label (codes "v"))
    ∷ on_line 3 (Directs (Emits (Values 1 (Leaf (Literal 7) ∷ []))))
    ∷ on_line 4 (Label (codes "f"))
    ∷ on_line 4 (Directs (Emits (Values 1 (Leaf (Literal 8) ∷ []))))
    ∷ on_line 5 (Label (codes "g"))
    ∷ on_line 5 (Directs (Emits (Values 4 (name (codes "v") ∷ []))))
    ∷ on_line 6 (Directs (Sets (codes "c") (Leaf (Literal 5))))
    ∷ on_line 7 (Directs (Opens (codes ".note.tool") (Some []) (Some (codes "note"))))
    ∷ on_line 8 (Directs (Emits (Values 1 (Leaf (Literal 9) ∷ []))))
    ∷ on_line 9 (Directs (Enters Text))
    ∷ on_line 10 (Directs (Chooses Norvc))
    ∷ on_line 11 (Instruction Ecall [])
    ∷ on_line 12 (Directs (Aligns As_bytes (Leaf (Literal 8))))
    ∷ []

-- ---- the objects

abbrev text : List ℕ → ℕ → List Relocation → Section
text bytes alignment relocations = record {
  name = codes ".text";
  loaded = true;
  executable = true;
  writable = false;
  contents = Progbits bytes;
  alignment = alignment;
  relocations = relocations;
}

abbrev variables : List ℕ → List Relocation → Section
variables bytes relocations = record {
  name = codes ".data";
  loaded = true;
  executable = false;
  writable = true;
  contents = Progbits bytes;
  alignment = 1;
  relocations = relocations;
}

-- a section of notes has no place in memory
abbrev notes : List ℕ → Section
notes bytes = record {
  name = codes ".note.tool";
  loaded = false;
  executable = false;
  writable = false;
  contents = Note bytes;
  alignment = 1;
  relocations = [];
}

abbrev relocation : ℕ → Kind → ℕ → ℕ → Relocation
relocation place kind symbol addend =
    record { place = place; kind = kind; symbol = Some symbol; addend = pos addend }

abbrev padding : ℕ → ℕ → Relocation
padding place bytes = record { place = place; kind = Align; symbol = None; addend = pos bytes }

abbrev symbol : List ℕ → Binding → Definition → Symbol
symbol n binding definition = record { name = n; binding = binding; definition = definition }

abbrev row : ℕ → ℕ → ℕ → ℕ → ℕ → ℕ → Row
row line ordinal section offset bytes instructions = record {
  line = line;
  ordinal = ordinal;
  section = section;
  offset = offset;
  bytes = bytes;
  instructions = instructions;
}

abbrev pub first_object : Object
first_object = record {
  sections = text (0x73 ∷ 0 ∷ 0 ∷ 0 ∷ []) 2 []
      ∷ variables
      (0 ∷ 0 ∷ 0 ∷ 0 ∷ 0 ∷ 0 ∷ 0 ∷ 0 ∷ 0 ∷ 0 ∷ 0 ∷ 0 ∷ 0 ∷ 0 ∷ 0 ∷ 0 ∷ 0 ∷ 0 ∷ 0 ∷ 0 ∷ 0 ∷ 0 ∷
      0 ∷ 0 ∷ [])
      (relocation 0 Abs32 3 0 ∷ relocation 4 Abs64 0 4 ∷ relocation 12 Add32 3 0 ∷
      relocation 12 Sub32 4 0
      ∷ relocation 16 Abs64 1 0 ∷ [])
      ∷ [];
  symbols = symbol (codes "v") Local (InSection 1 0)
      ∷ symbol [] Local (InSection 1 16)
      ∷ symbol (codes "_start") Global (InSection 0 0)
      ∷ symbol (codes "f") Global Undefined
      ∷ symbol (codes "g") Global Undefined
      ∷ [];
  rows = row 3 3 0 0 0 0 ∷ row 3 4 0 0 4 1 ∷ row 5 6 1 0 0 0 ∷ row 5 7 1 0 4 0 ∷ row 6 8 1 4 8 0 ∷
      row 7 9 1 12 4 0
      ∷ row 8 10 1 16 8 0 ∷ [];
  rvc = false;
}

abbrev pub second_object : Object
second_object = record {
  sections = text (0x73 ∷ 0 ∷ 0 ∷ 0 ∷ 0x13 ∷ 0 ∷ 0 ∷ 0 ∷ 1 ∷ 0 ∷ []) 8 (padding 4 6 ∷ [])
      ∷ variables (7 ∷ 8 ∷ 0 ∷ 0 ∷ 0 ∷ 0 ∷ []) (relocation 2 Abs32 0 0 ∷ [])
      ∷ notes (9 ∷ [])
      ∷ [];
  symbols = symbol (codes "v") Local (InSection 1 0)
      ∷ symbol (codes "f") Global (InSection 1 1)
      ∷ symbol (codes "g") Global (InSection 1 2)
      ∷ symbol (codes "c") Global (Absolute 5)
      ∷ [];
  rows = row 3 3 1 0 0 0 ∷ row 3 4 1 0 1 0 ∷ row 4 5 1 1 0 0 ∷ row 4 6 1 1 1 0 ∷ row 5 7 1 2 0 0 ∷
      row 5 8 1 2 4 0 ∷ row 11 14 0 0 4 1 ∷ row 12 15 0 4 6 2 ∷ [];
  rvc = false;
}

-- ---- the program

abbrev region : ℕ → ℕ → Region
region start end = record { start = start; end = end }

abbrev global : List ℕ → ℕ → Shown
global n address = record { name = n; address = address }

abbrev map_row : ℕ → ℕ → ℕ → ℕ → ℕ → ℕ → MapRow
map_row file line ordinal address bytes instructions = record {
  file = file;
  line = line;
  ordinal = ordinal;
  address = address;
  bytes = bytes;
  instructions = instructions;
}

abbrev pub two_files_map : Map
two_files_map = record {
  text = region 0x10000 0x10010;
  rodata = region 0x11000 0x11000;
  «data» = region 0x11000 0x1101e;
  bss = region 0x1101e 0x1101e;
  entry = 0x10000;
  gaps = region 0x10004 0x10008 ∷ [];
  globals = global (codes "_start") 0x10000 ∷ global (codes "f") 0x11019 ∷
      global (codes "g") 0x1101a ∷ global (codes "c") 5
      ∷ global (codes "_etext") 0x10010 ∷ global (codes "__bss_start") 0x1101e ∷
      global (codes "_edata") 0x1101e
      ∷ global (codes "_end") 0x1101e ∷ global (codes "__global_pointer$") 0x11800 ∷ [];
  drops = [];
  rows = map_row 1 3 3 0x10000 0 0 ∷ map_row 1 3 4 0x10000 4 1 ∷ map_row 1 5 6 0x11000 0 0 ∷
      map_row 1 5 7 0x11000 4 0
      ∷ map_row 1 6 8 0x11004 8 0 ∷ map_row 1 7 9 0x1100c 4 0 ∷ map_row 1 8 10 0x11010 8 0
      ∷ map_row 2 3 3 0x11018 0 0 ∷ map_row 2 3 4 0x11018 1 0 ∷ map_row 2 4 5 0x11019 0 0 ∷
      map_row 2 4 6 0x11019 1 0
      ∷ map_row 2 5 7 0x1101a 0 0 ∷ map_row 2 5 8 0x1101a 4 0
      ∷ map_row 2 11 14 0x10008 4 1 ∷ map_row 2 12 15 0x1000c 4 1 ∷ [];
}

-- `.word f` is 11019h, `.dword v + 4` 11004h, `.word f - g` -1, `.dword .` 11010h, the other file's
-- `.word v` 11018h
abbrev pub two_files : Linked
two_files = record {
  text = 0x73 ∷ 0 ∷ 0 ∷ 0 ∷ 0 ∷ 0 ∷ 0 ∷ 0 ∷ 0x73 ∷ 0 ∷ 0 ∷ 0 ∷ 0x13 ∷ 0 ∷ 0 ∷ 0 ∷ [];
  rodata = [];
  «data» = 0x19 ∷ 0x10 ∷ 1 ∷ 0 ∷ 0x04 ∷ 0x10 ∷ 1 ∷ 0 ∷ 0 ∷ 0 ∷ 0 ∷ 0 ∷ 0xff ∷ 0xff ∷ 0xff ∷ 0xff
      ∷ 0x10 ∷ 0x10 ∷ 1 ∷ 0 ∷ 0 ∷ 0 ∷ 0 ∷ 0 ∷ 7 ∷ 8 ∷ 0x18 ∷ 0x10 ∷ 1 ∷ 0 ∷ [];
  map = two_files_map;
  rvc = false;
}

-- ---- how the sources are these objects

-- the offset, the bytes and the instructions of a statement, and its code
pub record Size : Type 0 where
  pub offset : ℕ
  pub bytes : ℕ
  pub instructions : ℕ
  pub coded : List (List ℕ)

abbrev pub size_of_code : ℕ → ℕ → ℕ → Size
size_of_code offset bytes instructions =
    record { offset = offset; bytes = bytes; instructions = instructions; coded = [] }

-- of one instruction, a word at the start of its section
abbrev pub one_word : List ℕ → Size
one_word bytes = record { offset = 0; bytes = 4; instructions = 1; coded = bytes ∷ [] }

abbrev pub laid_from : List Located → List Size → List LaidStatement
laid_from [] sizes = []
laid_from (l ∷ ls) [] = []
laid_from (l ∷ ls) (z ∷ zs) =
    record {
      located = l;
      offset = z.offset;
      bytes = z.bytes;
      instructions = z.instructions;
      coded = z.coded;
    }
    ∷ laid_from ls zs

abbrev pub first_laid : List LaidStatement
first_laid =
    laid_from (located_from 1 1 (at_start first_source) first_source)
    (size_of_code 0 0 0 ∷ size_of_code 0 0 0 ∷ size_of_code 0 0 0 ∷
    one_word (0x73 ∷ 0 ∷ 0 ∷ 0 ∷ []) ∷ size_of_code 0 0 0 ∷
    size_of_code 0 0 0 ∷ size_of_code 0 4 0 ∷ size_of_code 4 8 0 ∷ size_of_code 12 4 0
    ∷ size_of_code 16 8 0 ∷ [])

abbrev pub second_laid : List LaidStatement
second_laid =
    laid_from (located_from 1 1 (at_start second_source) second_source)
    (size_of_code 0 0 0 ∷ size_of_code 0 0 0 ∷ size_of_code 0 0 0 ∷ size_of_code 0 1 0 ∷
    size_of_code 1 0 0 ∷ size_of_code 1 1 0 ∷ size_of_code 2 0 0 ∷
    size_of_code 2 4 0 ∷ size_of_code 6 0 0 ∷ size_of_code 0 0 0 ∷ size_of_code 0 1 0 ∷
    size_of_code 0 0 0 ∷ size_of_code 0 0 0 ∷
    one_word (0x73 ∷ 0 ∷ 0 ∷ 0 ∷ []) ∷ size_of_code 4 6 2 ∷ [])

abbrev pub first_number : ℕ → Primary → ℕ
first_number ordinal (Named n) =
    if bytes_eq n (codes "v") then 0 else
    if bytes_eq n (codes "f") then 3 else 4
first_number ordinal _ = 1

abbrev pub second_number : ℕ → Primary → ℕ
second_number ordinal q = 0

-- text at the text's start, the other file's at a multiple of 8, data at 11000h,
-- each file's sections after those of the file before
abbrev pub starts : ℕ → ℕ → ℕ
starts zero index = 0
starts (suc zero) zero = 0x10000
starts (suc zero) (suc index) = 0x11000
starts (suc (suc file)) zero = 0x10008
starts (suc (suc file)) (suc index) = 0x11018

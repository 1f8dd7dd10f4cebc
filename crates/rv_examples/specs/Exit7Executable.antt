-- The executable of the worked program, byte by byte (System V gABI, "ELF Header" and "Program
-- Header").

use Rattle.std.specs.Prelude.{ℕ, List, [], ◌∷◌, ◌++◌, false, replicate}
use Rattle.rv_image_laws.specs.Image.{Image}
use Rattle.rv_image_laws.specs.Linked.{Linked}
use Rattle.rv_examples.specs.Exit7.{exit7_map}

-- addi a0, zero, 7; addi a7, zero, 93; ecall
abbrev pub exit7_code : List ℕ
exit7_code = 0x13 ∷ 0x05 ∷ 0x70 ∷ 0x00 ∷ 0x93 ∷ 0x08 ∷ 0xd0 ∷ 0x05 ∷ 0x73 ∷ 0x00 ∷ 0x00 ∷ 0x00 ∷ []

-- 7Fh ELF, 64 bits, little-endian, version 1; type 2, machine 243, version 1
abbrev pub exit7_kind : List ℕ
exit7_kind = 0x7f ∷ 0x45 ∷ 0x4c ∷ 0x46 ∷ 2 ∷ 1 ∷ 1 ∷ 0 ∷ 0 ∷ 0 ∷ 0 ∷ 0 ∷ 0 ∷ 0 ∷ 0 ∷ 0
    ∷ 2 ∷ 0 ∷ 243 ∷ 0 ∷ 1 ∷ 0 ∷ 0 ∷ 0 ∷ []

-- the entry 10000h; the program headers at 64; no section headers; no flags
abbrev pub exit7_places : List ℕ
exit7_places = 0 ∷ 0 ∷ 1 ∷ 0 ∷ 0 ∷ 0 ∷ 0 ∷ 0
    ∷ 64 ∷ 0 ∷ 0 ∷ 0 ∷ 0 ∷ 0 ∷ 0 ∷ 0
    ∷ 0 ∷ 0 ∷ 0 ∷ 0 ∷ 0 ∷ 0 ∷ 0 ∷ 0
    ∷ 0 ∷ 0 ∷ 0 ∷ 0 ∷ []

-- a header of 64 bytes; one program header of 56; no section headers
abbrev pub exit7_sizes : List ℕ
exit7_sizes = 64 ∷ 0 ∷ 56 ∷ 0 ∷ 1 ∷ 0 ∷ 0 ∷ 0 ∷ 0 ∷ 0 ∷ 0 ∷ 0 ∷ []

-- type 1, to be executed; at 1000h of the file and at 10000h twice; 12 bytes in the file and in
-- memory; alignment 1000h
abbrev pub exit7_segment : List ℕ
exit7_segment = 1 ∷ 0 ∷ 0 ∷ 0 ∷ 1 ∷ 0 ∷ 0 ∷ 0
    ∷ 0 ∷ 0x10 ∷ 0 ∷ 0 ∷ 0 ∷ 0 ∷ 0 ∷ 0
    ∷ 0 ∷ 0 ∷ 1 ∷ 0 ∷ 0 ∷ 0 ∷ 0 ∷ 0
    ∷ 0 ∷ 0 ∷ 1 ∷ 0 ∷ 0 ∷ 0 ∷ 0 ∷ 0
    ∷ 12 ∷ 0 ∷ 0 ∷ 0 ∷ 0 ∷ 0 ∷ 0 ∷ 0
    ∷ 12 ∷ 0 ∷ 0 ∷ 0 ∷ 0 ∷ 0 ∷ 0 ∷ 0
    ∷ 0 ∷ 0x10 ∷ 0 ∷ 0 ∷ 0 ∷ 0 ∷ 0 ∷ 0 ∷ []

-- the file: zeros between the headers, 120 bytes, and the code at 1000h
abbrev pub exit7_file : List ℕ
exit7_file =
    exit7_kind ++ exit7_places ++ exit7_sizes ++ exit7_segment ++ replicate 3976 0 ++ exit7_code

-- the image: one segment, which may be executed and nothing else
abbrev pub exit7_image : Image
exit7_image = record {
  entry = 0x10000;
  segments = record { address = 0x10000; bytes = exit7_code; flags = 1 } ∷ [];
}

-- what the linker makes
abbrev pub exit7_linked : Linked
exit7_linked = record { text = exit7_code; rodata = []; «data» = []; map = exit7_map; rvc = false }

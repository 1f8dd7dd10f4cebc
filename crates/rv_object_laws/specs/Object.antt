-- An object as a plain value (System V gABI, "Sections", "Symbol Table", "Relocation").

use Rattle.std.specs.Prelude.{ℕ, ℤ, Bool, List, [], length, Option}
use Rattle.rv_isa.specs.declared.kind.Kind.{Kind}
use Rattle.rv_object_laws.specs.declared.symbol.Binding.{Binding}
use Rattle.rv_object_laws.specs.declared.symbol.Definition.{Definition}
use Rattle.rv_object_laws.specs.declared.row.Row.{Row}

-- what a section has in the file: SHT_PROGBITS, SHT_NOTE, SHT_NOBITS
pub data Contents : Type 0 where
  Progbits : (bytes : List ℕ) → Contents
  Note : (bytes : List ℕ) → Contents
  -- no bytes: the size of the zeros in memory
  Nobits : (size : ℕ) → Contents

-- a field that the linker fills in: its place, an offset in its section; what it takes; the index
-- of the symbol; and what is added
pub record Relocation : Type 0 where
  pub place : ℕ
  pub kind : Kind
  pub symbol : Option ℕ
  pub addend : ℤ

-- a section, with SHF_ALLOC, SHF_EXECINSTR and SHF_WRITE
pub record Section : Type 0 where
  pub name : List ℕ
  pub loaded : Bool
  pub executable : Bool
  pub writable : Bool
  pub contents : Contents
  pub alignment : ℕ
  pub relocations : List Relocation

-- a name, or a place without one
pub record Symbol : Type 0 where
  pub name : List ℕ
  pub binding : Binding
  pub definition : Definition

-- sections and symbols by their indices, from 0; a row for each statement that has a place; and
-- EF_RISCV_RVC
pub record Object : Type 0 where
  pub sections : List Section
  pub symbols : List Symbol
  pub rows : List Row
  pub rvc : Bool

-- the bytes that a section has in the file, and its size in memory
abbrev pub stored : Contents → List ℕ
stored (Progbits bytes) = bytes
stored (Note bytes) = bytes
stored (Nobits size) = []

abbrev pub size_of : Contents → ℕ
size_of (Progbits bytes) = length bytes
size_of (Note bytes) = length bytes
size_of (Nobits size) = size

-- What an object of the code keeps: what a reader of files tests, and the widths of its numbers.

use Rattle.std.specs.Prelude.{◌<◌, ◌^◌, IsTrue}
use Rattle.std.specs.List.{AllByRecursion}
use Rattle.std.specs.Int.{w64}
use Rattle.std.specs.Int.RustNames.{FitsSigned}
use Rattle.rv_object_laws.specs.declared.row.Row.{Row}
use Rattle.rv_object_laws.specs.Object.{Relocation, Section, Symbol, Object, size_of}
use Rattle.rv_object_laws.specs.Valid.{is_section_alignment, is_string, keeps_name, is_even, is_loaded_alone, fit_inside, are_paddings, is_shown, are_indexed, are_defined, are_rows}
use Rattle.rv_object_file_laws.specs.Written.{definition_value}

pub record IsRelocation (r : Relocation) : Type 0 where
  pub offset : r.place < 2 ^ 64
  pub amount : FitsSigned w64 r.addend

pub record IsSection (s : Section) : Type 0 where
  pub named : IsTrue (is_string s.name)
  pub kept : IsTrue (keeps_name s.contents s.name)
  pub aligned : IsTrue (is_section_alignment s.alignment)
  pub even : IsTrue (is_even s.executable s.contents)
  pub alone : IsTrue (is_loaded_alone s.loaded s.relocations)
  pub inside : IsTrue (fit_inside s.contents s.relocations)
  pub paddings : IsTrue (are_paddings s.executable s.contents s.relocations)
  pub size : size_of s.contents < 2 ^ 64
  pub fields : AllByRecursion IsRelocation s.relocations

pub record IsSymbol (s : Symbol) : Type 0 where
  pub shown : IsTrue (is_shown s.binding s.name)
  pub value : definition_value s.definition < 2 ^ 64

pub record IsRow (r : Row) : Type 0 where
  pub in_line : r.line < 2 ^ 32
  pub number : r.ordinal < 2 ^ 32
  pub place : r.offset < 2 ^ 64
  pub size : r.bytes < 2 ^ 32
  pub count : r.instructions < 2 ^ 32

pub record IsObject (o : Object) : Type 0 where
  pub all_sections : AllByRecursion IsSection o.sections
  pub all_symbols : AllByRecursion IsSymbol o.symbols
  pub all_rows : AllByRecursion IsRow o.rows
  pub indexed : IsTrue (are_indexed o.symbols o.sections)
  pub defined : IsTrue (are_defined o.sections o.symbols)
  pub lie : IsTrue (are_rows o.sections o.rows)

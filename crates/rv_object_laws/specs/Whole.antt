-- What every object keeps, said of a plain value: what a reader of files tests of it (`Valid`).

use Rattle.std.specs.Prelude.{IsTrue}
use Rattle.std.specs.List.{AllByRecursion}
use Rattle.rv_object_laws.specs.Object.{Section, Object}
use Rattle.rv_object_laws.specs.Valid.{is_section_alignment, is_string, keeps_name, is_even, is_loaded_alone, fit_inside, are_paddings, are_indexed, are_defined, are_rows}

pub record IsWholeSection (s : Section) : Type 0 where
  pub named : IsTrue (is_string s.name)
  pub kept : IsTrue (keeps_name s.contents s.name)
  pub aligned : IsTrue (is_section_alignment s.alignment)
  pub even : IsTrue (is_even s.executable s.contents)
  pub alone : IsTrue (is_loaded_alone s.loaded s.relocations)
  pub inside : IsTrue (fit_inside s.contents s.relocations)
  pub paddings : IsTrue (are_paddings s.executable s.contents s.relocations)

pub record IsWhole (o : Object) : Type 0 where
  pub sections : AllByRecursion IsWholeSection o.sections
  pub indexed : IsTrue (are_indexed o.symbols o.sections)
  pub defined : IsTrue (are_defined o.sections o.symbols)
  pub lie : IsTrue (are_rows o.sections o.rows)

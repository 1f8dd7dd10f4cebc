-- What is kept of a source beside its statements.

use Rattle.std.specs.Prelude.{◌≡◌, List, map}
use Rattle.rv_statement_laws.specs.Statement.{Statement}
use Rattle.rv_unit_laws.specs.Tables as laws
use Rattle.rv_unit.specs.declared.section_offset.SectionOffset.{SectionOffset}
use Rattle.rv_unit.specs.declared.options.Options.{Options}
use Rattle.rv_unit.specs.declared.tables.Tables.{Tables}
use Rattle.rv_unit.specs.Options.{options_of}
use Rattle.rv_unit.specs.Sections.{offset_of}
use Rattle.rv_unit.specs.Tables.{tables_of, IsIndexed}

-- the offsets and the options of these statements, and their tables
pub record AreFilled (ps : List SectionOffset) (os : List Options) (t : Tables)
    (ss : List Statement) : Type 0 where
  pub stand : map offset_of ps ≡ laws.places ss
  pub options : map options_of os ≡ laws.all_options ss
  pub tables : tables_of t ≡ laws.tables ss
  pub indexed : IsIndexed t

-- The fields of a source that stay open, each at its place in its section (gABI, "Relocation").

use Rattle.std.specs.Prelude.{ℕ, ℤ, ◌+◌, List, [], ◌∷◌, ◌++◌, flat_map, map, length, Option, if◌then◌else◌}
use Rattle.rv_isa.specs.declared.kind.Kind.{Kind}
use Rattle.rv_expression_laws.specs.Expression.{Primary}
use Rattle.rv_unit_laws.specs.Tables.{Tables}
use Rattle.rv_assemble_laws.specs.Templates.{Open, template_fields}
use Rattle.rv_assemble_laws.specs.LaidStatements.{LaidStatement, LaidPart, part_bytes, parts_of}

-- an open field: the index of its section and its offset there, what it takes, the symbol, if there
-- is one, as the statement of an ordinal names it, and the addend
pub record Field : Type 0 where
  pub section : ℕ
  pub place : ℕ
  pub ordinal : ℕ
  pub kind : Kind
  pub symbol : Option Primary
  pub addend : ℤ

abbrev pub field_at : ℕ → ℕ → Open → Field
field_at section place f =
    record {
      section = section;
      place = place;
      ordinal = f.ordinal;
      kind = f.kind;
      symbol = f.symbol;
      addend = f.addend;
    }

-- those of parts of a section that follow one another from an offset on, each at the start of its
-- part
abbrev pub fields_from : ℕ → ℕ → List LaidPart → List Field
fields_from section offset [] = []
fields_from section offset (p ∷ ps) =
    map (field_at section offset) (template_fields p.ordinal p.template)
    ++ fields_from section (offset + length (part_bytes p)) ps

-- those of a statement; a section that isn't loaded has none
abbrev pub fields_at : Tables → LaidStatement → List Field
fields_at t s =
    if s.located.home.loaded
    then fields_from s.located.section s.offset (parts_of t s)
    else []

-- those of a source, in its order
abbrev pub fields : Tables → List LaidStatement → List Field
fields t laid = flat_map (fields_at t) laid

-- What a directive contributes to its section: nothing, data or an alignment (GNU as, "Pseudo Ops").

use Rattle.rv_statement_laws.specs.Statement.{Expression, Directive, Data, AlignmentForm, Aligns, Emits}

pub data Contribution : Type 0 where
  Nothing : Contribution
  Bytes : (contents : Data) → Contribution
  -- padding up to a multiple, at one of which the section begins
  Alignment : (form : AlignmentForm) (number : Expression) → Contribution

abbrev pub contribution : Directive → Contribution
contribution (Emits contents) = Bytes contents
contribution (Aligns form number) = Alignment form number
contribution _ = Nothing

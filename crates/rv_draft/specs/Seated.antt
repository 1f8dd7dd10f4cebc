-- The statements of a source with their items and their code.

use Rattle.std.specs.Prelude.{List, [], ◌∷◌}
use Rattle.rv_source_laws.specs.Located.{Located}
use Rattle.rv_assemble_laws.specs.LaidStatements.{LaidStatement}
use Rattle.rv_instruction.specs.declared.encoded.Coded.{Coded}
use Rattle.rv_instruction.specs.Code.{coded_by}
use Rattle.rv_unit.specs.declared.item.Item.{Item}

abbrev pub laid_of : Located → Item → List Coded → LaidStatement
laid_of s i coded =
    record {
      located = s;
      offset = i.offset;
      bytes = i.bytes;
      instructions = i.instructions;
      coded = coded_by coded;
    }

-- the code of the first statement, and that of those after it, where they have some
abbrev pub first_code : List (List Coded) → List Coded
first_code [] = []
first_code (coded ∷ codes) = coded

abbrev pub other_codes : List (List Coded) → List (List Coded)
other_codes [] = []
other_codes (coded ∷ codes) = codes

-- each statement where its item stands
abbrev pub laid_from : List Located → List Item → List (List Coded) → List LaidStatement
laid_from [] is codes = []
laid_from (s ∷ ss) [] codes = []
laid_from (s ∷ ss) (i ∷ is) codes =
    laid_of s i (first_code codes) ∷ laid_from ss is (other_codes codes)

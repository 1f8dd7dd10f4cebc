use Rattle.std.proofs.Common.{◌≡◌, ◌++◌, ◌∷◌, [], ℕ, List, map, drop}
use Rattle.std.specs.Prelude.{codes}
use Rattle.rv_object_file_laws.specs.Written.{UnplacedSection}
use Rattle.rv_object_writer.specs.Pieces.{piece_of}
use Rattle.rv_object_file_laws.specs.Written.{unseen, strings_of}
use Rattle.rv_object_writer.specs.Strings.{IsStringTable}
use Rattle.rv_object_writer.proofs.names.section_names.Given as goal

abbrev pub invariant-loop-piece : goal.invariant-loop-piece
invariant-loop-piece l =
    (strings : List (List ℕ)) × IsStringTable strings l.names
    × (strings ++ unseen strings (map (λ (p : UnplacedSection). p.name) (map piece_of (drop l.piece-index l.pieces)) ++ codes ".shstrtab" ∷ []) ≡ strings_of (map (λ (p : UnplacedSection). p.name) (map piece_of l.pieces) ++ codes ".shstrtab" ∷ []))

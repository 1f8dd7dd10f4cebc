use Rattle.std.proofs.Common.{map}
use Rattle.rv_object_types.specs.Sections.{section_of}
use Rattle.rv_object_file_laws.specs.ObjectOf.{section_in}
use Rattle.rv_object_file_laws.specs.Parts.{kept}
use Rattle.rv_object_reader.proofs.CollectingLemmas.{kept_left, AreLeft}
use Rattle.rv_object_reader.proofs.MadeLemmas.{SoFar}
use Rattle.rv_object_reader.proofs.sections.sections.Given as goal

-- the sections so far, and those that are left, whose lists are still there
abbrev pub invariant-loop-earlier : goal.invariant-loop-earlier
invariant-loop-earlier l =
    let file = l.checked.view.file.now in record {
      made : SoFar (λ _. Unit {0}) (section_in file) (kept file) (map section_of l.sections.items) (kept_left file l.earlier);
      left : AreLeft file l.earlier l.relocations.items;
    }

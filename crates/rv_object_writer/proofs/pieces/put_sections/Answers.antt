use Rattle.std.proofs.Common.{◌<◌, ◌^◌, ◌∙◌, ◌++◌, List, [], ◌∷◌, map, ap, refl, subst}
use Rattle.std.proofs.lemmas.List.{map_push}
use Rattle.std.proofs.lemmas.List.Elements.{All-more}
use Rattle.rv_list_laws.proofs.EachLemmas.{each_map_passed}
use Rattle.rv_object_laws.specs.Object.{Section as PlainSection, size_of}
use Rattle.rv_object_types.specs.declared.section.Section.{Section}
use Rattle.rv_object_types.specs.Sections.{section_of}
use Rattle.rv_object_file_laws.specs.Written.{section_piece, UnplacedSection as PlainPiece}
use Rattle.rv_object_writer.specs.Pieces.{piece_of}
use Rattle.rv_object_writer.proofs.StepsLemmas.{step}
use Rattle.rv_object_writer.proofs.pieces.put_sections.Goals as goal

abbrev IsSmall : PlainSection → Type 0
IsSmall s = size_of s.contents < 2 ^ 64

abbrev IsKnown : Section → Type 0
IsKnown s = IsSmall (section_of s)

pub loop-section-preserved : goal.loop-section-preserved
loop-section-preserved c =
    let xs : List Section = c.args.sections.now in
    let x : Section = c.section-item.result in
    let had : List PlainPiece = map piece_of c.loop-section.pieces.items in (
      step (λ l. map section_piece (map section_of l)) (λ s. section_piece (section_of s) ∷ []) (λ y ys. refl) xs c.loop-section.section-index x x
          c.loop-section-test.true c.section-item.is had (map piece_of c.push.new.self.items) _
          (ap (map piece_of) c.in_ok-push.ensures.items ∙ map_push piece_of c.loop-section.pieces.items c.of.result ∙ ap (λ p. had ++ p ∷ []) c.of.ensures.is)
          c.loop-section.invariant.0,
      All-more IsKnown xs c.loop-section.section-index x c.loop-section-test.true c.loop-section.invariant.1 (subst IsKnown c.section-item.is c.of.ensures.size),
    )

pub returns-clause-sizes : goal.returns-clause-sizes
returns-clause-sizes c =
    each_map_passed IsSmall section_of c.args.sections.now c.loop-section.section-index c.loop-section-test.false c.loop-section.invariant.1

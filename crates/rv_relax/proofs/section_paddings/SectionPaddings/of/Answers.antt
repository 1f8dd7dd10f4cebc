use Rattle.std.proofs.Common.{◌≡◌, ◌<◌, ◌^◌, rules, ◌&&◌, true, false, cond, [], map, sym, ap, ◌∙◌}
use Rattle.std.specs.Prelude.{reverse}
use Rattle.std.specs.List.{filter}
use Rattle.std.proofs.lemmas.Bool.{and_left, and_right, and_from}
use Rattle.rv_object_laws.specs.Object.{size_of}
use Rattle.rv_object_types.specs.Parts.{relocation_of}
use Rattle.rv_link_laws.specs.Moves.{has_padding, by_place, plan}
use Rattle.rv_shorten.specs.Sections.{short_section_of}
use Rattle.rv_relax.specs.Kept.{moves_of}
use Rattle.rv_relax.specs.Paddings.{move_of}
use Rattle.rv_cut_laws.specs.Alignments.{are_alignments}
use Rattle.rv_cut_laws.proofs.ApartLemmas.{all_apart, of_section}
use Rattle.rv_relax.proofs.section_paddings.SectionPaddings.of.Goals as goal
use Rattle.rv_relax.proofs.section_paddings.SectionPaddings.of.Goals.{then-not-section-via-then-not-section, then-not-section-via-else-not-section+then-not-section-2}

pub alignments-requires : goal.alignments-requires
alignments-requires c =
    let s = short_section_of c.args.section.now in
    all_apart s.contents s.executable s.relocations c.if-not-section-2.false c.args.section.now.paddings

pub paddings-requires : goal.paddings-requires
paddings-requires c =
    let s = short_section_of c.args.section.now in
    let sorted : reverse (map relocation_of c.deref.result.now) ≡ by_place (filter has_padding s.relocations) =
    ap (λ l. reverse (map relocation_of l)) c.deref.ensures.value ∙ c.in_ok-alignments.ensures in
    let low : size_of s.contents < 2 ^ 64 = search rules in
    ap (are_alignments 0) sorted
    ∙ of_section s.contents s.executable s.relocations c.if-not-section-2.false low c.args.section.now.paddings

pub returns-then-not-section : goal.returns-then-not-section
unfolding moves_of
returns-then-not-section c =
    let s = short_section_of c.args.section.now in
    let none : (s.loaded && s.executable) ≡ false = elim c.then-not-section.branch [ then-not-section-via-then-not-section w ↦ and_left s.loaded s.executable w.if-not-section.true | then-not-section-via-else-not-section+then-not-section-2 w ↦ and_right s.loaded s.executable w.if-not-section-2.true ] in
    ap (map move_of) c.new.ensures.items
    ∙ ap (λ b. plan 0 0 (cond b (by_place (filter has_padding s.relocations)) [])) (sym none)

pub returns : goal.returns
unfolding moves_of
returns c =
    let s = short_section_of c.args.section.now in
    let sorted : reverse (map relocation_of c.deref.result.now) ≡ by_place (filter has_padding s.relocations) =
    ap (λ l. reverse (map relocation_of l)) c.deref.ensures.value ∙ c.in_ok-alignments.ensures in
    let both : (s.loaded && s.executable) ≡ true = and_from s.loaded s.executable c.if-not-section.false c.if-not-section-2.false in
    c.in_ok-paddings.ensures.moves ∙ ap (plan 0 0) sorted
    ∙ ap (λ b. plan 0 0 (cond b (by_place (filter has_padding s.relocations)) [])) (sym both)

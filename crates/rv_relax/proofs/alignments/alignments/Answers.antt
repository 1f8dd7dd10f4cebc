use Rattle.std.proofs.Common.{◌∙◌, map, ap, rules, subst, sym}
use Rattle.std.proofs.lemmas.List.Sorted.{answers_always, IsNonDecreasingBy-from_sort}
use Rattle.rv_object_types.specs.Parts.{relocation_of}
use Rattle.rv_link_laws.specs.Moves.{by_place}
use Rattle.rv_shorten.specs.Sections.{short_section_of}
use Rattle.rv_relax.proofs.ByPlaceLemmas.{place_of, AreTold, all_told, map_ordered}
use Rattle.rv_relax.proofs.SortingLemmas.{backwards, backwards_back}
use Rattle.rv_link_sites.proofs.StableLemmas.{sorted_is}
use Rattle.rv_relax.proofs.alignments.alignments.Goals as goal

pub returns : goal.returns
returns c =
    let keys = answers_always _ _ _ (λ f a r next called. search rules) in
    let rs = (short_section_of c.args.section.now).relocations in
    let found = c.in_ok-sorted.sorted.items in
    let sorted = c.sort_by_key.new.self.items in
    let told : AreTold (map relocation_of found) = subst AreTold (sym c.in_ok-sorted.ensures) (all_told rs c.requires) in
    ap backwards c.reverse.ensures.items ∙ backwards_back sorted
    ∙ ap (map relocation_of)
    (sorted_is place_of found sorted
    (IsNonDecreasingBy-from_sort place_of _ (c.in_ok-sort_by_key.ensures.sorted place_of keys)) (c.sort_by_key.ensures.stable place_of keys))
    ∙ map_ordered found told ∙ ap by_place c.in_ok-sorted.ensures

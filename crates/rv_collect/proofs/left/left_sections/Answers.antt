use Rattle.std.proofs.Common.{◌≡◌, ◌<◌, ◌≤◌, ◌++◌, ◌∷◌, ◌+◌, ◌∙◌, ℕ, [], Bool, length, map, drop, rules, ap, sym, append-nil}
use Rattle.std.proofs.lemmas.List.{at_drop_all, map_push}
use Rattle.rv_list_laws.proofs.ElementsLemmas.{append_one_more}
use Rattle.rv_object_types.specs.Sections.{section_of}
use Rattle.rv_link_laws.specs.Without.{without_section, without_sections}
use Rattle.rv_collect.specs.Drops.{drops_in}
use Rattle.rv_collect.proofs.LeftLemmas.{sections_left}
use Rattle.rv_collect.proofs.left.left_sections.Goals as goal

pub loop-index-preserved : goal.loop-index-preserved
loop-index-preserved c =
    let i = c.loop-index.index in
    let xs = c.args.sections.now in
    let x = c.index-sections-index.result in
    let inside : i < length xs = search rules in
    let dropped : ℕ → Bool = drops_in (map section_of xs) c.args.marks.now in
    let left = c.loop-index.left.items in
    let one : section_of c.in_ok-section.section ≡ without_section (dropped i) (section_of x) =
    c.in_ok-section.ensures ∙ ap (λ b. without_section b (section_of x)) c.is_dropped-dropped.ensures in
    append_one_more (map section_of left) (map section_of c.push.new.self.items) (without_section (dropped i) (section_of x)) (without_sections dropped (i + 1) (map section_of (drop (i + 1) xs)))
    (without_sections dropped i (map section_of (drop i xs))) (without_sections dropped 0 (map section_of xs))
    (ap (map section_of) c.in_ok-push.ensures.items ∙ map_push section_of left c.in_ok-section.section ∙ ap (λ s. map section_of left ++ s ∷ []) one) (sections_left dropped xs i x inside c.index-sections-index.is)
    c.loop-index.invariant

pub returns : goal.returns
returns c =
    let n = c.loop-index.index in
    let xs = c.args.sections.now in
    let left = map section_of c.loop-index.left.items in
    let past : length xs ≤ n = search rules in
    let dropped : ℕ → Bool = drops_in (map section_of xs) c.args.marks.now in
    sym (append-nil left) ∙ sym (at_drop_all (λ l. left ++ without_sections dropped n (map section_of l)) xs n past) ∙ c.loop-index.invariant

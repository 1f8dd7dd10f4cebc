use Rattle.std.proofs.Common.{◌∙◌, ◌==◌, ◌&&◌, [], ◌∷◌, ◌-◌, ap, length, map, get_or}
use Rattle.std.specs.Prelude.{if◌then◌else◌}
use Rattle.rv_object_types.specs.Parts.{relocation_of, zeros_relocation}
use Rattle.rv_link_laws.specs.Moves.{new_offset}
use Rattle.rv_cut_laws.specs.Cutting.{cut_relocation}
use Rattle.rv_shorten.specs.Sections.{moves_in}
use Rattle.rv_relax.specs.Kept.{moves_of}
use Rattle.rv_link_values.specs.Highs.{else_found, high_to}
use Rattle.rv_link_values.proofs.AddingLemmas.{before_others, last_taken}
use Rattle.rv_link_values.proofs.high.Highs.add_all.Goals as goal

pub loop-left-preserved : goal.loop-left-preserved
loop-left-preserved c =
    let left = c.loop-left.left.now in
    let done = c.loop-left.invariant.0 in
    let last = get_or left (length left - 1) zeros_relocation in
    let s = c.args.section.now in
    let cut = cut_relocation (moves_in s) in
    let new = new_offset (moves_of c.args.plan.now) in (
      last ∷ done,
      last_taken s.whole.now.relocations.items left done zeros_relocation c.in-len1-up.len_at_least c.loop-left.invariant.1,
      λ f n x. c.in_ok-add.ensures f n x
          ∙ ap (λ o. if (c.args.file.0 == f) && (c.args.index.0 == n) then else_found (high_to new x (cut (relocation_of last) ∷ [])) o else o) (c.loop-left.invariant.2 f n x)
          ∙ before_others new x (c.args.file.0 == f) (c.args.index.0 == n) (cut (relocation_of last)) (map cut (map relocation_of done)) _,
    )

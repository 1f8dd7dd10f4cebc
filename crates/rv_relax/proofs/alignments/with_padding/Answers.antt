use Rattle.std.proofs.Common.{◌≡◌, ◌+◌, ◌++◌, List, map, drop, subst, sym}
use Rattle.rv_object_types.specs.declared.relocation.Relocation.{Relocation}
use Rattle.rv_object_types.specs.Parts.{relocation_of}
use Rattle.rv_shorten.specs.Sections.{moves_in}
use Rattle.rv_relax.proofs.MovedLemmas.{found_more, padded_of}
use Rattle.rv_relax.proofs.alignments.with_padding.Goals as goal

pub loop-relocation-preserved : goal.loop-relocation-preserved
loop-relocation-preserved c =
    let ms = moves_in c.args.section.now in
    let i = c.loop-relocation.relocation-index in
    let found = map relocation_of c.loop-relocation.found.items in
    let more = map relocation_of c.put.new.found.items in
    let rs = c.deref-relocation-items.result.now in
    let is = c.deref-relocation-items.ensures.value in
    subst (λ (l : List Relocation). more ++ padded_of ms (drop (i + 1) l) ≡ padded_of ms l) is
    (found_more ms rs i found more (padded_of ms rs) c.loop-relocation-test.true c.in_ok-put.ensures
    (subst (λ (l : List Relocation). found ++ padded_of ms (drop i l) ≡ padded_of ms l) (sym is) c.loop-relocation.invariant))

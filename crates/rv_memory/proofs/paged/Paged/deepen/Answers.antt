use Rattle.std.proofs.Common.{◌∙◌, ap, sym, subst, List, map, arith}
use Rattle.rv_isa_laws.specs.Platform.{stack_start}
use Rattle.rv_image_laws.specs.Segment.{Segment}
use Rattle.rv_image.specs.SegmentView.{segment_of}
use Rattle.rv_memory.specs.Flat.{memory_of}
use Rattle.rv_memory.specs.Pages.{AreBehind, AreListed}
use Rattle.rv_memory.specs.Unmade.{IsUnmade, with_unmade}
use Rattle.rv_memory.proofs.UnmadeLemmas.{deep-behind, deep-listed, deep-unmade, deep-memory}
use Rattle.rv_memory.proofs.paged.Paged.deepen.Goals as goal

pub invariant_of-self : goal.invariant_of-self
invariant_of-self c =
    let old = c.args.self.now in
    let before : List Segment = map segment_of old.flat.segments.items in
    record {
      known = record {
        behind = subst (λ (l : List Segment). AreBehind l) (sym c.deepen.ensures) (deep-behind before old.top old.base old.flat.apart old.unmade old.known.behind);
        listed = subst (λ (l : List Segment). AreListed l old.pages.items) (sym c.deepen.ensures) (deep-listed before old.top old.base old.pages.items old.flat.apart old.unmade old.known.listed);
        near = c.nears_of-self.ensures;
      };
      unmade = subst (λ (l : List Segment). IsUnmade l old.top stack_start) (sym c.deepen.ensures) (deep-unmade before old.top old.base old.flat.apart old.unmade);
      has_room = λ some. absurd (omega (arith, some));
    }

pub returns-clause-memory : goal.returns-clause-memory
returns-clause-memory c =
    let old = c.args.self.now in
    ap (λ (l : List Segment). with_unmade stack_start (memory_of l)) c.deepen.ensures
    ∙ deep-memory (map segment_of old.flat.segments.items) old.top old.base old.flat.apart old.unmade

use Rattle.std.proofs.Common.{◌≡◌, ◌∙◌, sym, subst, List, Option, MatchOption, map, arith}
use Rattle.rv_isa_laws.specs.Platform.{stack_start}
use Rattle.rv_image_laws.specs.Segment.{Segment as LawSegment}
use Rattle.rv_image.specs.SegmentView.{segment_of}
use Rattle.rv_image.specs.declared.segment.Segment.{Segment}
use Rattle.rv_memory.specs.Held.{pieces}
use Rattle.rv_memory.specs.Pages.{ArePages}
use Rattle.rv_memory.specs.Unmade.{IsUnmade, IsTop, IsGap, deep}
use Rattle.rv_memory.proofs.OrderLemmas.{ordered-behind}
use Rattle.rv_memory.proofs.PageLemmas.{pages-listed, listed-again}
use Rattle.rv_memory.proofs.UnmadeLemmas.{unmade-gap}
use Rattle.rv_memory.proofs.paged.Paged.new.Goals as goal

pub position_in_order-requires : goal.position_in_order-requires
position_in_order-requires c = ordered-behind _ c.in_ok-flat.ensures.ordered

pub stack_index-stack-requires-clause-ordered : goal.stack_index-stack-requires-clause-ordered
stack_index-stack-requires-clause-ordered c = ordered-behind _ c.in_ok-flat.ensures.ordered

pub stack_index-top-requires-clause-top : goal.stack_index-top-requires-clause-top
stack_index-top-requires-clause-top c =
    subst (λ (o : Option LawSegment). MatchOption o ⊥ (λ s. IsTop 0x3FFF_0000 s)) (sym (c.bring_forward.ensures.found 0x3FFF_0000)) c.in_ok-flat.ensures.top

pub pages_of-requires-clause-gap : goal.pages_of-requires-clause-gap
pages_of-requires-clause-gap c =
    let ss = pieces c.in_ok-flat.flat in
    let i = c.stack_index-stack.result in
    let stack : IsUnmade ss i 0x3FFF_0000 =
    record { within = c.stack_index-stack.ensures.within; top = c.stack_index-stack.ensures.top; above = omega arith; free = c.in_ok-flat.ensures.free } in
    subst (λ (l : List Segment). IsGap (map segment_of l) i stack_start) (sym c.deref-2.ensures.value) (unmade-gap ss i 0x3FFF_0000 c.in_ok-flat.flat.apart stack)

pub invariant_of-result : goal.invariant_of-result
invariant_of-result c =
    let ss = pieces c.in_ok-flat.flat in
    let i = c.stack_index-stack.result in
    let pages = c.in_ok-pages.pages.items in
    let stack : IsUnmade ss i 0x3FFF_0000 =
    record { within = c.stack_index-stack.ensures.within; top = c.stack_index-stack.ensures.top; above = omega arith; free = c.in_ok-flat.ensures.free } in
    let are = subst (λ (l : List Segment). ArePages (deep (map segment_of l) i stack_start) pages) c.deref-2.ensures.value c.in_ok-pages.ensures in
    record {
      known = record {
        behind = c.bring_forward.ensures.behind;
        listed = listed-again ss (pieces c.bring_forward.new.self) pages c.bring_forward.ensures.found (pages-listed ss i 0x3FFF_0000 pages c.in_ok-flat.flat.apart stack are);
        near = c.nears_of-nears.ensures;
      };
      unmade = record {
        within = c.stack_index-top.ensures.within;
        top = c.stack_index-top.ensures.top;
        above = omega arith;
        free = λ x low high. c.bring_forward.ensures.found x ∙ c.in_ok-flat.ensures.free x low high;
      };
      has_room = λ some. (c.in_ok-room.ensures.items, c.in_ok-room.ensures.capacity);
    }

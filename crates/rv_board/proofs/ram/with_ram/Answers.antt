use Rattle.std.proofs.Common.{◌≡◌, ◌≤◌, ◌∷◌, [], ◌++◌, ◌+◌, List, length, map, true, refl, sym, ap, subst, ◌∙◌, arith}
use Rattle.std.specs.Vec.Iter.{into_iter_items}
use Rattle.rv_image.specs.SegmentView.{segment_of}
use Rattle.rv_image_laws.specs.Segment.{are_apart, memory_size}
use Rattle.rv_isa_laws.specs.Platform.{memory_limit}
use Rattle.rv_board_laws.specs.Virt.{registers, ram_start, lie_in_ram, ram_from}
use Rattle.rv_board.proofs.RamLemmas.{lie_parts, board_apart, board_size, put_more, put_last}
use Rattle.rv_board.proofs.ram.with_ram.Goals as goal

nothing_left : {X : Type 0} (l : List X) → length l ≡ 0 → l ≡ []
nothing_left [] h = refl
nothing_left (x ∷ xs) h = absurd (omega arith)

-- the segments that are left lie in RAM: so does the next
pub zeros-requires : goal.zeros-requires
zeros-requires c =
    let at = c.loop-segment in let s = c.in-Some.segment in
    let rest = map segment_of (into_iter_items c.next.new.self) in
    let lie = subst (λ l. lie_in_ram at.from (map segment_of l) ≡ true) c.in-Some.ensures.steps.0 at.invariant.lie in
    record { order = (lie_parts at.from (segment_of s) rest lie).0 }

pub overflow_add-from : goal.overflow_add-from
overflow_add-from c =
    let at = c.loop-segment in let s = c.in-Some.segment in
    let rest = map segment_of (into_iter_items c.next.new.self) in
    let lie = subst (λ l. lie_in_ram at.from (map segment_of l) ≡ true) c.in-Some.ensures.steps.0 at.invariant.lie in
    let ends = (lie_parts at.from (segment_of s) rest lie).1 in
    omega (arith, ends, c.len.ensures)

pub loop-segment-preserved : goal.loop-segment-preserved
loop-segment-preserved c =
    let at = c.loop-segment in let s = c.in-Some.segment in
    let others = into_iter_items c.next.new.self in
    let steps = c.in-Some.ensures.steps in
    let lie = subst (λ l. lie_in_ram at.from (map segment_of l) ≡ true) steps.0 at.invariant.lie in
    let parts = lie_parts at.from (segment_of s) (map segment_of others) lie in
    let was = at.invariant.count in
    let short = ap length steps.0 in
    let long : c.len.result ≡ length s.bytes.items = omega (arith, c.len.ensures) in
    record {
      whole =
          ap (λ n. map segment_of c.push-in-loop-segment.new.self.items ++ ram_from (s.address + n) (map segment_of others)) long
          ∙ put_more segment_of at.segments.items c.push.new.self.items c.push-in-loop-segment.new.self.items others c.in_ok-zeros.field-0 s at.from c.in_ok-push.ensures.items c.in_ok-push-2.ensures.items c.in_ok-zeros.ensures
          ∙ ap (λ l. map segment_of at.segments.items ++ ram_from at.from (map segment_of l)) (sym steps.0)
          ∙ at.invariant.whole;
      lie = subst (λ n. lie_in_ram (s.address + n) (map segment_of others) ≡ true) (sym long) parts.2;
      count = let gone = steps.1 in omega arith;
      can_next = tt;
      is_finite = tt;
    }

-- all of the segments, with the last zeros
pub invariant_of-result : goal.invariant_of-result
invariant_of-result c =
    let at = c.loop-segment in let given = map segment_of c.args.image.segments.items in
    let empty : into_iter_items at.segment-iterator ≡ [] = nothing_left _ (sym at.invariant.count ∙ c.in-None.ensures.steps.0) in
    let whole : map segment_of c.push-2.new.self.items ≡ registers ++ ram_from ram_start given =
    put_last segment_of at.segments.items c.push-2.new.self.items c.in_ok-zeros-2.field-0 at.from c.in_ok-push-3.ensures.items c.in_ok-zeros-2.ensures
    ∙ ap (λ l. map segment_of at.segments.items ++ ram_from at.from (map segment_of l)) (sym empty) ∙ at.invariant.whole in
    record {
      even = c.args.image.even;
      apart = subst (λ l. are_apart l ≡ true) (sym whole) (board_apart given c.requires);
      limit = subst (λ l. memory_size l ≤ memory_limit) (sym whole) (board_size given c.requires);
    }

pub returns : goal.returns
returns c =
    let at = c.loop-segment in let given = map segment_of c.args.image.segments.items in
    let empty : into_iter_items at.segment-iterator ≡ [] = nothing_left _ (sym at.invariant.count ∙ c.in-None.ensures.steps.0) in
    let whole : map segment_of c.push-2.new.self.items ≡ registers ++ ram_from ram_start given =
    put_last segment_of at.segments.items c.push-2.new.self.items c.in_ok-zeros-2.field-0 at.from c.in_ok-push-3.ensures.items c.in_ok-zeros-2.ensures
    ∙ ap (λ l. map segment_of at.segments.items ++ ram_from at.from (map segment_of l)) (sym empty) ∙ at.invariant.whole in
    ap (λ l. record { entry = c.args.image.entry; segments = l }) whole

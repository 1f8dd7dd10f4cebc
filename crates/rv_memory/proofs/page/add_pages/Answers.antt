use Rattle.std.proofs.Common.{◌≡◌, ◌<◌, ◌+◌, ◌-◌, ◌/◌, ◌∙◌, List, sym, ap, refl, get_or, map, take, length, arith}
use Rattle.std.proofs.lemmas.List.{length-map}
use Rattle.rv_image_laws.specs.Segment.{Segment}
use Rattle.rv_image.specs.SegmentView.{segment_of}
use Rattle.rv_memory.specs.Flat.{no_segment}
use Rattle.rv_memory.specs.declared.page.Page.{Page}
use Rattle.rv_memory.specs.Unmade.{deep}
use Rattle.rv_memory.proofs.FlatLemmas.{element-or}
use Rattle.rv_memory.proofs.PageLemmas.{more-start, more-next, more-all, deep-end}
use Rattle.rv_memory.proofs.UnmadeLemmas.{deep-apart, deep-ordered, deep-count}
use Rattle.rv_memory.proofs.page.add_pages.Goals as goal

pub overflow_sub-last : goal.overflow_sub-last
overflow_sub-last c =
    let xs = c.args.segments.now in
    let s = c.index-segments-index.result in
    let within : c.args.index < length (map segment_of xs) = omega (arith, c.requires.index, length-map xs segment_of) in
    let is = element-or xs c.args.index s c.requires.index c.index-segments-index.is in
    let some : 0 < length s.bytes.items = rw is at (c.requires.ordered.filled c.args.index within) in
    omega (arith, some, c.len.ensures)

pub loop-number-init : goal.loop-number-init
loop-number-init c =
    let ss : List Segment = map segment_of c.args.segments.now in
    let ds : List Segment = deep ss c.args.top c.args.start in
    let within : c.args.index < length ds = omega (arith, c.requires.index, length-map c.args.segments.now segment_of, deep-count ss c.args.top c.args.start) in
    more-start ds c.args.index (c.start_of-first.result / 4096) c.args.pages.now.items within (deep-apart ss c.args.top c.args.start c.requires.gap) (deep-ordered ss c.args.top c.args.start c.requires.gap c.requires.ordered) c.requires.before
    (ap (λ n. n / 4096) c.start_of-first.ensures)

pub loop-number-preserved : goal.loop-number-preserved
loop-number-preserved c =
    let ss : List Segment = map segment_of c.args.segments.now in
    let ds : List Segment = deep ss c.args.top c.args.start in
    let page : Page = record { number = c.loop-number.number; segment = c.args.hint } in
    let next = more-next (take (c.args.index + 1) ds) (c.start_of-first.result / 4096) c.loop-number.number c.args.pages.now.items c.loop-number.pages.items page
    (omega (arith, c.loop-number.auto.number)) refl c.loop-number.invariant in
    rw c.in_ok-add_page.ensures.added next

pub returns : goal.returns
returns c =
    let xs = c.args.segments.now in
    let ss : List Segment = map segment_of xs in
    let ds : List Segment = deep ss c.args.top c.args.start in
    let s = c.index-segments-index.result in
    let within : c.args.index < length ss = omega (arith, c.requires.index, length-map xs segment_of) in
    let deep_within : c.args.index < length ds = omega (arith, within, deep-count ss c.args.top c.args.start) in
    let ordered = deep-ordered ss c.args.top c.args.start c.requires.gap c.requires.ordered in
    let is = element-or xs c.args.index s c.requires.index c.index-segments-index.is in
    let some : 0 < length s.bytes.items = rw is at (c.requires.ordered.filled c.args.index within) in
    let more = ordered.filled c.args.index deep_within in
    let here : s.address + length s.bytes.items ≡ (get_or ss c.args.index no_segment).address + length (get_or ss c.args.index no_segment).bytes = sym (ap (λ (t : Segment). t.address + length t.bytes) is) in
    let ends = deep-end ss c.args.top c.args.start c.args.index c.requires.gap in
    let end : c.loop-number.number ≡ (s.address + (length s.bytes.items - 1)) / 4096 + 1 =
    omega (arith, some, c.len.ensures, c.loop-number-test.false, c.loop-number.auto.number-end, c.loop-number.auto.number) in
    let last : s.address + (length s.bytes.items - 1) ≡ (get_or ds c.args.index no_segment).address + (length (get_or ds c.args.index no_segment).bytes - 1) = omega (arith, some, more, here, ends) in
    more-all ds c.args.index (c.start_of-first.result / 4096) c.loop-number.number c.args.pages.now.items c.loop-number.pages.items deep_within ordered c.requires.before
    (ap (λ n. n / 4096) c.start_of-first.ensures) (end ∙ ap (λ n. n / 4096 + 1) last) c.loop-number.invariant

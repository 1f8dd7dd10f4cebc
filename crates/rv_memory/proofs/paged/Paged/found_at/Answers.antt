use Rattle.std.proofs.Common.{◌≡◌, ◌<◌, ◌∙◌, Option, true, map, length, ap, sym, arith}
use Rattle.rv_image_laws.specs.Segment.{Segment}
use Rattle.rv_image.specs.SegmentView.{segment_of}
use Rattle.rv_image_laws.specs.Memory.{lies_in, right_in}
use Rattle.rv_memory.proofs.FlatLemmas.{element, held-segment}
use Rattle.rv_memory.proofs.PageLemmas.{gives-low}
use Rattle.rv_memory.proofs.paged.Paged.found_at.Goals as goal

pub returns-clause-found : goal.returns-clause-found
returns-clause-found c =
    let xs = c.args.self.now.flat.segments.items in
    let i = c.args.segment in
    let s = c.index-held.result.now in
    let within : i < length xs = omega arith in
    let at = element xs i s within c.index-held.ensures in
    let held : lies_in (segment_of s) c.args.address ≡ true = cc in
    held-segment (map segment_of xs) i c.args.address (segment_of s) c.args.self.now.flat.apart at held ∙ sym at

pub returns-clause-rights : goal.returns-clause-rights
returns-clause-rights c = λ r.
    let xs = c.args.self.now.flat.segments.items in
    let i = c.args.segment in
    let s = c.index-held.result.now in
    let within : i < length xs = omega arith in
    let at = element xs i s within c.index-held.ensures in
    let held : lies_in (segment_of s) c.args.address ≡ true = cc in
    let here = held-segment (map segment_of xs) i c.args.address (segment_of s) c.args.self.now.flat.apart at held in
    gives-low s.flags r ∙ sym (ap (λ (o : Option Segment). right_in o r) here)

use Rattle.std.proofs.Common.{◌≡◌, ◌<◌, ◌+◌, ◌-◌, ◌%◌, ◌^◌, ◌∙◌, sym, ap, refl, ℕ, List, Some, get_or, take, drop, length, map, slice_get, arith}
use Rattle.std.proofs.lemmas.List.{length-map}
use Rattle.rv_isa_laws.specs.Memory.{Mem, bytes_at}
use Rattle.rv_image_laws.specs.Segment.{Segment}
use Rattle.rv_image.specs.SegmentView.{segment_of}
use Rattle.rv_memory.specs.Flat.{memory_of}
use Rattle.rv_memory.specs.Rights.{right_of}
use Rattle.rv_memory.proofs.FlatLemmas.{element, element-or, may-within, bytes-within}
use Rattle.rv_memory.proofs.MemoryLemmas.{byte-of-bytes, number_at-bytes}
use Rattle.rv_memory.proofs.StretchLemmas.{IsNear, near-is, small-take}
use Rattle.rv_memory.proofs.flat.Flat.near.Goals.{After-index-segment}
use Rattle.rv_memory.proofs.flat.Flat.near.Goals as goal

-- The segment, the address's place in it, and its bytes from there on.
module _ (c : After-index-segment) where
  abbrev segments : List Segment
  segments = map segment_of c.args.self.now.segments.items

  abbrev segment : Segment
  segment = segment_of c.index-segment.result.now

  abbrev place : ℕ
  place = (c.args.address + (2 ^ 64 - c.args.stretch.start)) % 2 ^ 64

  within : c.args.i < length c.args.self.now.segments.items
  within =
      let wide = c.requires.known place (omega (arith, c.if-at-stretch.false)) in
      omega (arith, wide.within, length-map c.args.self.now.segments.items segment_of)

  there : slice_get segments c.args.i ≡ Some segment
  there = element c.args.self.now.segments.items c.args.i c.index-segment.result.now within c.index-segment.ensures

  near : IsNear segment c.args.address place c.args.bytes (right_of c.args.right)
  near =
      let e = element-or c.args.self.now.segments.items c.args.i c.index-segment.result.now within c.index-segment.ensures in
      near-is segments c.args.i c.args.stretch.start c.args.stretch.room c.args.bytes c.args.address place segment (right_of c.args.right)
      c.requires.known (omega (arith, c.if-at-stretch.false)) (omega (arith, c.requires.width)) e refl (omega arith) (omega arith) c.index-segment.result.now.ends

  bytes : bytes_at (memory_of segments) c.args.address c.args.bytes ≡ take c.args.bytes (drop place segment.bytes)
  bytes = bytes-within segments c.args.i segment c.args.address place c.args.bytes c.args.self.now.apart there c.index-segment.result.now.ends near.place near.fits

pub returns-clause-right : goal.returns-clause-right
returns-clause-right c =
    let at = (goal.at.returns-clause-right c).After-index-segment in
    let n = near at in
    may-within _ c.args.i (segment at) c.args.address c.args.bytes (right_of c.args.right) c.args.self.now.apart (there at) c.index-segment.result.now.ends
    (omega (arith, n.place)) (omega (arith, n.place, n.fits)) n.right

pub returns-clause-number : goal.returns-clause-number
returns-clause-number c =
    let at = (goal.at.returns-clause-number c).After-index-segment in
    let number = number_at-bytes (memory_of (segments at)) c.args.address c.args.bytes in
    c.number.ensures ∙ rw (number, bytes at, c.split_at.ensures.front, c.bytes_from.ensures.value) refl

pub returns-clause-bytes : goal.returns-clause-bytes
returns-clause-bytes c = λ j low.
    let at = (goal.at.returns-clause-bytes c).After-index-segment in
    let k = place at in
    let m : Mem = memory_of (segments at) in
    let has = (segment at).bytes in
    let is : m.byte ((c.args.address + j) % 2 ^ 64) ≡ get_or (take c.args.bytes (drop k has)) j 0 =
    sym (byte-of-bytes m c.args.address c.args.bytes j low) ∙ ap (λ (bs : List ℕ). get_or bs j 0) (bytes at) in
    let small : get_or (drop k has) j 0 < 256 = rw (sym c.bytes_from.ensures.value) (c.bytes_from.ensures.small j) in
    let front : get_or (take c.args.bytes (drop k has)) j 0 < 256 = small-take (drop k has) c.args.bytes j small in
    omega (arith, is, front)

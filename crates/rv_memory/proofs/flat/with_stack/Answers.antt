use Rattle.std.proofs.Common.{◌≡◌, List, map, true, refl, rules, arith}
use Rattle.std.proofs.lemmas.List.{map-append}
use Rattle.rv_image_laws.specs.Segment.{Segment, are_apart}
use Rattle.rv_image.specs.SegmentView.{segment_of}
use Rattle.rv_image.specs.Views.{image_of}
use Rattle.rv_memory.proofs.NewLemmas.{IsStack, disjoint-with-stack, memory-with-stack, free-below, has-top}
use Rattle.rv_memory.proofs.flat.with_stack.Goals.{In_ok-zeros}
use Rattle.rv_memory.proofs.flat.with_stack.Goals as goal

-- The stack behind the image's segments.
module _ (c : In_ok-zeros) where
  abbrev image : List Segment
  image = map segment_of c.args.image.segments.items

  abbrev stack : Segment
  stack = record { address = c.args.from; bytes = c.in_ok-zeros.field-0.items; flags = 6 }

  is_stack : IsStack stack
  is_stack = record { low = c.requires.low; high = c.requires.high; ends = omega (arith, c.in_ok-zeros.ensures.count, c.requires.low, c.requires.high); zeros = c.in_ok-zeros.ensures.zeros; flags = refl }

  apart : are_apart image ≡ true
  apart = search rules

pub returns-clause-apart : goal.returns-clause-apart
returns-clause-apart c =
    let k = (goal.at.returns-clause-apart c).In_ok-zeros in
    rw (c.in_ok-push.ensures.items, map-append) (disjoint-with-stack (image k) (stack k) (is_stack k) (apart k))

pub returns-clause-memory : goal.returns-clause-memory
returns-clause-memory c =
    let k = (goal.at.returns-clause-memory c).In_ok-zeros in
    rw (c.in_ok-push.ensures.items, map-append) (memory-with-stack (image_of c.args.image) (stack k) (is_stack k) (apart k))

pub returns-clause-free : goal.returns-clause-free
returns-clause-free c =
    let k = (goal.at.returns-clause-free c).In_ok-zeros in
    rw (c.in_ok-push.ensures.items, map-append) (free-below (image k) (stack k) (is_stack k) (apart k))

pub returns-clause-top : goal.returns-clause-top
returns-clause-top c =
    let k = (goal.at.returns-clause-top c).In_ok-zeros in
    rw (c.in_ok-push.ensures.items, map-append) (has-top (image k) (stack k) (is_stack k) (apart k))

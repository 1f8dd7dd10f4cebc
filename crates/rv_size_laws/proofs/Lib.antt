-- Single steps, in any order: what each keeps all keep, so they stay on one side of what no step passes.
pub mod StepsLemmas
-- The sizes of jumps: two, four or eight bytes.
pub mod JumpSizesLemmas
-- Distances grow with sizes, and a form that reaches far reaches near.
pub mod ReachingLemmas
-- Widening what does not reach, in any order, ends at the one least good family.
pub mod WideningLemmas
-- What sites drop: never more than there is, and with smaller sizes more.
pub mod DroppingLemmas
-- Shortening what may be shorter, in any order, ends at the one greatest closed family.
pub mod ShorteningLemmas
-- Whatever paddings regrow, shortened calls reach; and the least paddings fit.
pub mod RegrowingLemmas
-- The definitions on small texts: a call and a `tail` at the edges of their reach, and a padding that regrows.
pub mod WorkedLemmas
-- What follows from the definitions of Alignment, for all who cite them.
pub mod AlignmentLemmas
-- What follows from the definitions of Offsets, for all who cite them.
pub mod OffsetsLemmas
-- What a pass leaves of its table, and what it reads there.
pub mod TablesLemmas

-- A token that is taken somewhere is not the last of its source: what rv_parse_laws shows of each slot.
pub mod TokensLemmas
-- Expressions of numbers alone.
pub mod TargetsLemmas
-- Where a load or a store goes, by what is read there.
pub mod LocatedLemmas
-- One item or more, with commas between, read item by item, as the code holds them.
pub mod ItemsLemmas
-- The lists of directives: symbols, strings and values.
pub mod ListsLemmas
-- The operands of `jalr` behind its link register and a comma.
pub mod JumpsLemmas
-- The places of a parcel's operands: those of its registers, of which it has two at most, and what stands beside them.
pub mod ParcelsLemmas
-- What `.section` says behind its name, and behind its flags.
pub mod OpeningsLemmas
-- The names that a source has opened, and an opening at the front.
pub mod OpenedLemmas
-- Statements read one by one, as the code holds them.
pub mod StatementsLemmas
-- Where statements begin, as they are read one by one.
pub mod OffsetsLemmas
-- What the parser's refusals say of the source.
pub mod RefusalsLemmas
-- The first byte past its line's limit, found a window at a time: a line ends among so many bytes, or is too long.
pub mod LinesLemmas
-- The first byte past its line's limit, as the function finds it, is the first that is past it.
pub mod PastLineLemmas
-- The places of line feeds are as many as the line feeds.
mod LineFeedsLemmas

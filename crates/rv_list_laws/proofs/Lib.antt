-- Numbers: their tests, remainders and steps by one.
pub mod NumbersLemmas
-- Truth values: rows of `&&` and `||`, and what a number of one bit is.
pub mod TruthLemmas
-- Options: whether there is a value, what holds of it, and what a map leaves of it.
pub mod OptionsLemmas
-- Elements of lists by their index, and lists that grow by one or more.
pub mod ElementsLemmas
-- The front of a list and the rest, and the step from one index to the next.
pub mod TakeDropLemmas
-- `map` and `flat_map`: their elements, their rests and maps of maps.
pub mod MapLemmas
-- Tests of all elements, or of any.
pub mod TestsLemmas
-- What holds of each element, and of each of a part, a join, a map.
pub mod EachLemmas
-- Lists without what fails a test.
pub mod FilterLemmas
-- The first element that passes a test.
pub mod FindLemmas
-- Lists in order.
pub mod SortedLemmas

-- Sums and differences modulo 2 ^ 64.
pub mod WrapsLemmas
-- A value and the number that plain arithmetic gives go together, operator by operator.
pub mod ValuesLemmas
-- The value of an expression goes with the number that plain arithmetic gives.
pub mod AgreementLemmas
-- An expression of constants is a constant, or a fault where plain arithmetic gives no number.
pub mod ConstantsLemmas
-- Plain arithmetic stays within 64 bits.
pub mod FitsLemmas
-- What has a sort and a number has a form.
pub mod FormsLemmas
-- A constant by what a whole source says before a statement is the same constant by the statements before it.
pub mod EarlierLemmas
-- What a statement without faults adds to its section of data: the bytes that the values of its expressions say.
pub mod AddedLemmas
-- The statements of a source one after another: each stands where the data before it in its section end.
pub mod WalkLemmas
-- What the tables of a source hold stands where its statements stand.
pub mod EntriesLemmas
-- Where the sections of a region begin: each at a multiple of its alignment, and its rows follow from there.
pub mod StartsLemmas
-- The rows of a section of data: each has the bytes of its statement.
pub mod FollowLemmas
-- The statements of one file among those of all, and their rows.
pub mod FilesLemmas
-- Where a map fits its sources.
pub mod PlacesLemmas
-- The numbers of names in a statement agree with what they mean, so its values are plain arithmetic.
pub mod NumbersLemmas

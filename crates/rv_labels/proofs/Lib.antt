-- Rows in the order of their ordinals: the last one that passes a test stands in front of those that fail it.
pub mod EndsLemmas
-- Names of objects, one after another, and what the indices answer.
pub mod LabelsLemmas

-- RAM around ascending segments: that all of it lies apart, and how much it is.
pub mod RamLemmas
-- A run with devices, from where the run without them ended.
pub mod GoesOnLemmas
-- What the devices make of a load or a store, by what the code does.
pub mod DevicesLemmas
-- What a step that memory refused comes to with devices.
pub mod AnswersLemmas
-- A run on the board, one answered instruction after the other.
pub mod RunningLemmas

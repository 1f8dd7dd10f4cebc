-- Whether what came of a run is what had to come.
pub mod Cases

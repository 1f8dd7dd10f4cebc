-- That no form that is chosen because it reaches comes to be out of reach, whatever paddings regrow.
pub mod Reach

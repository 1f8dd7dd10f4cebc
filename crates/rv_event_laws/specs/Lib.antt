-- What a step tells, over the definitions of effects alone: what it reads, writes and sets, what a call takes and puts.
pub mod Event
-- What a step changes is what its event tells.
pub mod Changes

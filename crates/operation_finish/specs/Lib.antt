-- The end of an operation. `Transfer` is what is told of sectors, `Reply` what an operation gives and what an answer tells, `Finish` the rules in
-- their order, also as they stood before short transfers were told, `Ended` an operation over sectors that ended well, `Code` what only the private
-- functions need.
pub mod Transfer
pub mod Reply
pub mod Finish
pub mod Ended
pub mod Code

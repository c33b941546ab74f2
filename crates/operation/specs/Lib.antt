-- One operation. `Record` has its fresh start and what a step or a giving changes of it, `Step` the four steps, `Give` the giving of received bytes,
-- `Code` what only the private functions need, `Start` the start of an operation over sectors, which can be refused,
-- `Rounds` turns that a caller takes, `Short` a status of four bytes, `Made` the records that calls from a fresh start can make.
pub mod Record
pub mod Step
pub mod Give
pub mod Code
pub mod Start
pub mod Rounds
pub mod Short
pub mod Made

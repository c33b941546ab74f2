-- What a block of a deck comes to. `Verdict` is what is told of it, `Deal` the head afterwards and what a function promises of it, `Dealing` what
-- each block does to the head, `Code` what the private functions promise, `Bench` how blocks are counted from one to the next and what a step
-- promises.
pub mod Verdict
pub mod Deal
pub mod Dealing
pub mod Code
pub mod Bench

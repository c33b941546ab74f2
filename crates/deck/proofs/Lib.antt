-- What is told of a block: `VerdictLaws` takes what a run promises to the deal that is defined, `VerdictUnique` shows that a verdict and a deal have
-- one answer each, `WrongVerdict` has programs that the contracts rule out.
-- One block: `DealingLaws` has the bytes that are lent, the operation or upload that is started, and what is done for a request, `WrongDealing`
-- programs that the contract rules out.
-- From block to block: `BenchLaws` has the flash at the start, `BenchUnique` shows that a start and a step have one answer each, `WrongBench` has programs that the contracts rule out.
pub mod VerdictLaws
pub mod VerdictUnique
pub mod WrongVerdict
pub mod DealingLaws
pub mod WrongDealing
pub mod BenchLaws
pub mod BenchUnique
pub mod WrongBench

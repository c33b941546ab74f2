-- An image handed over to its end: `CutIntoTransfers` has how its bytes are cut, `BehindTheImage` what follows it, `StepsToFinish` how a record is
-- stepped to its finish, `ClosingSends`, `WholeSends` and `PartsSend` what a record has still to send, `AnyCut` that any cut gives the same
-- transfers, `OneCall` what one call takes of what is to be sent, `AnyCaller` that any caller sees the transfers of what was taken, `ImageInOrder`
-- that who hands over an image in order sees the image's, `AnyWholeCaller` the same of the whole upload, `CallsAnswered` that a caller can go on,
-- `ComesToTheFinish` by how many calls he comes to the finish.
-- Three of these callers: `ListsOfParts` has the driver, `PartsOfOneSize` and `LinkedWhole` the two uploads that C and Rust link, `CallsForParts`
-- how many calls the first of them takes, `DrivenToTheEnd` what they answer. `OldRecords` has how an upload without a check is read,
-- `NeverUnchecked` that none comes of a start, `UploadExamples` examples P3 to P8 of the rules, `EveryStep` what holds at every record.
-- A run of an upload: `UploadTransfers` has its control writes, `UploadSteps` how many steps it takes, `UploadRefusals` which refusals it can meet,
-- `TwoWritesAreOne` that two writes to an area are one, `UploadLands` what the upload leaves, `UploadKeeps` what it keeps, `UploadMakes` that the
-- device's record is one that calls from a fresh start can make, `UploadHandedBack` that the upload's is.
-- A run of an operation: `OperationSteps` has how many steps it takes, `SectorsLand` what it leaves of flash and data, `CallsByTurn` that a bulk
-- call is the table's turn, `CallsThatEnd` which calls end the transaction, `NoTransactionLeft` that none is left after a run, `NeverShort` that no
-- run ends in a short transfer, `BetweenRuns` what holds between one run and the next, `FromStatus`, `FromStart` and `FromData` how a run goes on
-- from there, `PassedOn` that a run ends in what the finish tells, `OperationEnds` what each operation ends in, `LinkedSectors` that an answer of 0
-- to C and Rust is a whole transfer, `OperationTold` what any may be told, `CommandsAreBytes` that its command goes out as bytes, `OperationMakes`
-- that the device's record is one that calls from a fresh start can make, `OperationAnswered` that every step and giving has an answer,
-- `OperationHandedBack` that the operation's record is such a one.
-- A head with NOR flash: `NorRuns` has what runs at it come to, `NorBits` that a byte gains no bit by a run that does not erase it. The first
-- variety: `AsBefore` has that its calls are those from before there was a second, `LinesAsBefore` that runs, decks and lines are. A run that ended
-- in 28: `CheckedRuns` has that it and the run that resumes it are one run, if its checks pass again, `OperationResumed` and `UploadResumed` that
-- they do, for the runs that are called. A deck: `BenchStart` has the flash that a bench starts with, `ByRequest` that what holds of operations and
-- uploads holds of blocks, `BetweenBlocks` what holds between one block and the next, `DeckRefusals` the refusals that the bench can meet,
-- `DeckNeverShort` that it meets no short transfer and that its lines are as they were, `BlockNumbers` each block's number and tag, `AnyChunks`
-- that any chunks give the lines of the whole, `DeckLines` where the lines end, `OutOfPlace` that a block at another place is told as 40,
-- `RecheckedDecks` what is written of a deck that is rechecked, `DealsAsBefore` that it then does what it did by its first checks, `ConvertedDecks`
-- a deck that is rechecked and then converted, `DeckMakes` that the device's record is one that calls from a fresh start can make.
pub mod CutIntoTransfers
pub mod BehindTheImage
pub mod StepsToFinish
pub mod ClosingSends
pub mod WholeSends
pub mod PartsSend
pub mod AnyCut
pub mod OneCall
pub mod AnyCaller
pub mod ImageInOrder
pub mod AnyWholeCaller
pub mod CallsAnswered
pub mod ComesToTheFinish
pub mod ListsOfParts
pub mod PartsOfOneSize
pub mod LinkedWhole
pub mod CallsForParts
pub mod DrivenToTheEnd
pub mod OldRecords
pub mod NeverUnchecked
pub mod UploadExamples
pub mod EveryStep
pub mod UploadTransfers
pub mod UploadSteps
pub mod UploadRefusals
pub mod TwoWritesAreOne
pub mod UploadLands
pub mod UploadKeeps
pub mod UploadMakes
pub mod UploadHandedBack
pub mod OperationSteps
pub mod SectorsLand
pub mod CallsByTurn
pub mod CallsThatEnd
pub mod NoTransactionLeft
pub mod NeverShort
pub mod BetweenRuns
pub mod FromStatus
pub mod PassedOn
pub mod FromStart
pub mod FromData
pub mod OperationEnds
pub mod NorRuns
pub mod NorBits
pub mod AsBefore
pub mod LinkedSectors
pub mod OperationTold
pub mod CommandsAreBytes
pub mod OperationMakes
pub mod OperationAnswered
pub mod OperationHandedBack
pub mod CheckedRuns
pub mod OperationResumed
pub mod UploadResumed
pub mod BenchStart
pub mod ByRequest
pub mod BetweenBlocks
pub mod DeckRefusals
pub mod DeckNeverShort
pub mod LinesAsBefore
pub mod BlockNumbers
pub mod AnyChunks
pub mod DeckLines
pub mod DeckMakes
pub mod OutOfPlace
pub mod RecheckedDecks
pub mod DealsAsBefore
pub mod ConvertedDecks

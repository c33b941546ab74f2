-- What the statements of the theorems speak of. `UploadBytes` is what goes over the wire, `PartDriver` what somebody sees who hands an image over
-- to the end, `OldRecords` uploads without a check, as old wire records have them, `AnyCaller` what any calls of a part-wise upload come to,
-- `DriveTrace` the transfers of the uploads that C and Rust link, `Runs` whole runs from their starts, `Told` what they may be told, `Standing` a
-- device between two runs, `Deck` a bench between two blocks, `Chunks` a deck dealt chunk by chunk, `Rechecks` one rechecked so, `ReadDeck` the
-- deck over any way of reading its blocks, `Resumed` two runs taken as one, `OnStandIns` an operation that only stand-ins have answered, `Before`
-- the stand-in from before there was a second variety, `BeforeDeck` the deck over any turn, `Kind12` what P5 to P8 say of the deck.
pub mod UploadBytes
pub mod PartDriver
pub mod OldRecords
pub mod AnyCaller
pub mod DriveTrace
pub mod Runs
pub mod Told
pub mod Standing
pub mod Deck
pub mod Before
pub mod BeforeDeck
pub mod Resumed
pub mod OnStandIns
pub mod Chunks
pub mod Rechecks
pub mod ReadDeck
pub mod Kind12

-- CRC-16/IBM-3740: `Check` is the definition, bit by bit; `Table` says what the table of a whole byte holds.
pub mod Check
pub mod Table

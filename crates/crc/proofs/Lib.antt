-- `Xor` has what the library's bits lack, `Linear` the linearity of the bit step, `Bytewise` the rule of the table, `Words` eight bytes as one
-- number, `Laws` what crates above cite, `OneToOne` that registers and bytes are told apart, `Wrong` programs that the contracts rule out.
pub mod Xor
pub mod Linear
pub mod Bytewise
pub mod Words
pub mod Laws
pub mod OneToOne
pub mod Wrong

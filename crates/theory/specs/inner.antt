-- Words that only proofs and the contracts of inner functions use. 01 does not have them, and nobody has to believe them.
pub mod Tree
pub mod Polynomial
pub mod Overwritten
pub mod Keep
pub mod Started
pub mod Join
pub mod Cut

-- Laws of maps.
mod Or
mod Adding
mod SetBit
mod Steps
mod Word
mod Bytes
mod Ones
mod Listed
pub mod Verdicts
mod Answers
pub mod Rivals
pub mod Examples

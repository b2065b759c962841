-- Laws of the numbers that several crates need.
pub mod Saturated
pub mod Words
pub mod Rules
pub mod Composite
pub mod Places
pub mod Totals
pub mod Range

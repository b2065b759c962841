-- General laws of numbers.
pub mod Power
pub mod Congruence
pub mod Integers
pub mod Reduction
pub mod Prime
pub mod Euclid
pub mod Inverse
pub mod Valuation

-- The words of the inner functions' contracts.
pub mod Outcomes
pub mod Places

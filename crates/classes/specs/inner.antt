-- The words of the inner functions' contracts.
pub mod Search
pub mod Usable

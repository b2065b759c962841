-- The words of the inner functions' contracts.
pub mod Usable

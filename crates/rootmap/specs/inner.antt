-- The words of the inner functions' contracts.
pub mod Bits
pub mod Word

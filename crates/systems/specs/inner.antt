-- The words of the inner functions' contracts. Nobody has to believe them.
pub mod Slots
pub mod Cutting

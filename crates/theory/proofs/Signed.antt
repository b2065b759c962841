-- Residues of least size: the numbers, the classes, and the list that shows `shortest` with them.
pub mod Centered
pub mod Classes
pub mod List
pub mod Entries
pub mod Demand
pub mod AddsUp
pub mod Join
pub mod Covered
pub mod Cut
pub mod Few
pub mod Raised

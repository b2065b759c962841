-- What the proofs of several functions use, and the theorems on systems.
mod Cutting
mod HeldSlots
mod Solving
pub mod Commons
pub mod Opening
mod Cuts
pub mod Holding
mod Fetching
mod Tags
mod Changing
pub mod Kept
pub mod Histories
pub mod Sets
pub mod CommonList
pub mod Withdrawal
pub mod Distinct
pub mod Examples

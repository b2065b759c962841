-- Laws of the crate's definitions.
pub mod Steps
pub mod Capped
pub mod Holds
pub mod Values
pub mod Answers
pub mod Rows
pub mod FirstLine
pub mod ReadBack
pub mod Placed
pub mod Input
pub mod Accepted
pub mod Longest
pub mod Places
pub mod Prefix
pub mod Enough
pub mod Front
pub mod Examples

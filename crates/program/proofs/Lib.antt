-- What the program prints, proved of the reader's, the solver's and the writer's contracts.
pub mod Lengths
pub mod Accepted
pub mod Solved
pub mod Read
pub mod Fits
pub mod Columns
pub mod Examples
pub mod Enough
pub mod Input

-- What the report prints, proved of the reader's, the solver's and the writer's contracts.
pub mod Runs
pub mod Outcomes
pub mod Whole
pub mod Totals
pub mod Counted
pub mod Columns
pub mod Examples
pub mod Written
pub mod Solved
pub mod Steps
pub mod Turns

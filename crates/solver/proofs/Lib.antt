-- Laws of the solver's inner definitions.
mod Tables
mod Lowest
mod Shift
mod Zeros
mod Marks
mod Linear
mod FiniteDifferences
mod Entries
mod Joining
mod Appended
mod Node
mod Most
mod Settling
mod Child
mod Counting
mod Added
mod ZeroCounts
mod Scanning
mod Top
mod Starting
mod Coefficients
mod Among
mod Verdicts
mod RaiseRules
pub mod RaiseAnswers
pub mod Examples
pub mod Testing
pub mod ManyPoints
pub mod Answered
pub mod Few
pub mod Fresh

-- The words of the inner functions' contracts. Nobody has to believe them: they stand between the code and `Solve`.
pub mod Table
pub mod Marks
pub mod Entry
pub mod Recursion
pub mod Reduced
pub mod UsablePolynomial
pub mod Points
pub mod Counts
pub mod Start
pub mod Raise

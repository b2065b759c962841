-- What the solver, the test of a residue, the counts and the raised list answer.
pub mod Solve
pub mod Points
pub mod Counts
pub mod Raise
pub mod inner

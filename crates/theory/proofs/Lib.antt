-- What is proved of the definitions. General laws first, then those of classes, polynomials, marks, live classes, maps, stepping, residues
-- of least size and simple roots.
pub mod Tests
pub mod Lists
pub mod Numbers
pub mod Range
pub mod Passing
pub mod Least
pub mod Sums
pub mod Counting
pub mod Classes
pub mod Polynomials
pub mod Mark
pub mod Live
pub mod Counts
pub mod RootMap
pub mod Stepping
pub mod ThirdDemand
pub mod Signed
pub mod Simple
pub mod SimpleIntegers
pub mod Examples

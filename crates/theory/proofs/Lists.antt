-- General laws of lists.
pub mod Names
pub mod Map
pub mod NoRepeat
pub mod Permutation
pub mod Pigeonhole
pub mod Index
pub mod Rising
pub mod Merge
pub mod Minimum
pub mod Fill
pub mod Overwritten
pub mod Keep

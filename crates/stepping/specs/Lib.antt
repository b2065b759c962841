-- 01's "Rival lists and stepping" over the contracts of the solver and of next.
pub mod Call
pub mod Demand
pub mod Encoded
pub mod inner

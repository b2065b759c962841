-- The refusals of 01's "When the solver declines".
pub mod Number
pub mod Rules

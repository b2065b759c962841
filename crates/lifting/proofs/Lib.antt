-- Hensel's lemma of the solver's answer.
pub mod Slots
pub mod Lifting
pub mod Examples

-- Simple roots lift in one way (02, 2.14), over the solver's contract.
pub mod Lifting
pub mod Examples

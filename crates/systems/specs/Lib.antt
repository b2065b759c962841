-- Systems of congruences that come and go (02, 2.6).
pub mod Model
pub mod Calls
pub mod State
pub mod History
pub mod Examples
pub mod inner

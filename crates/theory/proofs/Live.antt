-- Laws of live classes (02, 2.8).
pub mod Digits
pub mod Carried
pub mod Bound
pub mod Classes

-- Laws of columns.
pub mod Digits
pub mod Length

-- What the operations answer to C.
pub mod Answers
pub mod Row

-- What a column of the text holds for a number.
pub mod Column

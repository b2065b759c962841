-- Laws of columns, places and lines.
pub mod Columns
pub mod Laid
pub mod Line
pub mod Answers
pub mod ClassLines
pub mod Listing
pub mod RowLine
pub mod Checked
pub mod Fits
pub mod Examples

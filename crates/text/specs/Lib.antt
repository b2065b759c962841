-- How the text reads.
pub mod Reading
pub mod Text
pub mod Form
pub mod Input
pub mod inner

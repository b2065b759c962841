-- What the writer puts into the text.
pub mod Output
pub mod Written
pub mod Fits
pub mod inner

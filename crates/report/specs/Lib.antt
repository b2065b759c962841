-- What the report is.
pub mod Report
pub mod Run
pub mod Fits
pub mod inner

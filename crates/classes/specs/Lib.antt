-- Lent class lists: rules 6 and 7, what they leave, and next.
pub mod Rule7
pub mod Checked
pub mod Next
pub mod inner

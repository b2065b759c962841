-- Laws of class lists.
pub mod Entries
pub mod Sharing
pub mod Usables
pub mod Searching
pub mod Looking
pub mod Faults
pub mod Checks
pub mod MarkedChecks
pub mod ListAccepted
pub mod NextMember
pub mod NextAnswers
pub mod Examples

-- Laws of the rules.
pub mod Rules
pub mod Places

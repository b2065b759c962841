-- p, n and pⁿ.
pub mod Saturated
pub mod Modulus
pub mod inner

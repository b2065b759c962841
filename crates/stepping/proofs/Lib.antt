-- The third demand over solver and next together.
pub mod Accept
pub mod Answers
pub mod Demand
pub mod Maps

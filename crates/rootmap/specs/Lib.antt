-- What the map and its count answer.
pub mod Map
pub mod inner

-- The library's membership and permutation of lists, under shorter names.
pub use mathlib.Core.List.Memᴰ.{head as here}
pub use mathlib.Core.List.Memᴰ.{tail as there}
pub use mathlib.Core.List.{Memᴰ as In}
pub use mathlib.Core.List.{Permᴰ as Permutation}

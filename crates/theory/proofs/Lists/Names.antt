-- The library's laws of membership and permutation, under shorter names.
pub use mathlib.Core.List.Memᴰ.{cases_cons as in-cons}
pub use mathlib.Core.List.Memᴰ.{cast as in-cast}
pub use mathlib.Core.List.Memᴰ.{not-nil as in-nil}
pub use mathlib.Core.List.Memᴰ.{append_cases as in-append}
pub use mathlib.Core.List.Memᴰ.{append_left as in_left}
pub use mathlib.Core.List.Memᴰ.{append_right as in_right}
pub use mathlib.Core.List.Memᴰ.{eq_of_singleton as in-single}
pub use mathlib.Core.List.Permᴰ.{cons as same_head}
pub use mathlib.Core.List.Permᴰ.{nil as same-nil}
pub use mathlib.Core.List.Permᴰ.{swap as swapped}
pub use mathlib.Core.List.Permᴰ.{refl as perm-refl}
pub use mathlib.Core.List.Permᴰ.{symm as perm-sym}
pub use mathlib.Core.List.Permᴰ.{trans as perm-trans}
pub use mathlib.Core.List.Permᴰ.{append-nil as perm-append-nil}

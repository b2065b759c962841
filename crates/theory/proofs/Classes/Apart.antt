-- Lists of classes that share no member.
use mathlib.Core.List.{List}
use Prim.Native.Nat.{ℕ}
use Rattle.theory.specs.Lists.{In}
use Rattle.theory.specs.Class.{Class, IsClass}
use Rattle.theory.proofs.Lists.NoRepeat.{NoRepeat}
use Rattle.theory.proofs.Classes.Sum.{Disjoint}

pub record Apart (p n : ℕ) (L : List Class) : Type 0 where
  pub classes : (c : Class) → In c L → IsClass p n c
  pub no_repeat : NoRepeat L
  pub disjoint : Disjoint p n L

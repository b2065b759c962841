-- Opening: the system that holds nothing, and the system of zeros.
use Rattle.std.proofs.Common.{◌≡◌, [], ℕ, pos, replicate, Ok, Err, refl}
use Rattle.refusal.specs.declared.Refusal.{Refusal}
use Rattle.refusal.specs.Rules.{Verdict, passes, refuses}
use Rattle.numbers.specs.Modulus.{modulus_of}
use Rattle.numbers.proofs.Rules.{usable, modulus-refuses}
use Rattle.systems.specs.declared.Common.{Common}
use Rattle.systems.specs.declared.System.{System}
use Rattle.systems.specs.Model.{model}
use Rattle.systems.specs.Calls.{open_verdict}
use Rattle.systems.specs.State.{blank, system_of, opened_into, opened_of}
use Rattle.systems.proofs.Commons.{none_common}

-- a system that holds nothing, with this list
abbrev pub empty : ℕ → ℕ → Common → System
empty p n common = record { p = p; n = n; count = 0; held = replicate 16 blank; common = common }

abbrev pub everything : ℕ → Common
everything roots = record { classes = 1; roots = roots; residues = replicate 1024 (pos 0); levels = replicate 1024 0 }

module _ (p n : ℕ) where
  pub opened-accepted : (m : ℕ) → modulus_of p n ≡ Ok m → Ok (empty p n (everything m)) ≡ opened_of p n
  unfolding opened_of open_verdict system_of
  opened-accepted m e = let U = usable p n m e in rw (U.accepted, U.power, none_common p n U.prime.two)

  pub opened-refused : (r : Refusal) → modulus_of p n ≡ Err r → Err r ≡ opened_of p n
  unfolding opened_of open_verdict
  opened-refused r e = rw (modulus-refuses p n r e)

  -- a lent system into which another is opened: the new one, or itself
  pub opened-done : (s new : System) → opened_of p n ≡ Ok new → opened_into p n s ≡ new
  unfolding opened_of opened_into
  opened-done s new e = go (open_verdict p n) refl
    where
      go : (v : Verdict) → open_verdict p n ≡ v → opened_into p n s ≡ new
      go passes q = let f : Ok (system_of (model p n [])) ≡ Ok new = rw q at e in rw q (cc)
      go (refuses r) q = let f : Err r ≡ Ok new = rw q at e in cc

  pub opened-kept : (s : System) (r : Refusal) → opened_of p n ≡ Err r → opened_into p n s ≡ s
  unfolding opened_of opened_into
  opened-kept s r e = go (open_verdict p n) refl
    where
      go : (v : Verdict) → open_verdict p n ≡ v → opened_into p n s ≡ s
      go passes q = let f : Ok (system_of (model p n [])) ≡ Err r = rw q at e in cc
      go (refuses u) q = rw q

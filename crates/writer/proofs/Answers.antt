-- The writer's answers, from what its tests showed.
use Rattle.std.specs.Prelude.{Ok, Err}
use mathlib.Core.Path.{◌≡◌, refl}
use mathlib.Core.List.{List, ◌++◌}
use Prim.Native.Nat.{ℕ, ◌≤◌, ◌<◌}
use borrow.Author.Tests.{lt-ltb, le-ltb}
use lib.ListN.{length, drop}
use Rattle.refusal.specs.declared.Refusal.{Refusal}
use Rattle.refusal.specs.declared.Refusal.TheVariants.{BufferTooSmall}
use Rattle.refusal.specs.Rules.{Verdict, passes, refuses, filled, value_or}
use Rattle.writer.specs.Written.{refusal_verdict, refusal_written_of}

-- a verdict that refuses, and one that passes
pub refused-answer : (v : Verdict) (r : Refusal) (bytes : ℕ) → v ≡ refuses r → Err r ≡ value_or v bytes
refused-answer v r bytes e = rw e

pub refused-text : (v : Verdict) (r : Refusal) (new old : List ℕ) → v ≡ refuses r → old ≡ filled v new old
refused-text v r new old e = rw e

pub passed-answer : (v : Verdict) (bytes : ℕ) → v ≡ passes → Ok bytes ≡ value_or v bytes
passed-answer v bytes e = rw e

pub passed-text : (v : Verdict) (new old : List ℕ) → v ≡ passes → new ++ drop (length new) old ≡ filled v new old
passed-text v new old e = rw e

-- the line of a refusal
pub refusal-short : (bytes : ℕ) → bytes < 23 → refusal_verdict bytes ≡ refuses (BufferTooSmall 23)
unfolding refusal_verdict
refusal-short bytes h = rw (lt-ltb bytes 23 h)

pub refusal-fits : (bytes : ℕ) → 23 ≤ bytes → refusal_verdict bytes ≡ passes
unfolding refusal_verdict
refusal-fits bytes h = rw (le-ltb bytes 23 h)

pub refusal-answer : (bytes : ℕ) → value_or (refusal_verdict bytes) 23 ≡ refusal_written_of bytes
unfolding refusal_written_of
refusal-answer bytes = refl

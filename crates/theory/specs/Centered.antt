-- Residues of least size (02, 2.7), also called centered residues: "the whole number congruent to a modulo p^t with −p^t < 2a ≤ p^t".
use Rattle.std.specs.Prelude.{Bool, true, false, ◌&&◌, ℕ, ◌*◌, leb, ℤ, pos, neg_ℤ, ◌*ℤ◌}
use Rattle.std.proofs.Math.IntN.{sub_ℕ}
use Rattle.std.specs.Int.Signed.{lt_z, le_z}

-- "−p^t < 2a ≤ p^t", with q for p^t
unfoldable pub is_centered : ℕ → ℤ → Bool
is_centered q a = lt_z (neg_ℤ (pos q)) (pos 2 *ℤ a) && le_z (pos 2 *ℤ a) (pos q)

-- the number of this range that is congruent to a modulo q, for an a below q: a, or a − q. The way back is `reduce q`
unfoldable pub centered : ℕ → ℕ → ℤ
centered q a = elim (leb (2 * a) q) [ true ↦ pos a | false ↦ sub_ℕ a q ]

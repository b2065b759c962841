-- The Taylor shift: the coefficients of f(a + q·y), a polynomial in y.
use Rattle.std.specs.Prelude.{List, [], ◌∷◌, ℕ, ◌+◌, ◌*◌}

-- f + g
unfoldable pub plus : List ℕ → List ℕ → List ℕ
plus [] g = g
plus (a ∷ f) [] = a ∷ f
plus (a ∷ f) (b ∷ g) = (a + b) ∷ plus f g

-- c·f
unfoldable pub scale : ℕ → List ℕ → List ℕ
scale c [] = []
scale c (a ∷ f) = (c * a) ∷ scale c f

-- f(q·y)
unfoldable pub stretch : ℕ → List ℕ → List ℕ
unfolding scale
stretch q [] = []
stretch q (a ∷ f) = a ∷ scale q (stretch q f)

-- f(c + y), by Horner's rule: a + (c + y)·f(c + y) for each coefficient a
unfoldable pub taylor : ℕ → List ℕ → List ℕ
unfolding plus scale
taylor c [] = []
taylor c (a ∷ f) = let g = taylor c f in plus (a ∷ g) (scale c g)

-- the Taylor shift f(a + q·y)
abbrev pub shifted : ℕ → ℕ → List ℕ → List ℕ
shifted a q f = stretch q (taylor a f)

-- What a program does that reads a text in pieces and writes a line for each record at the front of the bytes that it has not used yet.
-- `outcome s w` is what stands at the front of w in the state s, and `ending s w` what the end of the text gives where w is left.
use Rattle.std.specs.Prelude.{◌≡◌, List, [], ◌∷◌, ◌++◌, ℕ, drop}

-- a record of so many bytes with its line and the next state; a line that ends the report; or too few bytes to tell
pub data Outcome (S : Type 0) : Type 0 where
  next : S → (line : List ℕ) → (bytes : ℕ) → Outcome S
  stop : (line : List ℕ) → Outcome S
  wait : Outcome S

-- the pieces one after another
unfoldable pub joined : List (List ℕ) → List ℕ
joined [] = []
joined (piece ∷ pieces) = piece ++ joined pieces

module _ {S : Type 0} (outcome : S → List ℕ → Outcome S) (ending : S → List ℕ → List ℕ) where
  -- in the state s, with the bytes w read and not yet used, and the pieces to come from later reads, the program writes `out`
  pub data Run : S → List ℕ → (pieces : List (List ℕ)) → (out : List ℕ) → Type 0 where
    -- it writes a record's line, and goes on after the record
    line : (s s' : S) (w l : List ℕ) (n : ℕ) (pieces : List (List ℕ)) (out : List ℕ) → outcome s w ≡ next s' l n
        → Run s' (drop n w) pieces out → Run s w pieces (l ++ out)
    -- it writes the line that ends the report
    stopped : (s : S) (w l : List ℕ) (pieces : List (List ℕ)) → outcome s w ≡ stop l → Run s w pieces l
    -- it reads a piece
    more : (s : S) (w piece : List ℕ) (pieces : List (List ℕ)) (out : List ℕ) → outcome s w ≡ wait → Run s (w ++ piece) pieces out
        → Run s w (piece ∷ pieces) out
    -- the text ends
    ended : (s : S) (w : List ℕ) → outcome s w ≡ wait → Run s w [] (ending s w)

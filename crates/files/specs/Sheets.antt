-- Texts put down one after another over lent bytes.
use Rattle.std.specs.Prelude.{ℕ, zero, suc, ◌+◌, min, List, [], ◌∷◌, ◌++◌, length, drop}
use Rattle.networks.specs.Limits.{most_counted}

-- bytes with a text over them from a place on, as far as they reach
abbrev pub over : List ℕ → ℕ → List ℕ → List ℕ
over [] at text = []
over (b ∷ bytes) zero [] = b ∷ bytes
over (b ∷ bytes) zero (x ∷ text) = x ∷ over bytes zero text
over (b ∷ bytes) (suc at) text = b ∷ over bytes at text

-- the bytes, and how far the texts so far go, past the end of the bytes too
pub record Sheet : Type 0 where
  pub bytes : List ℕ
  pub count : ℕ

-- one text more
unfoldable pub inked : List ℕ → Sheet → Sheet
inked text s = record { bytes = over s.bytes s.count text; count = min (s.count + length text) most_counted }

-- a text in the first of the bytes, and those past it as they were
abbrev pub written : List ℕ → List ℕ → List ℕ
written text bytes = text ++ drop (length text) bytes

-- A short text in an array of bytes: the text, and zeros after it.
use Rattle.std.specs.Prelude.{◌≡◌, ℕ, ◌-◌, ◌≤◌, List, ◌++◌, length, take, replicate, IsUtf8}
use Rattle.std.proofs.Common.{sym, arith}
use Rattle.std.proofs.lemmas.List.{length-take-le}

-- the bytes hold a UTF-8 text of a length, and zeros after it
pub record IsPadded (size : ℕ) (bytes : List ℕ) (len : ℕ) : Type 0 where
  pub long : length bytes ≡ size
  pub fits : len ≤ size
  pub padded : bytes ≡ take len bytes ++ replicate (size - len) 0
  pub text : IsUtf8 (take len bytes)

-- a text is as long as it says
pub length-text : (size : ℕ) (bytes : List ℕ) (len : ℕ) → IsPadded size bytes len →
    length (take len bytes) ≡ len
length-text size bytes len h = length-take-le len bytes (omega (arith, h.long))

-- the bytes are the text and zeros
pub padded-text : (size : ℕ) (bytes : List ℕ) (len : ℕ) → IsPadded size bytes len →
    take len bytes ++ replicate (size - length (take len bytes)) 0 ≡ bytes
padded-text size bytes len h = rw (length-text size bytes len h) (sym h.padded)

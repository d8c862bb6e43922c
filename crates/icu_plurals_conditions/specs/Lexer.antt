-- What the lexer finds at the front of a text.
use Rattle.std.specs.Prelude.{◌≡◌, ℕ, ◌+◌, ◌<◌, ◌≤◌, List, [], ◌∷◌, Bool, false, ◌==◌, ◌&&◌, length, drop, Option, Some}
use Rattle.std.specs.Prelude.{None}
use Rattle.icu_plurals_conditions.specs.declared.lexer.Found.{Found}
use Rattle.icu_plurals_conditions.specs.declared.lexer.Front.{Front}
use Rattle.icu_plurals_conditions.specs.Tokens.{tokens_from}

-- the text begins with these two bytes
abbrev pub has_front : ℕ → ℕ → List ℕ → Bool
has_front first second [] = false
has_front first second (b ∷ []) = false
has_front first second (b ∷ c ∷ bs) = b == first && c == second

-- wherever the text stands, its first token is this one at its first byte, and the others follow
pub record IsFront (text : List ℕ) (f : Front) : Type 0 where
  pub tokens : (at : ℕ) → tokens_from at text ≡ (at, f.token) ∷ tokens_from (at + f.len) (drop f.len text)
  pub begun : 0 < f.len
  pub within : f.len ≤ length text

-- wherever the text stands, its first token is this one at its place, and the others follow
pub record IsFound (text : List ℕ) (f : Found) : Type 0 where
  pub tokens : (at : ℕ) → tokens_from at text ≡ (at + f.start, f.token) ∷ tokens_from (at + f.end) (drop f.end text)
  pub begun : f.start < f.end
  pub within : f.end ≤ length text

-- the first token of the text, or none if it has no token
abbrev pub IsFirstToken : List ℕ → Option Found → Type 0
IsFirstToken text None = (at : ℕ) → tokens_from at text ≡ []
IsFirstToken text (Some f) = IsFound text f

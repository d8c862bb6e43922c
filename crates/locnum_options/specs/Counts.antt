-- Counts of digits, each at most 999: `N`, or `MIN..MAX`.
use Rattle.std.specs.Prelude.{ℕ, ◌==◌, nat_le, List, [], ◌∷◌, Option, Some, None, if◌then◌else◌}
use Rattle.locnum_options.specs.Texts.{◌>>=◌, cut_at, number_named}
use Rattle.locnum_options.specs.declared.counts.Counts.{Counts}

-- a number of digits
unfoldable pub count_named : List ℕ → Option ℕ
count_named text = do
  number ← number_named text
  if nat_le number 999 then Some number else None

-- what stands behind a dot
unfoldable pub behind_dot : List ℕ → Option (List ℕ)
behind_dot [] = None
behind_dot (byte ∷ bytes) = if byte == 46 then Some bytes else None

-- the counts between two numbers of digits
unfoldable pub counts_between : List ℕ → List ℕ → Option Counts
counts_between least behind = do
  least ← count_named least
  most ← behind_dot behind
  most ← count_named most
  if nat_le least most then Some (record { least = least; most = most }) else None

-- the counts of a text that is cut at its first dot, if it has one
abbrev pub counts_at_dot : List ℕ → Option (List ℕ × List ℕ) → Option Counts
counts_at_dot text None = do
  count ← count_named text
  Some (record { least = count; most = count })
counts_at_dot text (Some (least, behind)) = counts_between least behind

-- the counts of a text
unfoldable pub counts_named : List ℕ → Option Counts
counts_named text = counts_at_dot text (cut_at 46 text)

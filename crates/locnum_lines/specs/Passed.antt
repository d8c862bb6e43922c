-- What goes through of a line as it is.
use Rattle.std.specs.Prelude.{◌≡◌, ℕ, ◌+◌, ◌<◌, List, ◌++◌, length, take, drop, Option, Some, None}
use Rattle.locnum_lines.specs.Gathered.{GatheredData}

-- all of a line, which has that many bytes; or that many of them and the one behind these, in front of the rest
abbrev pub IsPassed : GatheredData → GatheredData → List ℕ → ℕ → Option (List ℕ) → Type 0
IsPassed old new line n None = (new ≡ record old { output = old.output ++ line }) × (n ≡ length line)
IsPassed old new line n (Some rest) =
    (new ≡ record old { output = old.output ++ take (n + 1) line }) × (n < length line) × (rest ≡ drop (n + 1) line)

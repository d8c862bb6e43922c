use Rattle.std.proofs.Common.{◌≡◌, drop}
use Rattle.icu_ranges_readable.specs.Characters.{has}
use Rattle.icu_ranges_readable.proofs.characters.is_among.Given as goal

-- what is left has the answer
abbrev pub invariant-loop-found : goal.invariant-loop-found
invariant-loop-found l = has l.character (drop l.found-index l.characters) ≡ has l.character l.characters

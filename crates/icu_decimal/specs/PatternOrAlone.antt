-- The pattern that a formatted number holds, if any.
use Rattle.std.specs.Prelude.{Option}
use Rattle.std.specs.Option.{option_map, unwrap_or}
use Rattle.icu_pattern.specs.Patterns.{PatternText, placeholder_alone}
use Rattle.icu_pattern.specs.Refs.{text_of_ref}
use Rattle.icu_pattern.specs.declared.pattern.PatternRef.{PatternRef}

-- the pattern, or without one that of the number alone
abbrev pub pattern_or_alone : {P : Type 0} {backend equality : _} → Option (PatternRef P backend equality) → PatternText
pattern_or_alone pattern = unwrap_or (option_map text_of_ref pattern) placeholder_alone

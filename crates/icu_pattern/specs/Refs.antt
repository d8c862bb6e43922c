-- The pattern that a `PatternRef` borrows, for the clauses of its calls.
use Rattle.icu_pattern.specs.declared.pattern.PatternRef.{PatternRef}
use Rattle.icu_pattern.specs.Patterns.{PatternText}

-- the pattern that is borrowed
abbrev pub text_of_ref : {P : Type 0} {backend equality : _} → PatternRef P backend equality → PatternText
text_of_ref r = record { placeholder = r.placeholder; literal = r.literal.now }

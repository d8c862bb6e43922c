-- The result of a check of bytes, against the definition of reading them.
use Rattle.std.specs.Prelude.{◌≡◌, ℕ, Result, Ok, Err}
use Rattle.icu_decimal_symbols.specs.declared.error.Damaged.{Damaged}

-- the same number, or the same damaged byte
abbrev pub GivesNumber : Result ℕ Damaged → Result ℕ ℕ → Type 0
GivesNumber (Ok n) read = read ≡ Ok n
GivesNumber (Err e) read = read ≡ Err e.byte

-- some number, or the same damaged byte
abbrev pub Passes : Result (Unit {0}) Damaged → Result ℕ ℕ → Type 0
Passes (Ok u) read = (n : ℕ) × (read ≡ Ok n)
Passes (Err e) read = read ≡ Err e.byte

-- How many digits a number has before its fraction digits at least.
use Rattle.std.specs.Prelude.{ℕ, ◌==◌, List, Option, Some, None, Result, Ok, Err, if◌then◌else◌}
use Rattle.locnum_options.specs.Counts.{count_named}
use Rattle.locnum_options.specs.Kinds.{◌>>=◌}
use Rattle.locnum_options.specs.Words.{ok_or}
use Rattle.locnum_options.specs.declared.fault.OptionFault.{OptionFault}
use Rattle.locnum_options.specs.declared.fault.OptionFault.TheVariants as fault

-- a count of digits from 1 on
unfoldable pub integer_named : List ℕ → Result ℕ OptionFault
integer_named text = do
  count ← ok_or (count_named text) fault.Integer
  if count == 0 then Err fault.Integer else Ok count

-- how many digits there are at least; one by default
unfoldable pub integer_given : Option (List ℕ) → Result ℕ OptionFault
integer_given None = Ok 1
integer_given (Some text) = integer_named text

-- Why a form writes nothing, by why a formatter writes nothing.
use Rattle.std.specs.Prelude.{Result, Ok, Err}
use Rattle.icu_decimal.specs.declared.error.FormatError.{FormatError}
use Rattle.icu_decimal.specs.declared.error.FormatError.TheVariants as format
use Rattle.decimal_lines.specs.declared.single_text.TextError.{TextError}
use Rattle.decimal_lines.specs.declared.single_text.TextError.TheVariants.{OutOfMemory, Overflow}

-- success, or the reason; a writer that fails counts as out of memory
abbrev pub written_or : Result (Unit {0}) FormatError → Result (Unit {0}) TextError
written_or (Ok x) = Ok x
written_or (Err format.Overflow) = Err Overflow
written_or (Err format.OutOfMemory) = Err OutOfMemory
written_or (Err format.Sink) = Err OutOfMemory

-- What is explained, if explanations are asked for.
use Rattle.std.specs.Prelude.{Bool, codes, ◌||◌, Result, Ok, Err, if◌then◌else◌}
use Rattle.locnum_options.specs.Given.{flag_of}
use Rattle.locnum_options.specs.declared.explained.Explain.{Explain}
use Rattle.locnum_options.specs.declared.explained.Explain.TheVariants.{Nothing, Lines, Fields}
use Rattle.locnum_options.specs.declared.given.Given.{Given}
use Rattle.locnum_options.specs.declared.fault.OptionFault.{OptionFault}
use Rattle.locnum_options.specs.declared.fault.OptionFault.TheVariants as fault

-- an option is given that says how lines are cut
unfoldable pub is_lined : Given → Bool
is_lined given =
    flag_of given (codes "csv") || flag_of given (codes "delimiter") || flag_of given (codes "field") || flag_of given (codes "header")
    || flag_of given (codes "zero-terminated")

-- the fields of lines where such an option is given, else whole lines; explanations have no padding
unfoldable pub explain_given : Given → Result Explain OptionFault
explain_given given =
    if flag_of given (codes "explain")
    then (if flag_of given (codes "padding") then Err fault.Explained else (if is_lined given then Ok Fields else Ok Lines))
    else Ok Nothing

-- Options that don't stand beside a skeleton.
use Rattle.std.specs.Prelude.{ℕ, List, [], ◌∷◌, Option, Some, None, codes, if◌then◌else◌}
use Rattle.locnum_options.specs.Given.{flag_of}
use Rattle.locnum_options.specs.declared.beside.NumberOption.{NumberOption}
use Rattle.locnum_options.specs.declared.beside.NumberOption.TheVariants as option
use Rattle.locnum_options.specs.declared.given.Given.{Given}

-- the name of an option, without the two dashes
abbrev pub name_of : NumberOption → List ℕ
name_of option.Style = codes "style"
name_of option.Currency = codes "currency"
name_of option.Percent = codes "percent"
name_of option.Permille = codes "permille"
name_of option.Unit = codes "unit"
name_of option.Width = codes "width"
name_of option.Accounting = codes "accounting"
name_of option.Cash = codes "cash"
name_of option.Fraction = codes "fraction"
name_of option.Significant = codes "significant"
name_of option.Increment = codes "increment"
name_of option.Round = codes "round"
name_of option.Integer = codes "integer"
name_of option.Scale = codes "scale"
name_of option.Grouping = codes "grouping"
name_of option.Sign = codes "sign"
name_of option.System = codes "system"

-- the first of some options that is given
unfoldable pub first_given : Given → List NumberOption → Option NumberOption
first_given given [] = None
first_given given (option ∷ options) = if flag_of given (name_of option) then Some option else first_given given options

-- the options that say of numbers what a skeleton says, too
abbrev pub number_options : List NumberOption
number_options =
    option.Style ∷ option.Currency ∷ option.Percent ∷ option.Permille ∷ option.Unit ∷ option.Width ∷ option.Accounting ∷ option.Cash ∷
    option.Fraction ∷ option.Significant ∷ option.Increment ∷ option.Round ∷ option.Integer ∷ option.Scale ∷ option.Grouping ∷ option.Sign ∷
    option.System ∷ []

-- the first of them that is given
unfoldable pub option_beside : Given → Option NumberOption
option_beside given = first_given given number_options

-- A value that is borrowed or owned.
use Rattle.icu_decimal.specs.declared.cow.Cow.{Cow}
use Rattle.icu_decimal.specs.declared.cow.Cow.TheVariants.{Borrowed, Owned}

-- the value, wherever it is
abbrev pub value_of : {T : Type 0} → Cow T → T
value_of (Borrowed value) = value.now
value_of (Owned value) = value

-- The arm of a number goes by the category of what is shown.
use Rattle.std.specs.Prelude.{◌≡◌, ℕ, Bool, false, List}
use Rattle.icu_plurals.specs.Rules.{Rule, category_of}
use Rattle.icu_decimal_interface.specs.Shown.{Shown, operands_shown}
use Rattle.icu_message.specs.Names.{category_name}
use Rattle.icu_message.specs.Numbers.{Number, exact_key}
use Rattle.icu_message.specs.Writing.{key_or_other, key_for_number}

-- numbers with the operands of what is shown pick the arm of its category, or else `other`, where no arm has their key `=`
abbrev pub GoesByWhatIsShown : Shown → Type 0
GoesByWhatIsShown s = (n : Number) (rules : List Rule) (has : List ℕ → Bool) → n.operands ≡ operands_shown s → has (exact_key n.whole) ≡ false
    → key_for_number has rules n ≡ key_or_other has (category_name (category_of rules (operands_shown s)))

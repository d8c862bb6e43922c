-- What is written of numbers: a style, money, percents or a unit.
use Rattle.std.specs.Prelude.{ℕ, Bool, true, false, not, ◌&&◌, ◌||◌, List, Option, Some, None, Result, Ok, Err, codes, nat_eq}
use Rattle.std.specs.Prelude.{if◌then◌else◌}
use Rattle.std.specs.Borrow.{Bor}
use Rattle.std.specs.Cmp.Lexicographic.{pointwise}
use Rattle.icu_dimension.specs.declared.options.CurrencySign.{CurrencySign}
use Rattle.icu_dimension.specs.declared.options.CurrencySign.TheVariants.{Standard, Accounting}
use Rattle.icu_dimension.specs.declared.options.Width.{Width}
use Rattle.icu_dimension.specs.declared.options.Width.TheVariants as width
use Rattle.icu_dimension_data.specs.Currency.{is_currency_code}
use Rattle.number_formatters.specs.declared.settings.Kind.{Kind}
use Rattle.number_formatters.specs.declared.settings.Kind.TheVariants.{Plain, Short, Long, Money, MoneyNamed, MoneyShort, Percent, Permille, Unit}
use Rattle.number_formatters.specs.declared.settings.UnitName.TheVariants as named
use Rattle.number_formatters.specs.declared.settings.UnitWidth.{UnitWidth}
use Rattle.number_formatters.specs.declared.settings.UnitWidth.TheVariants as unit
use Rattle.skeleton_settings.specs.declared.settings.Notation.{Notation}
use Rattle.skeleton_settings.specs.declared.settings.Notation.TheVariants.{Simple, CompactShort, CompactLong}
use Rattle.locnum_options.specs.Given.{flag_of, look_up, text_of}
use Rattle.locnum_options.specs.declared.given.Given.{Given}
use Rattle.locnum_options.specs.declared.fault.OptionFault.{OptionFault}
use Rattle.locnum_options.specs.declared.fault.OptionFault.TheVariants as fault

-- goes on with what was found, unless there was a fault
infixl 10 ◌>>=◌
abbrev pub ◌>>=◌ : {A B : Type 0} → Result A OptionFault → (A → Result B OptionFault) → Result B OptionFault
(Ok x) >>= f = f x
(Err fault) >>= f = Err fault

-- whether numbers are shortened, and by which patterns; in full by default
unfoldable pub notation_given : Option (List ℕ) → Result Notation OptionFault
notation_given None = Ok Simple
notation_given (Some word) =
    if pointwise nat_eq word (codes "plain") then Ok Simple
    else if pointwise nat_eq word (codes "short") then Ok CompactShort
    else if pointwise nat_eq word (codes "long") then Ok CompactLong
    else Err fault.Style

-- numbers alone
abbrev pub numbers_with : Notation → Kind
numbers_with Simple = Plain
numbers_with CompactShort = Short
numbers_with CompactLong = Long

-- percents: in full in the pattern of percents, else with the unit of percents
abbrev pub percents_with : Notation → Kind
percents_with Simple = Percent
percents_with CompactShort = Unit named.Percent unit.Short CompactShort
percents_with CompactLong = Unit named.Percent unit.Short CompactLong

-- permilles: in full in the pattern of percents with the per mille sign, else with the unit of permilles
abbrev pub permilles_with : Notation → Kind
permilles_with Simple = Permille
permilles_with CompactShort = Unit named.Permille unit.Short CompactShort
permilles_with CompactLong = Unit named.Permille unit.Short CompactLong

-- what stands for the symbol of a currency; the short one by default
unfoldable pub money_width : Option (List ℕ) → Result Width OptionFault
money_width None = Ok width.Short
money_width (Some word) =
    if pointwise nat_eq word (codes "short") then Ok width.Short
    else if pointwise nat_eq word (codes "narrow") then Ok width.Narrow
    else if pointwise nat_eq word (codes "code") then Ok width.IsoCode
    else if pointwise nat_eq word (codes "hidden") then Ok width.Hidden
    else Err fault.Width

-- which patterns write a unit; the short ones by default
unfoldable pub unit_width : Option (List ℕ) → Result UnitWidth OptionFault
unit_width None = Ok unit.Short
unit_width (Some word) =
    if pointwise nat_eq word (codes "long") then Ok unit.Long
    else if pointwise nat_eq word (codes "short") then Ok unit.Short
    else if pointwise nat_eq word (codes "narrow") then Ok unit.Narrow
    else Err fault.Width

-- the code of a currency
unfoldable pub currency_named : List ℕ → Result (List ℕ) OptionFault
currency_named text = if is_currency_code text then Ok text else Err fault.Currency

-- which pattern writes a sign
unfoldable pub sign_of : Bool → CurrencySign
sign_of accounting = if accounting then Accounting else Standard

-- whether numbers are in full
abbrev pub is_simple : Notation → Bool
is_simple Simple = true
is_simple CompactShort = false
is_simple CompactLong = false

-- compact amounts of money with a symbol, which have no digits of cash
abbrev pub compact_with : List ℕ → Width → CurrencySign → Bool → Result Kind OptionFault
compact_with code width sign is_cash = if is_cash then Err fault.CompactCash else Ok (MoneyShort code width sign)

-- amounts of money with a symbol, in full or compact; there are no long compact ones, so the short ones stand for them
unfoldable pub money_with : Notation → List ℕ → Width → Given → Result Kind OptionFault
money_with Simple code width given = Ok (Money code width (sign_of (flag_of given (codes "accounting"))) (flag_of given (codes "cash")))
money_with CompactShort code width given =
    compact_with code width (sign_of (flag_of given (codes "accounting"))) (flag_of given (codes "cash"))
money_with CompactLong code width given =
    compact_with code width (sign_of (flag_of given (codes "accounting"))) (flag_of given (codes "cash"))

-- amounts of money with the symbol of the currency
unfoldable pub money_given : List ℕ → Notation → Given → Result Kind OptionFault
money_given text notation given = do
  code ← currency_named text
  width ← money_width (text_of given (codes "width"))
  money_with notation code width given

-- the names of currencies are asked for
unfoldable pub is_name : Option (List ℕ) → Bool
is_name None = false
is_name (Some word) = pointwise nat_eq word (codes "name")

-- amounts of money with the name of the currency, for which there is no accounting pattern; compact ones have no digits of cash
unfoldable pub named_given : List ℕ → Notation → Given → Result Kind OptionFault
named_given text notation given = do
  code ← currency_named text
  if flag_of given (codes "accounting") then Err fault.Accounting
      else if flag_of given (codes "cash") && not (is_simple notation) then Err fault.CompactCash
      else Ok (MoneyNamed code (flag_of given (codes "cash")) notation)

-- amounts of a currency, with its name or its symbol
unfoldable pub currency_given : List ℕ → Notation → Given → Result Kind OptionFault
currency_given text notation given =
    if is_name (text_of given (codes "width")) then named_given text notation given else money_given text notation given

-- numbers with a unit
unfoldable pub unit_given : Bor (List ℕ) → Notation → Given → Result Kind OptionFault
unit_given name notation given = do
  width ← unit_width (text_of given (codes "width"))
  Ok (Unit (named.Named name) width notation)

-- percents or permilles are asked for beside money, units, or each other
unfoldable pub is_share_together : Given → Bool
is_share_together given =
    let other = flag_of given (codes "currency") || flag_of given (codes "unit") in
    (flag_of given (codes "percent") && (flag_of given (codes "permille") || other)) || (flag_of given (codes "permille") && other)

-- more than one of money, percents, permilles and units is asked for
unfoldable pub is_together : Given → Bool
is_together given = (flag_of given (codes "currency") && flag_of given (codes "unit")) || is_share_together given

-- an option of money without a currency, or a width without a currency or a unit
unfoldable pub is_alone : Given → Bool
is_alone given =
    not (flag_of given (codes "currency"))
    && (flag_of given (codes "accounting") || flag_of given (codes "cash") || (flag_of given (codes "width") && not (flag_of given (codes "unit"))))

-- numbers in full or compact, percents or permilles
unfoldable pub share_given : Notation → Given → Kind
share_given notation given =
    if flag_of given (codes "percent") then percents_with notation
    else (if flag_of given (codes "permille") then permilles_with notation else numbers_with notation)

-- the kind by the currency, else the unit, else whether percents or permilles are asked for
abbrev pub kind_by : Option (List ℕ) → Option (Bor (List ℕ)) → Notation → Given → Result Kind OptionFault
kind_by (Some code) unit notation given = currency_given code notation given
kind_by None (Some name) notation given = unit_given name notation given
kind_by None None notation given = Ok (share_given notation given)

-- the kind by the notation of numbers
abbrev pub kind_noted : Given → Result Notation OptionFault → Result Kind OptionFault
kind_noted given (Ok notation) = kind_by (text_of given (codes "currency")) (look_up given (codes "unit")) notation given
kind_noted given (Err error) = Err error

-- the kind that is asked for
unfoldable pub kind_given : Given → Result Kind OptionFault
kind_given given =
    if is_together given then Err fault.Together
    else if is_alone given then Err fault.Alone
    else kind_noted given (notation_given (text_of given (codes "style")))

-- What a skeleton asks of a form, or the first part that no form has.
use Rattle.std.specs.Prelude.{ℕ, List, [], ◌∷◌, Bool, true, false, not, ◌&&◌, Option, Some, None, Result, Ok, Err, if◌then◌else◌}
use Rattle.std.specs.Borrow.{Bor}
use Rattle.std.specs.Option.{unwrap_or}
use Rattle.icu_provider.specs.NumberingSystem.{is_numbering_system}
use Rattle.icu_decimal.specs.declared.options.GroupingStrategy.TheVariants as strategy
use Rattle.icu_dimension.specs.declared.options.CurrencySign.{CurrencySign}
use Rattle.icu_dimension.specs.declared.options.CurrencySign.TheVariants.{Standard, Accounting}
use Rattle.icu_dimension.specs.declared.options.Width.{Width}
use Rattle.icu_dimension.specs.declared.options.Width.TheVariants as symbol
use Rattle.icu_dimension_data.specs.Currency.{is_currency_code}
use Rattle.skeleton_settings.specs.declared.settings.CurrencyLetters.{CurrencyLetters}
use Rattle.skeleton_settings.specs.declared.settings.Grouping.{Grouping}
use Rattle.skeleton_settings.specs.declared.settings.Grouping.TheVariants as group
use Rattle.skeleton_settings.specs.declared.settings.Notation.{Notation}
use Rattle.skeleton_settings.specs.declared.settings.Notation.TheVariants.{Simple, CompactShort, CompactLong}
use Rattle.skeleton_settings.specs.declared.settings.NumberUnit.{NumberUnit}
use Rattle.skeleton_settings.specs.declared.settings.NumberUnit.TheVariants as counted
use Rattle.skeleton_settings.specs.declared.settings.Precision.{Precision}
use Rattle.skeleton_settings.specs.declared.settings.Precision.TheVariants.{Fraction}
use Rattle.skeleton_settings.specs.declared.settings.Skeleton.{Skeleton}
use Rattle.skeleton_settings.specs.declared.settings.UnitWidth.{UnitWidth}
use Rattle.skeleton_settings.specs.declared.settings.UnitWidth.TheVariants as width
use Rattle.number_formatters.specs.Settings.{FormSettings}
use Rattle.number_formatters.specs.declared.settings.FormGrouping.{FormGrouping}
use Rattle.number_formatters.specs.declared.settings.FormGrouping.TheVariants.{Strategy, OnAligned, Thousands}
use Rattle.number_formatters.specs.declared.settings.Kind.{Kind}
use Rattle.number_formatters.specs.declared.settings.Kind.TheVariants.{Plain, Short, Long, Money, MoneyNamed, MoneyShort, Percent, Permille, Unit as WithUnit}
use Rattle.number_formatters.specs.declared.settings.UnitName.{UnitName}
use Rattle.number_formatters.specs.declared.settings.UnitName.TheVariants as unit
use Rattle.number_formatters.specs.declared.settings.UnitWidth.{UnitWidth as Patterns}
use Rattle.number_formatters.specs.declared.settings.UnitWidth.TheVariants as patterns
use Rattle.number_formatters.specs.declared.skeleton.Unsupported.{Unsupported}
use Rattle.number_formatters.specs.declared.skeleton.Unsupported.TheVariants as unsupported

-- what is made of a part of a skeleton that forms have
infixl 10 ◌>>=◌
abbrev pub ◌>>=◌ : {A B : Type 0} → Result A Unsupported → (A → Result B Unsupported) → Result B Unsupported
(Ok x) >>= next = next x
(Err error) >>= next = Err error

-- when separators are written, where that is set
abbrev pub set_grouping : Grouping → FormGrouping
set_grouping group.Off = Strategy strategy.Never
set_grouping group.Min2 = Strategy strategy.Min2
set_grouping group.Auto = Strategy strategy.Auto
set_grouping group.OnAligned = OnAligned
set_grouping group.Thousands = Thousands

-- when separators are written; the default of the notation where nothing is set
unfoldable pub grouping_set : Option Grouping → Option FormGrouping
grouping_set None = None
grouping_set (Some grouping) = Some (set_grouping grouping)

-- the numbering system; none is preferred where none is set
unfoldable pub system_set : Option (Bor (List ℕ)) → Result (Option (List ℕ)) Unsupported
system_set None = Ok None
system_set (Some name) = if is_numbering_system name.now then Ok (Some name.now) else Err unsupported.System

-- the code of these letters
abbrev pub code_letters : CurrencyLetters → List ℕ
code_letters letters = letters.first ∷ letters.second ∷ letters.third ∷ []

-- the currency of these letters
unfoldable pub code_set : CurrencyLetters → Result (List ℕ) Unsupported
code_set letters = if is_currency_code (code_letters letters) then Ok (code_letters letters) else Err unsupported.Currency

-- which pattern writes a sign
abbrev pub money_sign : Bool → CurrencySign
money_sign is_accounting = if is_accounting then Accounting else Standard

-- amounts of money with the name of the currency; names have no form for accounting
abbrev pub named_money : List ℕ → Notation → Kind
named_money code notation = MoneyNamed code false notation

-- what stands for the symbol of a currency; nothing where its name is written
unfoldable pub symbol_set : UnitWidth → Option Width
symbol_set width.Narrow = Some symbol.Narrow
symbol_set width.Short = Some symbol.Short
symbol_set width.FullName = None
symbol_set width.IsoCode = Some symbol.IsoCode
symbol_set width.Hidden = Some symbol.Hidden

-- amounts of money with a symbol; compact ones are those of the short patterns, as no locale has long ones
abbrev pub money_with : Width → CurrencySign → Notation → List ℕ → Kind
money_with width sign Simple code = Money code width sign false
money_with width sign CompactShort code = MoneyShort code width sign
money_with width sign CompactLong code = MoneyShort code width sign

-- amounts of money, by what stands for the symbol
abbrev pub money_by : Skeleton → List ℕ → Option Width → Kind
money_by skeleton code None = named_money code skeleton.notation
money_by skeleton code (Some width) = money_with width (money_sign skeleton.is_accounting) skeleton.notation code

-- amounts of money
unfoldable pub money_set : Skeleton → List ℕ → Kind
money_set skeleton code = money_by skeleton code (symbol_set skeleton.width)

-- which patterns write a unit; none where it is hidden
unfoldable pub patterns_set : UnitWidth → Option Patterns
patterns_set width.Narrow = Some patterns.Narrow
patterns_set width.Short = Some patterns.Short
patterns_set width.FullName = Some patterns.Long
patterns_set width.IsoCode = Some patterns.Short
patterns_set width.Hidden = None

-- numbers alone
abbrev pub numbers_set : Notation → Kind
numbers_set Simple = Plain
numbers_set CompactShort = Short
numbers_set CompactLong = Long

-- numbers with a unit, by the patterns that write it; a hidden unit isn't written
abbrev pub unit_by : Skeleton → UnitName → Option Patterns → Kind
unit_by skeleton unit None = numbers_set skeleton.notation
unit_by skeleton unit (Some width) = WithUnit unit width skeleton.notation

-- numbers with a unit
unfoldable pub unit_set : Skeleton → UnitName → Kind
unit_set skeleton unit = unit_by skeleton unit (patterns_set skeleton.width)

-- whether a width asks for a name in full
abbrev pub is_full_name : UnitWidth → Bool
is_full_name width.Narrow = false
is_full_name width.Short = false
is_full_name width.FullName = true
is_full_name width.IsoCode = false
is_full_name width.Hidden = false

-- percents or permilles as a unit, which is never hidden
unfoldable pub share_set : Skeleton → UnitName → Kind
share_set skeleton unit = WithUnit unit (unwrap_or (patterns_set skeleton.width) patterns.Short) skeleton.notation

-- whether numbers are in full
abbrev pub is_simple : Notation → Bool
is_simple Simple = true
is_simple CompactShort = false
is_simple CompactLong = false

-- percents: in full in the locale's pattern, else as a unit
unfoldable pub percent_set : Skeleton → Kind
percent_set skeleton =
    if is_simple skeleton.notation && not (is_full_name skeleton.width) then Percent else share_set skeleton unit.Percent

-- permilles: in full in the locale's pattern of percents with its per mille sign, else as a unit
unfoldable pub permille_set : Skeleton → Kind
permille_set skeleton =
    if is_simple skeleton.notation && not (is_full_name skeleton.width) then Permille else share_set skeleton unit.Permille

-- what is written of numbers
unfoldable pub kind_set : Skeleton → NumberUnit → Result Kind Unsupported
kind_set skeleton counted.None = Ok (numbers_set skeleton.notation)
kind_set skeleton counted.Percent = Ok (percent_set skeleton)
kind_set skeleton counted.Permille = Ok (permille_set skeleton)
kind_set skeleton (counted.Currency letters) = do
  code ← code_set letters
  Ok (money_set skeleton code)
kind_set skeleton (counted.Named name) = Ok (unit_set skeleton (unit.Named name))

-- how fine numbers are in full, where nothing is set: as the currency has it, else at most six fraction digits
unfoldable pub default_precision : NumberUnit → Option Precision
default_precision counted.None = Some (Fraction 0 (Some 6))
default_precision counted.Percent = Some (Fraction 0 (Some 6))
default_precision counted.Permille = Some (Fraction 0 (Some 6))
default_precision (counted.Currency letters) = None
default_precision (counted.Named name) = Some (Fraction 0 (Some 6))

-- how fine numbers are
unfoldable pub precision_set : Skeleton → Notation → Option Precision → Option Precision
precision_set skeleton notation (Some precision) = Some precision
precision_set skeleton Simple None = default_precision skeleton.unit
precision_set skeleton CompactShort None = None
precision_set skeleton CompactLong None = None

-- what the skeleton asks for in a locale
unfoldable pub settings_of : List ℕ → Skeleton → Result FormSettings Unsupported
settings_of locale skeleton = do
  system ← system_set skeleton.system
  kind ← kind_set skeleton skeleton.unit
  Ok (record {
    locale = locale;
    system = system;
    grouping = grouping_set skeleton.grouping;
    precision = precision_set skeleton skeleton.notation skeleton.precision;
    mode = skeleton.mode;
    hides_zeros_of_whole = skeleton.hides_zeros_of_whole;
    integer_digits = skeleton.integer_digits;
    scale = skeleton.scale;
    sign = skeleton.sign;
    kind = kind;
  })

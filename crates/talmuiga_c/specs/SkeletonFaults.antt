-- What is wrong with a skeleton, in numbers.
use Rattle.std.specs.Prelude.{ℕ}
use Rattle.number_formatters.specs.declared.skeleton.Unsupported.{Unsupported}
use Rattle.number_formatters.specs.declared.skeleton.Unsupported.TheVariants as unsupported
use Rattle.number_skeleton.specs.declared.fault.FaultKind.{FaultKind}
use Rattle.number_skeleton.specs.declared.fault.FaultKind.TheVariants as kind
use Rattle.number_skeleton.specs.declared.fault.Setting.{Setting}
use Rattle.number_skeleton.specs.declared.fault.Setting.TheVariants as setting
use Rattle.number_skeleton.specs.declared.fault.SkeletonFault.{SkeletonFault}
use Rattle.number_skeleton.specs.declared.fault.Thing.{Thing}
use Rattle.number_skeleton.specs.declared.fault.Thing.TheVariants as thing
use Rattle.talmuiga_c.specs.declared.fault.Fault.{Fault}

-- nothing is wrong
abbrev pub no_fault : Fault
no_fault = record { byte = 0; kind = 0; thing = 0 }

-- the bytes are UTF-8 up to this one
abbrev pub not_utf8_at : ℕ → Fault
not_utf8_at byte = record { byte = byte; kind = 1; thing = 0 }

-- the settings, from 1 on
abbrev pub setting_number : Setting → ℕ
setting_number setting.Notation = 1
setting_number setting.Unit = 2
setting_number setting.Width = 3
setting_number setting.Precision = 4
setting_number setting.Mode = 5
setting_number setting.IntegerWidth = 6
setting_number setting.Scale = 7
setting_number setting.Grouping = 8
setting_number setting.System = 9
setting_number setting.Sign = 10
setting_number setting.Decimal = 11

-- what isn't read, from 1 on
abbrev pub thing_number : Thing → ℕ
thing_number thing.Scientific = 1
thing_number thing.Engineering = 2
thing_number thing.DecimalAlways = 3
thing_number thing.MeasureUnit = 4
thing_number thing.PerMeasureUnit = 5
thing_number thing.Usage = 6
thing_number thing.Formal = 7
thing_number thing.Variant = 8
thing_number thing.HalfOdd = 9
thing_number thing.Unnecessary = 10
thing_number thing.IntegerCutOff = 11
thing_number thing.NoIntegerDigit = 12
thing_number thing.Scale = 13
thing_number thing.Increment = 14

-- the kinds of faults of a text; 1 is that of bytes that aren't UTF-8
abbrev pub kind_number : FaultKind → ℕ
kind_number kind.UnknownStem = 2
kind_number (kind.LeftOut x) = 3
kind_number (kind.Repeated x) = 4
kind_number kind.TooManyDigits = 5
kind_number kind.NoOptionHere = 6
kind_number kind.StraySlash = 7
kind_number kind.EmptyOption = 8
kind_number kind.BadOption = 9
kind_number kind.OptionMissing = 10
kind_number kind.IncrementOfCompact = 11

-- which setting is repeated, or what isn't read
abbrev pub thing_of : FaultKind → ℕ
thing_of kind.UnknownStem = 0
thing_of (kind.LeftOut x) = thing_number x
thing_of (kind.Repeated x) = setting_number x
thing_of kind.TooManyDigits = 0
thing_of kind.NoOptionHere = 0
thing_of kind.StraySlash = 0
thing_of kind.EmptyOption = 0
thing_of kind.BadOption = 0
thing_of kind.OptionMissing = 0
thing_of kind.IncrementOfCompact = 0

-- the fault of a text
abbrev pub fault_of : SkeletonFault → Fault
fault_of fault = record { byte = fault.byte; kind = kind_number fault.kind; thing = thing_of fault.kind }

-- what no form has, from 1 on
abbrev pub unsupported_number : Unsupported → ℕ
unsupported_number unsupported.System = 1
unsupported_number unsupported.Currency = 2

-- a skeleton asks for this, which no form has
abbrev pub unsupported_fault : Unsupported → Fault
unsupported_fault x = record { byte = 0; kind = 12; thing = unsupported_number x }

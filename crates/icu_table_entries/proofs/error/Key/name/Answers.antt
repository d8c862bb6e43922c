-- Goals that a search finds; it is not tried longer where one is false.
use Rattle.std.proofs.Common.{rules}
use Rattle.icu_table_entries.proofs.error.Key.name.Goals as goal

pub returns-in-Decimal : goal.returns-in-Decimal
returns-in-Decimal c = search rules

pub returns-in-Digits : goal.returns-in-Digits
returns-in-Digits c = search rules

pub returns-in-Document : goal.returns-in-Document
returns-in-Document c = search rules

pub returns-in-ExplicitOne : goal.returns-in-ExplicitOne
returns-in-ExplicitOne c = search rules

pub returns-in-ExplicitZero : goal.returns-in-ExplicitZero
returns-in-ExplicitZero c = search rules

pub returns-in-Few : goal.returns-in-Few
returns-in-Few c = search rules

pub returns-in-Group : goal.returns-in-Group
returns-in-Group c = search rules

pub returns-in-Locale : goal.returns-in-Locale
returns-in-Locale c = search rules

pub returns-in-Long : goal.returns-in-Long
returns-in-Long c = search rules

pub returns-in-Many : goal.returns-in-Many
returns-in-Many c = search rules

pub returns-in-Minus : goal.returns-in-Minus
returns-in-Minus c = search rules

pub returns-in-Numsys : goal.returns-in-Numsys
returns-in-Numsys c = search rules

pub returns-in-One : goal.returns-in-One
returns-in-One c = search rules

pub returns-in-Other : goal.returns-in-Other
returns-in-Other c = search rules

pub returns-in-Patterns : goal.returns-in-Patterns
returns-in-Patterns c = search rules

pub returns-in-Plus : goal.returns-in-Plus
returns-in-Plus c = search rules

pub returns-in-Rules : goal.returns-in-Rules
returns-in-Rules c = search rules

pub returns-in-Short : goal.returns-in-Short
returns-in-Short c = search rules

pub returns-in-Sizes : goal.returns-in-Sizes
returns-in-Sizes c = search rules

pub returns-in-Symbols : goal.returns-in-Symbols
returns-in-Symbols c = search rules

pub returns-in-System : goal.returns-in-System
returns-in-System c = search rules

pub returns-in-Two : goal.returns-in-Two
returns-in-Two c = search rules

pub returns-in-Zero : goal.returns-in-Zero
returns-in-Zero c = search rules

pub returns-in-Accounting : goal.returns-in-Accounting
returns-in-Accounting c = search rules

pub returns-in-Currencies : goal.returns-in-Currencies
returns-in-Currencies c = search rules

pub returns-in-CurrencyCompact : goal.returns-in-CurrencyCompact
returns-in-CurrencyCompact c = search rules

pub returns-in-CurrencyDecimals : goal.returns-in-CurrencyDecimals
returns-in-CurrencyDecimals c = search rules

pub returns-in-CurrencyDigits : goal.returns-in-CurrencyDigits
returns-in-CurrencyDigits c = search rules

pub returns-in-CurrencySymbols : goal.returns-in-CurrencySymbols
returns-in-CurrencySymbols c = search rules

pub returns-in-Names : goal.returns-in-Names
returns-in-Names c = search rules

pub returns-in-Pattern : goal.returns-in-Pattern
returns-in-Pattern c = search rules

pub returns-in-Percent : goal.returns-in-Percent
returns-in-Percent c = search rules

pub returns-in-Percents : goal.returns-in-Percents
returns-in-Percents c = search rules

pub returns-in-Standard : goal.returns-in-Standard
returns-in-Standard c = search rules

pub returns-in-Unit : goal.returns-in-Unit
returns-in-Unit c = search rules

pub returns-in-Units : goal.returns-in-Units
returns-in-Units c = search rules

pub returns-in-Width : goal.returns-in-Width
returns-in-Width c = search rules

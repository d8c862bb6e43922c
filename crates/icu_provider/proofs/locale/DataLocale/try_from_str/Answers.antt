-- The goals that a search finds at once; it is not tried longer where one is false.
use Rattle.std.proofs.Common.{rules}
use Rattle.icu_provider.proofs.locale.DataLocale.try_from_str.Goals as goal

pub returns-then-not-is_locale_text-clause-text : goal.returns-then-not-is_locale_text-clause-text
returns-then-not-is_locale_text-clause-text c = search rules

pub returns-clause-accepted : goal.returns-clause-accepted
returns-clause-accepted c = search rules

pub returns-clause-text : goal.returns-clause-text
returns-clause-text c = search rules

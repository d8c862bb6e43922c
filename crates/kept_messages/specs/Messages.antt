-- A message with the plural rules of its locale.
use Rattle.std.specs.Prelude.{List}
use Rattle.icu_message.specs.Reading.{MessageText}
use Rattle.icu_plurals.specs.Rules.{Rule}

-- a message, and the rules that it picks by
pub record MessageData : Type 0 where
  pub message : MessageText
  pub cardinal : List Rule
  pub ordinal : List Rule

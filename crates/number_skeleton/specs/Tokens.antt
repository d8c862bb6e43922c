-- Tokens, one after the other.
use Rattle.std.specs.Prelude.{ℕ, ◌+◌, ◌==◌, List, [], ◌∷◌, Result, Ok, take, drop, get_or, if◌then◌else◌}
use Rattle.std.specs.Option.{is_some}
use Rattle.number_skeleton.specs.declared.fault.FaultKind.TheVariants.{Repeated, StraySlash, IncrementOfCompact}
use Rattle.number_skeleton.specs.declared.fault.Setting.{Setting}
use Rattle.number_skeleton.specs.declared.fault.Setting.TheVariants as setting
use Rattle.number_skeleton.specs.declared.fault.SkeletonFault.{SkeletonFault}
use Rattle.number_skeleton.specs.declared.stems.Stem.{Stem}
use Rattle.number_skeleton.specs.declared.stems.Stem.TheVariants as stem
use Rattle.number_skeleton.specs.Bytes.{piece_len}
use Rattle.number_skeleton.specs.Cuts.{tokens_from}
use Rattle.skeleton_settings.specs.Settings.{SkeletonData}
use Rattle.number_skeleton.specs.Data.{DraftData}
use Rattle.number_skeleton.specs.Drafts.{merged, is_set, finished, is_increment_of_compact}
use Rattle.number_skeleton.specs.Fragments.{nothing_data}
use Rattle.number_skeleton.specs.Results.{◌>>=◌, fault, located}
use Rattle.number_skeleton.specs.Stems.{stem_of}
use Rattle.number_skeleton.specs.Values.{value_of}

-- what a stem sets
abbrev pub setting_of : Stem → Setting
setting_of (stem.Notation n) = setting.Notation
setting_of stem.BaseUnit = setting.Unit
setting_of stem.Percent = setting.Unit
setting_of stem.Permille = setting.Unit
setting_of stem.PercentTimesHundred = setting.Scale
setting_of stem.Currency = setting.Unit
setting_of stem.UnitName = setting.Unit
setting_of (stem.Width w) = setting.Width
setting_of stem.Unlimited = setting.Precision
setting_of (stem.Fraction counts) = setting.Precision
setting_of (stem.Significant counts) = setting.Precision
setting_of (stem.CurrencyPrecision is_cash) = setting.Precision
setting_of stem.Increment = setting.Precision
setting_of (stem.Mode m) = setting.Mode
setting_of (stem.IntegerZeros n) = setting.IntegerWidth
setting_of stem.IntegerWidth = setting.IntegerWidth
setting_of stem.Scale = setting.Scale
setting_of (stem.Grouping g) = setting.Grouping
setting_of stem.Latin = setting.System
setting_of stem.System = setting.System
setting_of (stem.Sign s) = setting.Sign
setting_of stem.DecimalAuto = setting.Decimal

-- what else a stem sets: of `%x100` the unit
abbrev pub other_setting_of : Stem → Setting
other_setting_of (stem.Notation n) = setting_of (stem.Notation n)
other_setting_of stem.BaseUnit = setting_of stem.BaseUnit
other_setting_of stem.Percent = setting_of stem.Percent
other_setting_of stem.Permille = setting_of stem.Permille
other_setting_of stem.PercentTimesHundred = setting.Unit
other_setting_of stem.Currency = setting_of stem.Currency
other_setting_of stem.UnitName = setting_of stem.UnitName
other_setting_of (stem.Width w) = setting_of (stem.Width w)
other_setting_of stem.Unlimited = setting_of stem.Unlimited
other_setting_of (stem.Fraction counts) = setting_of (stem.Fraction counts)
other_setting_of (stem.Significant counts) = setting_of (stem.Significant counts)
other_setting_of (stem.CurrencyPrecision is_cash) = setting_of (stem.CurrencyPrecision is_cash)
other_setting_of stem.Increment = setting_of stem.Increment
other_setting_of (stem.Mode m) = setting_of (stem.Mode m)
other_setting_of (stem.IntegerZeros n) = setting_of (stem.IntegerZeros n)
other_setting_of stem.IntegerWidth = setting_of stem.IntegerWidth
other_setting_of stem.Scale = setting_of stem.Scale
other_setting_of (stem.Grouping g) = setting_of (stem.Grouping g)
other_setting_of stem.Latin = setting_of stem.Latin
other_setting_of stem.System = setting_of stem.System
other_setting_of (stem.Sign s) = setting_of (stem.Sign s)
other_setting_of stem.DecimalAuto = setting_of stem.DecimalAuto

-- a stem of what isn't set yet
unfoldable pub fresh : ℕ → Stem → DraftData → Result Stem SkeletonFault
fresh at stem draft =
    if is_set draft (setting_of stem) then fault (Repeated (setting_of stem)) at
    else if is_set draft (other_setting_of stem) then fault (Repeated (other_setting_of stem)) at
    else Ok stem

-- its stem, then its options
abbrev pub stem_and_options : ℕ → List ℕ → DraftData → Result DraftData SkeletonFault
stem_and_options at token draft = do
  stem ← located at (stem_of (take (piece_len token) token))
  stem ← fresh at stem draft
  value ← value_of at (at + piece_len token) (drop (piece_len token) token) stem
  Ok (merged draft value)

-- one token
unfoldable pub with_token : ℕ → List ℕ → DraftData → Result DraftData SkeletonFault
with_token at token draft = if get_or token 0 0 == 47 then fault StraySlash at else stem_and_options at token draft

-- a draft, and the byte of the token that set its precision, if one did
pub record Progress : Type 0 where
  pub draft : DraftData
  pub precision_at : ℕ

-- before a token, as long as no precision is set, the byte is that of the token
abbrev pub precision_offset : ℕ → Progress → ℕ
precision_offset at p = if is_some p.draft.digits then p.precision_at else at

-- one token after the other
unfoldable pub with_tokens : List (ℕ × List ℕ) → Progress → Result Progress SkeletonFault
with_tokens [] p = Ok p
with_tokens ((at, token) ∷ tokens) p = do
  draft ← with_token at token p.draft
  with_tokens tokens (record { draft = draft; precision_at = precision_offset at p })

-- nothing is set
abbrev pub at_start : Progress
at_start = record { draft = nothing_data; precision_at = 0 }

-- what is set, where the notation and the increment go together
abbrev pub checked : Progress → Result SkeletonData SkeletonFault
checked p = if is_increment_of_compact p.draft then fault IncrementOfCompact p.precision_at else Ok (finished p.draft)

-- what a text sets, or its first fault
unfoldable pub skeleton_of : List ℕ → Result SkeletonData SkeletonFault
skeleton_of text = with_tokens (tokens_from 0 0 text) at_start >>= checked

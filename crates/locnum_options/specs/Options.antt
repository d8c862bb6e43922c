-- What the options ask for.
use Rattle.std.specs.Prelude.{◌≡◌, ℕ, Bool, ◌⊎◌, List, Option, Some, None, Result, Ok, Err, codes, if◌then◌else◌}
use Rattle.number_formatters.specs.Settings.{FormSettings}
use Rattle.number_skeleton.specs.declared.fault.SkeletonFault.{SkeletonFault}
use Rattle.skeleton_settings.specs.declared.settings.Skeleton.{Skeleton}
use Rattle.locnum_lines.specs.Settings.{SettingsData}
use Rattle.locnum_lines.specs.declared.padding.Padding.{Padding}
use Rattle.locnum_lines.specs.declared.settings.Source.TheVariants.{Lines}
use Rattle.locnum_options.specs.Explained.{explain_given}
use Rattle.locnum_options.specs.Fields.{positive_number_named}
use Rattle.locnum_options.specs.Given.{flag_of, text_of}
use Rattle.locnum_options.specs.declared.explained.Explain.{Explain}
use Rattle.locnum_options.specs.declared.given.Given.{Given}
use Rattle.locnum_options.specs.Kinds.{◌>>=◌}
use Rattle.locnum_options.specs.Locale.{locale_given}
use Rattle.locnum_options.specs.Names.{chosen_given}
use Rattle.locnum_options.specs.Padding.{padding_named}
use Rattle.locnum_options.specs.Settings.{settings_given}
use Rattle.locnum_options.specs.Words.{ok_or, field_end_given, refusals_given}
use Rattle.locnum_options.specs.declared.fault.OptionFault.{OptionFault}
use Rattle.locnum_options.specs.declared.fault.OptionFault.TheVariants as fault

-- the form of numbers, the fields of lines, and what is explained instead
pub record OptionsData : Type 0 where
  pub settings : FormSettings
  pub lines : SettingsData
  pub explain : Explain

-- The result of a call, seen by view, is this; `OutOfMemory` may be reported in place of any result.
abbrev pub GivesOption : {X Y : Type 0} → (X → Y) → Result X OptionFault → Result Y OptionFault → Type 0
GivesOption view (Ok x) asked = asked ≡ Ok (view x)
GivesOption view (Err e) asked = (e ≡ fault.OutOfMemory) ⊎ (asked ≡ Err e)

-- how many lines are a header, one at least; none by default
unfoldable pub header_given : Option (List ℕ) → Result ℕ OptionFault
header_given None = Ok 0
header_given (Some text) = ok_or (positive_number_named text) fault.Header

-- how wide numbers are at least; as wide as they are by default
unfoldable pub padding_given : Option (List ℕ) → Result (Option Padding) OptionFault
padding_given None = Ok None
padding_given (Some text) = do
  padding ← ok_or (padding_named text) fault.Padding
  Ok (Some padding)

-- the byte that ends a line
unfoldable pub end_of : Bool → ℕ
end_of zero_terminated = if zero_terminated then 0 else 10

-- what the options ask for, by what was read of the skeleton, or the first fault
unfoldable pub options_of : Option (Result Skeleton SkeletonFault) → Given → Result OptionsData OptionFault
options_of skeleton given = do
  locale ← locale_given given
  settings ← settings_given locale skeleton given
  explain ← explain_given given
  delimiter ← field_end_given given
  chosen ← chosen_given given
  header ← header_given (text_of given (codes "header"))
  padding ← padding_given (text_of given (codes "padding"))
  refusals ← refusals_given (text_of given (codes "invalid"))
  Ok (record {
    settings = settings;
    lines = record {
      delimiter = delimiter;
      fields = chosen.fields;
      names = chosen.names;
      header = header;
      end = end_of (flag_of given (codes "zero-terminated"));
      refusals = refusals;
      padding = padding;
      source = Lines;
    };
    explain = explain;
  })

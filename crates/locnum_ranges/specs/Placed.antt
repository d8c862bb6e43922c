-- A range in the place of the number of a field.
use Rattle.std.specs.Prelude.{ℕ, ◌+◌, ◌||◌, nat_lt, min, List, ◌++◌, drop, length, Option, Some, None, option_map, if◌then◌else◌}
use Rattle.locnum_lines.specs.Csv.{as_field, core_length, is_in_quotes}
use Rattle.locnum_lines.specs.FieldRuns.{blanks_kept}
use Rattle.locnum_lines.specs.Fields.{Cut, cut_field}
use Rattle.locnum_lines.specs.Padding.{padded}
use Rattle.locnum_lines.specs.Settings.{SettingsData}
use Rattle.locnum_lines.specs.Widths.{padding_width}
use Rattle.locnum_lines.specs.declared.padding.Alignment.TheVariants.{Right}
use Rattle.locnum_lines.specs.declared.padding.Padding.{Padding}
use Rattle.locnum_lines.specs.declared.settings.Delimiter.{Delimiter}
use Rattle.locnum_lines.specs.declared.settings.Delimiter.TheVariants.{Blanks, Byte, Csv}
use Rattle.locnum_ranges.specs.Contents.{csv_content}

-- how many columns a range takes at least in a field of this number itself, which blanks end: as many as its number with the blanks
-- in front of it, if there are any or the field isn't the first one, and at most 65,535
abbrev pub own_padding : ℕ → List ℕ → List ℕ → Option Padding
own_padding index before number =
    if nat_lt 1 index || nat_lt 0 (length before) then Some (record { columns = min (length before + length number) 65535; alignment = Right })
    else None

-- how many it takes by the padding of all numbers, or else by the field, unless a byte ends fields
abbrev pub padding_by : Delimiter → Option Padding → ℕ → List ℕ → List ℕ → Option Padding
padding_by delimiter (Some padding) index before number = Some padding
padding_by Blanks None index before number = own_padding index before number
padding_by (Byte delimiter) None index before number = None
padding_by (Csv delimiter) None index before number = None

-- a range with its padding, between the blanks around the number in whose place it stands
abbrev pub padded_between : Option Padding → Cut → List ℕ → List ℕ
padded_between padding field range =
    (blanks_kept (option_map padding_width padding) field.before ++ padded (option_map padding_width padding) range) ++ field.behind

-- a range in a field of this number, by the parts of the field
abbrev pub in_place : SettingsData → ℕ → Cut → List ℕ → List ℕ
in_place settings index field range =
    padded_between (padding_by settings.delimiter settings.padding index field.before field.number) field range

-- in a field of CSV, in whose content the number stands: the content is written as a field, in front of a carriage return at the
-- field's end
abbrev pub in_csv : SettingsData → ℕ → ℕ → List ℕ → List ℕ → List ℕ
in_csv settings index delimiter field range =
    as_field delimiter settings.end (is_in_quotes field)
    (in_place settings index (cut_field (csv_content field)) range) ++ drop (core_length field) field

-- in a field that ends so
abbrev pub in_field : SettingsData → ℕ → Delimiter → List ℕ → List ℕ → List ℕ
in_field settings index Blanks field range = in_place settings index (cut_field field) range
in_field settings index (Byte delimiter) field range = in_place settings index (cut_field field) range
in_field settings index (Csv delimiter) field range = in_csv settings index delimiter field range

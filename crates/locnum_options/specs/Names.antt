-- Fields that are chosen by the names of their columns: a list that has no part of digits and hyphens alone.
use Rattle.std.specs.Prelude.{ℕ, ◌==◌, Bool, not, ◌&&◌, ◌||◌, nat_le, List, [], ◌∷◌, Option, Some, None, Result, Ok, Err, codes, length}
use Rattle.std.specs.Prelude.{if◌then◌else◌}
use Rattle.std.specs.List.{list_all}
use Rattle.locnum_lines.specs.declared.settings.FieldRange.{FieldRange}
use Rattle.locnum_options.specs.Fields.{fields_named}
use Rattle.locnum_options.specs.Given.{flag_of, text_of}
use Rattle.locnum_options.specs.Kinds.{◌>>=◌}
use Rattle.locnum_options.specs.Texts.{parts_of}
use Rattle.locnum_options.specs.Words.{ok_or}
use Rattle.locnum_options.specs.declared.fault.OptionFault.{OptionFault}
use Rattle.locnum_options.specs.declared.fault.OptionFault.TheVariants as fault
use Rattle.locnum_options.specs.declared.given.Given.{Given}

-- which fields are numbers: those in ranges, or those of columns with these names
pub record ChosenData : Type 0 where
  pub fields : List FieldRange
  pub names : List (List ℕ)

-- a digit or a hyphen
abbrev pub is_range_byte : ℕ → Bool
is_range_byte byte = byte == 45 || (nat_le 48 byte && nat_le byte 57)

-- a text of digits and hyphens alone, which is no name
unfoldable pub is_range_text : List ℕ → Bool
is_range_text text = list_all is_range_byte text

-- no part of a list is a text of a range
unfoldable pub are_names : List (List ℕ) → Bool
are_names parts = list_all (λ part. not (is_range_text part)) parts

-- the fields of a list of ranges, or of names
unfoldable pub chosen_named : List ℕ → Result ChosenData OptionFault
chosen_named text =
    if are_names (parts_of 44 text) then Ok (record { fields = []; names = parts_of 44 text })
    else (do
      fields ← ok_or (fields_named text) fault.Fields
      Ok (record { fields = fields; names = [] }))

-- names are those of a header, which has to be given
unfoldable pub headed : Bool → ChosenData → Result ChosenData OptionFault
headed is_header chosen = if is_header || length chosen.names == 0 then Ok chosen else Err fault.Names

-- the fields that are numbers by the text of the option; the first one by default
abbrev pub chosen_by : Option (List ℕ) → Bool → Result ChosenData OptionFault
chosen_by None is_header = Ok (record { fields = record { first = 1; last = 1 } ∷ []; names = [] })
chosen_by (Some text) is_header = do
  chosen ← chosen_named text
  headed is_header chosen

-- the fields that are numbers
unfoldable pub chosen_given : Given → Result ChosenData OptionFault
chosen_given given = chosen_by (text_of given (codes "field")) (flag_of given (codes "header"))

-- Which fields of a line are numbers, how wide they are, and what becomes of texts that are rejected.
use Rattle.std.specs.Prelude.{ℕ, Bool, false, ◌&&◌, ◌||◌, nat_le, List, [], ◌∷◌, Option}
use Rattle.locnum_lines.specs.declared.padding.Padding.{Padding}
use Rattle.locnum_lines.specs.declared.settings.Delimiter.{Delimiter}
use Rattle.locnum_lines.specs.declared.settings.FieldRange.{FieldRange}
use Rattle.locnum_lines.specs.declared.settings.Refusals.{Refusals}
use Rattle.locnum_lines.specs.declared.settings.Source.{Source}

-- how lines are cut, which fields are numbers, by their numbers or by their names, how many records are a header, the byte
-- that ends a line, what becomes of a text that is rejected, how wide numbers are at least, and where the lines come from
pub record SettingsData : Type 0 where
  pub delimiter : Delimiter
  pub fields : List FieldRange
  pub names : List (List ℕ)
  pub header : ℕ
  pub end : ℕ
  pub refusals : Refusals
  pub padding : Option Padding
  pub source : Source

-- whether a field of this number, from 1 on, is in one of the ranges
unfoldable pub is_chosen : List FieldRange → ℕ → Bool
is_chosen [] index = false
is_chosen (range ∷ ranges) index = (nat_le range.first index && nat_le index range.last) || is_chosen ranges index

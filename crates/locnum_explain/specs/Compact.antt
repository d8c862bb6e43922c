-- What an explanation says of a compact number besides its text and its magnitude.
use Rattle.std.specs.Prelude.{ℕ, Bool, is_some, nat_le, List, [], ◌++◌, if◌then◌else◌, pos}
use Rattle.fixed_decimal.specs.declared.signs.Sign.{Sign}
use Rattle.fixed_decimal.specs.Size.{magnitude_place, size, ten_to}
use Rattle.fixed_decimal.specs.Unsigned.{Unsigned}
use Rattle.icu_decimal_data.specs.CompactTable.{TableEntry, entry_for}
use Rattle.icu_decimal.specs.CompactFormat.{CompactFormat, pattern_of}
use Rattle.icu_decimal.specs.CompactNumber.{rounding_place_for}
use Rattle.icu_dimension_data.specs.Resolved.{Signed}
use Rattle.icu_dimension.specs.CompactMoney.{CompactMoney, entry_shown, formatter_of}
use Rattle.decimal_lines.specs.Computed.{nearest_number, significand_shown}
use Rattle.number_forms.specs.CompactMoney.{compacted}
use Rattle.locnum_explain.specs.Around.{around_line}
use Rattle.locnum_explain.specs.Facts.{entry_line, pattern_line}
use Rattle.locnum_explain.specs.Operands.{operands_line}
use Rattle.locnum_explain.specs.Patterns.{signed_line}

-- the entry of a table for the magnitude at a place, and the operands, the category and the pattern of a significand
unfoldable pub entry_lines : CompactFormat → ℕ → Unsigned → List ℕ
entry_lines format m significand =
    entry_line format.table m ++ operands_line format.rules significand ++ pattern_line (pattern_of format (entry_for format.table m) significand)

-- those by which d is displayed as the size y
abbrev pub decomposed_lines : CompactFormat → Unsigned → ℕ → List ℕ
decomposed_lines format d y = entry_lines format (magnitude_place y) (significand_shown format.table d y)

-- the two values around d that are shown at its magnitude: the multiples of ten to the rounding place of that magnitude
unfoldable pub showable_line : List TableEntry → Unsigned → List ℕ
showable_line table d = around_line (rounding_place_for table (magnitude_place (size d))) d

-- whether the compact number nearest to d is past the limits
abbrev pub is_past : List TableEntry → Unsigned → Bool
is_past table d = nat_le (ten_to (pos 32768)) (nearest_number table (size d))

-- of a number whose nearest compact number is within the limits: the two values around it that are shown, and what it is displayed by
unfoldable pub compact_facts : CompactFormat → Unsigned → List ℕ
compact_facts format d =
    if is_past format.table d then []
    else showable_line format.table d ++ decomposed_lines format d (nearest_number format.table (size d))

-- whether the compact number nearest to d is displayed by an entry of the table
abbrev pub has_entry : CompactFormat → Unsigned → Bool
has_entry format d = is_some (entry_shown format.table (compacted format d (nearest_number format.table (size d))))

-- the pattern of money around a compact number, unless an entry displays it
abbrev pub frame_for : Signed → Sign → Bool → List ℕ
frame_for patterns sign has_entry = if has_entry then [] else signed_line patterns sign

-- the pattern of money in which the compact number nearest to d stands, if it stands in one
unfoldable pub frame_line : CompactMoney → Sign → Unsigned → List ℕ
frame_line f sign d =
    if is_past (formatter_of f sign).table d then [] else frame_for f.patterns sign (has_entry (formatter_of f sign) d)

-- what is said of a compact amount: by the compact formatter of its sign, and the pattern of money
abbrev pub amount_facts : CompactMoney → Sign → Unsigned → List ℕ
amount_facts f sign d = compact_facts (formatter_of f sign) d ++ frame_line f sign d

-- Entries of range patterns.
use Rattle.std.specs.Prelude.{ℕ, ◌-◌, ◌==◌, Bool, true, not, ◌&&◌, nat_eq, List, [], ◌∷◌, ◌++◌, length, take, drop, codes}
use Rattle.std.specs.Prelude.{Option, Some, None, Result, Ok, if◌then◌else◌}
use Rattle.std.specs.Cmp.Lexicographic.{pointwise}
use Rattle.serde_json.specs.Data.{Data}
use Rattle.icu_ranges.specs.Separator.{Separator, separator_of, with_approximately}
use Rattle.icu_table_entries.specs.Named.{NamedEntry, identifier_from, refused}
use Rattle.icu_table_entries.specs.Reading.{◌>>=◌, object_in, optional_at, text_at, text_in}
use Rattle.icu_table_entries.specs.declared.error.EntryFault.TheVariants.{BadRangePattern, EmptyText}
use Rattle.icu_table_entries.specs.declared.error.Key.TheVariants.{Locale, System, Pattern, Approximately}
use Rattle.icu_table_entries.specs.declared.error.Position.{Position}
use Rattle.icu_table_entries.specs.declared.error.TableError.{TableError}

-- what is left of a text without three bytes at each end
abbrev pub inner_of : List ℕ → List ℕ
inner_of text = take (length text - 6) (drop 3 text)

-- none of the bytes is this one
abbrev pub lacks : ℕ → List ℕ → Bool
lacks byte [] = true
lacks byte (b ∷ bs) = not (b == byte) && lacks byte bs

-- there is a byte
abbrev pub has_bytes : List ℕ → Bool
has_bytes text = not (length text == 0)

-- a text is `{0}`, this separator without braces, and `{1}`
abbrev pub is_range_pattern : List ℕ → List ℕ → Bool
is_range_pattern text separator =
    pointwise nat_eq text (codes "{0}" ++ (separator ++ codes "{1}")) && (has_bytes separator && (lacks 123 separator && lacks 125 separator))

-- the separator of a range pattern
unfoldable pub range_pattern_of : Position → List ℕ → Result Separator TableError
range_pattern_of position text =
    if is_range_pattern text (inner_of text) then Ok (separator_of (inner_of text)) else refused position BadRangePattern

-- the sign for approximately, if there is one; it isn't empty
unfoldable pub approximately_of : Position → Option (List ℕ) → Result (Option (List ℕ)) TableError
approximately_of position None = Ok None
approximately_of position (Some sign) = if has_bytes sign then Ok (Some sign) else refused position (EmptyText Approximately)

-- a separator with the sign for approximately of its entry; without one it keeps that of CLDR's root
abbrev pub with_sign : Option (List ℕ) → Separator → Separator
with_sign None separator = separator
with_sign (Some sign) separator = with_approximately sign separator

-- An entry: first the kinds of all its fields, then its name, then its pattern and the sign for approximately.
unfoldable pub ranges_at : Position → Data → Result (NamedEntry Separator) TableError
ranges_at position d = do
  d ← object_in position.key d
  locale ← text_at Locale d
  system ← optional_at (text_in System) System d
  text ← text_at Pattern d
  sign ← optional_at (text_in Approximately) Approximately d
  identifier ← identifier_from position locale system
  separator ← range_pattern_of position text
  sign ← approximately_of position sign
  Ok (record { identifier = identifier; content = with_sign sign separator })

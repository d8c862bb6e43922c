-- The mode that texts from C ask for.
use Rattle.std.specs.Prelude.{ℕ, List, [], ◌∷◌, Option, Some, None, Result, Err, if◌then◌else◌}
use Rattle.std.specs.Str.{is_utf8}
use Rattle.decimal_lines.specs.ModeOfTables.{mode_of}
use Rattle.decimal_lines.specs.Words.{◌>>=◌, WordsData, words_of}
use Rattle.decimal_lines.specs.declared.mode.Mode.{Mode}
use Rattle.decimal_lines.specs.declared.mode.StartError.{StartError}
use Rattle.decimal_lines.specs.declared.mode.StartError.TheVariants.{Tables}

-- the text of some bytes, where they are UTF-8
unfoldable pub text_in : List ℕ → Option (List ℕ)
text_in bytes = if is_utf8 bytes then Some bytes else None

-- the arguments of four texts; there is no argument for a file, and none for an empty strategy
abbrev pub words_in : List ℕ → List ℕ → List ℕ → List ℕ → Option WordsData
words_in locale system style [] = words_of ([] ∷ locale ∷ system ∷ style ∷ [])
words_in locale system style (b ∷ bs) = words_of ([] ∷ locale ∷ system ∷ style ∷ (b ∷ bs) ∷ [])

-- what they ask for; none for arguments of another form
unfoldable pub words_asked : List ℕ → List ℕ → List ℕ → List ℕ → Option WordsData
words_asked locale system style grouping = do
  locale ← text_in locale
  system ← text_in system
  style ← text_in style
  grouping ← text_in grouping
  words_in locale system style grouping

-- the mode that the arguments make of tables; tables that aren't UTF-8 are rejected
unfoldable pub mode_asked : WordsData → List ℕ → Result Mode StartError
mode_asked words tables = if is_utf8 tables then mode_of words tables else Err Tables

-- Tests of the characters of texts.
use Rattle.std.specs.Prelude.{ℕ, Bool, false, not, ◌==◌, ◌&&◌, ◌||◌, List, [], ◌∷◌, if◌then◌else◌}
use Rattle.std.specs.Str.{chars}
use Rattle.icu_decimal_symbols.specs.Symbols.{SymbolTexts}

-- a character stands among others
abbrev pub has : ℕ → List ℕ → Bool
has c [] = false
has c (x ∷ xs) = x == c || has c xs

-- one of these stands among others
abbrev pub has_any : List ℕ → List ℕ → Bool
has_any [] xs = false
has_any (c ∷ cs) xs = has c xs || has_any cs xs

-- the first character is there, and isn't a space
abbrev pub begins_visibly : List ℕ → Bool
begins_visibly [] = false
begins_visibly (c ∷ cs) = not (c == 32)

-- the first character is a space
abbrev pub begins_with_space : List ℕ → Bool
begins_with_space [] = false
begins_with_space (c ∷ cs) = c == 32

-- the characters in front of the first such character
abbrev pub until : ℕ → List ℕ → List ℕ
until c [] = []
until c (x ∷ xs) = if x == c then [] else x ∷ until c xs

-- a character isn't a space, and stands in neither separator of numbers
abbrev pub is_mark : SymbolTexts → ℕ → Bool
is_mark texts c = not (c == 32) && (not (has c (chars texts.decimal_separator)) && not (has c (chars texts.grouping_separator)))

-- some character is such a mark
abbrev pub has_mark : SymbolTexts → List ℕ → Bool
has_mark texts [] = false
has_mark texts (c ∷ cs) = is_mark texts c || has_mark texts cs

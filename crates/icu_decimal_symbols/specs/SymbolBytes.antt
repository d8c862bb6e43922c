-- Symbols in one byte string: seven lengths, a byte each, then the seven texts.
use Rattle.std.specs.Prelude.{◌≡◌, ℕ, zero, suc, ◌+◌, ◌<◌, ◌≤◌, min, nat_lt, ◌==◌, if◌then◌else◌, IsTrue, List, [], ◌∷◌}
use Rattle.std.specs.Prelude.{◌++◌, length, map, take, slice_range, sum, Option, Some, None}
use Rattle.std.specs.List.{concat}
use Rattle.std.specs.Str.{is_utf8}
use Rattle.icu_provider.specs.NumberingSystem.{is_numbering_system, IsNumberingSystem}
use Rattle.icu_decimal_symbols.specs.Symbols.{SymbolTexts, texts_of}

-- the lengths of texts, then the texts one after another
abbrev pub packed : List (List ℕ) → List ℕ
packed texts = map length texts ++ concat texts

-- the one byte string of symbols, in the order of their fields
abbrev pub symbol_bytes : SymbolTexts → List ℕ
symbol_bytes s = packed (texts_of s)

-- ---- reading

-- where the text at an index begins, as the lengths before it say; at 7, where the last one ends
abbrev pub text_start : List ℕ → ℕ → ℕ
text_start bytes index = 7 + sum (take index bytes)

-- the text at an index, by the lengths
abbrev pub text_at : List ℕ → ℕ → List ℕ
text_at bytes index = slice_range bytes (text_start bytes index) (text_start bytes (index + 1))

-- the seven texts, by their lengths
abbrev pub texts_in : List ℕ → SymbolTexts
texts_in bytes = record {
  minus_sign_prefix = text_at bytes 0;
  minus_sign_suffix = text_at bytes 1;
  plus_sign_prefix = text_at bytes 2;
  plus_sign_suffix = text_at bytes 3;
  decimal_separator = text_at bytes 4;
  grouping_separator = text_at bytes 5;
  numsys = text_at bytes 6;
}

-- What the one byte string of symbols is. It passes the five tests below, and is the packing of its texts, which may be
-- symbols.
pub record IsSymbolBytes (bytes : List ℕ) : Type 0 where
  pub counted : 7 ≤ length bytes
  pub short : sum (take 7 bytes) ≤ 255
  pub whole : length bytes ≡ text_start bytes 7
  pub texts : (index : ℕ) → index < 7 → IsTrue (is_utf8 (text_at bytes index))
  pub system : IsNumberingSystem (text_at bytes 6)

-- ---- the first damage, by five tests in order

-- the first answer, or else the second
abbrev pub or_else : Option ℕ → Option ℕ → Option ℕ
or_else None second = second
or_else (Some byte) second = Some byte

-- the index of the length with which the sum exceeds 255; indices count from `at` on, and the sum from `before` on
abbrev pub first_passing : ℕ → ℕ → List ℕ → Option ℕ
first_passing at before [] = None
first_passing at before (n ∷ ns) = if nat_lt 255 (before + n) then Some at else first_passing (at + 1) (before + n) ns

-- bytes whose number isn't the one that the lengths give are damaged where the shorter of the two ends
abbrev pub wrong_length : List ℕ → Option ℕ
wrong_length bytes = if length bytes == text_start bytes 7 then None else Some (min (length bytes) (text_start bytes 7))

-- where the first of n texts from an index on that isn't UTF-8 by itself begins
abbrev pub first_no_text : List ℕ → ℕ → ℕ → Option ℕ
first_no_text bytes index zero = None
first_no_text bytes index (suc n) = if is_utf8 (text_at bytes index) then first_no_text bytes (index + 1) n else Some (text_start bytes index)

-- where the last text begins, if it doesn't name a numbering system
abbrev pub wrong_system : List ℕ → Option ℕ
wrong_system bytes = if is_numbering_system (text_at bytes 6) then None else Some (text_start bytes 6)

-- The offset of the first damage, or none in the bytes of symbols. In order: fewer than seven bytes; lengths of more than 255
-- together; another number of bytes than the lengths give; a text that isn't UTF-8; a last text that names no numbering
-- system.
unfoldable pub first_damage : List ℕ → Option ℕ
first_damage bytes =
    if nat_lt (length bytes) 7 then Some (length bytes)
    else or_else (first_passing 0 0 (take 7 bytes)) (or_else (wrong_length bytes) (or_else (first_no_text bytes 0 7) (wrong_system bytes)))

-- ---- what holds of all symbols

-- The byte string of symbols isn't damaged, and the texts in it are theirs.
abbrev pub IsReadAgain : SymbolTexts → Type 0
IsReadAgain s = (first_damage (symbol_bytes s) ≡ None) × (texts_in (symbol_bytes s) ≡ s)

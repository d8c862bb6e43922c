-- The texts of locales, as `en` or `ar-EG`.
use Rattle.std.specs.Prelude.{ℕ, Bool, ◌&&◌, nat_le, IsTrue, List, length}
use Rattle.std.specs.List.{list_all}
use Rattle.icu_provider.specs.Ascii.{is_alphanumeric_or_hyphen}

-- one to sixty-three letters, digits or hyphens
unfoldable pub is_locale : List ℕ → Bool
is_locale text = nat_le 1 (length text) && (nat_le (length text) 63 && list_all is_alphanumeric_or_hyphen text)

-- A text can name a locale: it is 1 to 63 ASCII letters, digits or hyphens, the bytes of a Unicode locale identifier
-- (UTS 35). Which subtags it has isn't judged.
abbrev pub IsLocale : List ℕ → Type 0
IsLocale text = IsTrue (is_locale text)

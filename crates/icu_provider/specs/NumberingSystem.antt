-- The names of numbering systems, as `latn` or `arab`.
use Rattle.std.specs.Prelude.{ℕ, Bool, ◌&&◌, nat_le, IsTrue, List, length}
use Rattle.std.specs.List.{list_all}
use Rattle.icu_provider.specs.Ascii.{is_lower_alphanumeric}

-- three to eight lower-case letters or digits
unfoldable pub is_numbering_system : List ℕ → Bool
is_numbering_system text = nat_le 3 (length text) && (nat_le (length text) 8 && list_all is_lower_alphanumeric text)

-- A text names a numbering system: it is 3 to 8 ASCII lower-case letters or digits (UTS 35, the type of
-- the key `nu`, in lower case).
abbrev pub IsNumberingSystem : List ℕ → Type 0
IsNumberingSystem text = IsTrue (is_numbering_system text)

-- Codes of currencies.
use Rattle.std.specs.Prelude.{ℕ, List, Bool, ◌&&◌, ◌==◌, nat_le, IsTrue, length}
use Rattle.std.specs.List.{list_all}

-- a capital letter of ASCII
abbrev pub is_capital : ℕ → Bool
is_capital b = nat_le 65 b && nat_le b 90

-- three capital letters of ASCII
unfoldable pub is_currency_code : List ℕ → Bool
is_currency_code text = length text == 3 && list_all is_capital text

-- a text that is the code of a currency (ISO 4217): three capital letters of ASCII
abbrev pub IsCurrencyCode : List ℕ → Type 0
IsCurrencyCode text = IsTrue (is_currency_code text)

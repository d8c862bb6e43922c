-- Lists of digits as rounding leaves them.
use Rattle.std.specs.Prelude.{ℕ, List, ◌++◌, Option, option_to_list, replicate, take}

-- the first `kept` digits, then the digit that a carry raised, if there is one, then zeros
abbrev pub digits_left : List ℕ → ℕ → Option ℕ → ℕ → List ℕ
digits_left ds kept raised zeros = (take kept ds ++ option_to_list raised) ++ replicate zeros 0

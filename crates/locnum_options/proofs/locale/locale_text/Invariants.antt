use Rattle.std.proofs.Common.{◌≡◌, ◌+◌, ◌++◌, length, option_map, Some, None, ℕ}
use Rattle.std.specs.Prelude.{Option, List}
use Rattle.std.specs.Borrow.{Bor}
use Rattle.locnum_options.specs.Locale.{behind_language, locale_text, subtags_left}
use Rattle.locnum_options.proofs.locale.locale_text.Given as goal

-- what is written goes before what is left
abbrev pub invariant-loop-rest : goal.invariant-loop-rest
invariant-loop-rest l = locale_text l.text ≡ l.out.items ++ behind_language l.is_small (subtags_left (option_map (λ t. t.now) l.rest))

abbrev pub size_left : Option (Bor (List ℕ)) → ℕ
size_left None = 0
size_left (Some text) = length text.now + 1

abbrev pub decreases-loop-rest : goal.decreases-loop-rest
decreases-loop-rest l = size_left l.rest

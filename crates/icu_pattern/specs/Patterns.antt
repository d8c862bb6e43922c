-- Patterns: texts with at most one placeholder for a value.
use Rattle.std.specs.Prelude.{Bool, true, ◌&&◌, ◌||◌, ℕ, List, [], ◌++◌, Option, Some, None, IfSome, is_none, nat_eq, nat_le, nat_lt, length}
use Rattle.std.specs.Prelude.{take, drop, slice_index}
use Rattle.std.specs.Cmp.Lexicographic.{pointwise}
use Rattle.std.specs.Option.{option_eq, option_map_or}
use Rattle.std.specs.Ordering.{eq_of_both, on}
use Rattle.std.specs.Str.{IsCharBoundary}
use Rattle.writeable.specs.Events.{Event, text_events}

-- A pattern: the bytes of its literal, and its placeholder, if it has one: a byte offset into the literal, where the value
-- is inserted. The pattern that is usually written `{0}K` has the placeholder 0 and the literal `K`.
pub record PatternText : Type 0 where
  pub placeholder : Option ℕ
  pub literal : List ℕ

-- the placeholder, if there is one, is where a character of the literal begins, or at the literal's end
abbrev pub PlaceholderFits : PatternText → Type 0
PlaceholderFits p = IfSome p.placeholder (λ k. IsCharBoundary p.literal k)

-- The test for this: a character of the text begins at byte k, or the text ends there. In UTF-8 the bytes 128 to 191
-- continue a character.
abbrev pub is_boundary : List ℕ → ℕ → Bool
is_boundary text k = nat_le k (length text) && (nat_le (length text) k || (nat_lt (slice_index text k) 128 || nat_le 192 (slice_index text k)))

-- no placeholder, or one that fits
abbrev pub has_fitting_placeholder : PatternText → Bool
has_fitting_placeholder p = option_map_or (is_boundary p.literal) p.placeholder true

-- no placeholder
abbrev pub has_no_placeholder : PatternText → Bool
has_no_placeholder p = is_none p.placeholder

-- the pattern that is a placeholder alone: it writes a value as it is
abbrev pub placeholder_alone : PatternText
placeholder_alone = record { placeholder = Some 0; literal = [] }

-- the events of a literal with the events es inserted after its first k bytes; without an offset those of the literal alone
abbrev pub around : List ℕ → Option ℕ → List Event → List Event
around literal None es = text_events literal
around literal (Some k) es = text_events (take k literal) ++ (es ++ text_events (drop k literal))

-- the events of a pattern with a value: the characters before the placeholder, the events of the value, the characters after
-- it; without a placeholder the characters of the literal, and no value
abbrev pub interpolated : PatternText → List Event → List Event
interpolated p es = around p.literal p.placeholder es

-- two patterns are equal where both their placeholders and their literals are
abbrev pub same_pattern : PatternText → PatternText → Bool
same_pattern = eq_of_both (on (λ (p : PatternText). p.placeholder) (option_eq nat_eq)) (on (λ (p : PatternText). p.literal) (pointwise nat_eq))

-- The text between the two numbers of a range (UTS 35 Part 3, Miscellaneous Patterns: the pattern `range`).
use Rattle.std.specs.Prelude.{◌≡◌, ◌≢◌, ℕ, ◌<◌, Bool, false, not, ◌==◌}
use Rattle.std.specs.Prelude.{◌||◌, List, [], ◌∷◌, ◌++◌, length, chars, codes, get_or}
use Rattle.std.specs.Prelude.{Option, Some, None, if◌then◌else◌}
use Rattle.writeable.specs.Events.{Event, text_events}
use Rattle.writeable.specs.Events.Event.{Char}
use Rattle.icu_ranges.specs.declared.edges.Edges.{Edges}
use Rattle.icu_ranges.specs.Edges.{last_of}

-- none of the bytes is this one
abbrev pub Lacks : ℕ → List ℕ → Type 0
Lacks byte text = (i : ℕ) → i < length text → get_or text i 0 ≢ byte

-- A text is a range pattern with this separator: `{0}`, some text without braces, and `{1}`.
pub record IsRangePattern (text separator : List ℕ) : Type 0 where
  pub places : text ≡ codes "{0}" ++ (separator ++ codes "{1}")
  pub some : separator ≢ []
  pub no_opening_brace : Lacks 123 separator
  pub no_closing_brace : Lacks 125 separator

-- white space in patterns (UAX 31, `Pattern_White_Space`)
abbrev pub is_pattern_white_space : ℕ → Bool
is_pattern_white_space c = c == 9 || c == 10 || c == 11 || c == 12 || c == 13 || c == 32 || c == 133 || c == 8206 || c == 8207 || c == 8232 || c == 8233

-- a separator, whether a space stands before it and after it where it is spaced, and the approximately sign
pub record Separator : Type 0 where
  pub text : List ℕ
  pub space_before : Bool
  pub space_after : Bool
  pub approximately : List ℕ

-- characters begin with one that isn't white space
abbrev pub begins_with_ink : List ℕ → Bool
begins_with_ink [] = false
begins_with_ink (c ∷ cs) = not (is_pattern_white_space c)

-- they end with one that isn't white space
abbrev pub ends_with_ink : List ℕ → Bool
ends_with_ink [] = false
ends_with_ink (c ∷ cs) = not (is_pattern_white_space (last_of c cs))

-- the first character isn't white space
abbrev pub has_ink_first : Option Edges → Bool
has_ink_first None = false
has_ink_first (Some e) = not (is_pattern_white_space e.first)

-- the last character isn't white space
abbrev pub has_ink_last : Option Edges → Bool
has_ink_last None = false
has_ink_last (Some e) = not (is_pattern_white_space e.last)

-- the separator of a text: a space stands on each side where the text has no white space of its own; the approximately sign is that
-- of CLDR's root
abbrev pub separator_of : List ℕ → Separator
separator_of text = record {
  text = text;
  space_before = begins_with_ink (chars text);
  space_after = ends_with_ink (chars text);
  approximately = codes "~";
}

-- the same separator, with another approximately sign
abbrev pub with_approximately : List ℕ → Separator → Separator
with_approximately sign s = record {
  text = s.text;
  space_before = s.space_before;
  space_after = s.space_after;
  approximately = sign;
}

-- a space, or nothing
abbrev pub space_if : Bool → List Event
space_if wanted = if wanted then Char 32 ∷ [] else []

-- the separator as it is written between two numbers that are bare
abbrev pub plain_events : Separator → List Event
plain_events s = text_events s.text

-- the separator as it is written between all others: with spaces around it
abbrev pub spaced_events : Separator → List Event
spaced_events s = space_if s.space_before ++ (text_events s.text ++ space_if s.space_after)

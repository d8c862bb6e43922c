-- The characters of two texts with a separator between them.
use Rattle.std.proofs.Common.{◌≡◌, ◌≢◌, ℕ, refl, sym, ap₂, ◌∙◌, List, ◌++◌, append_assoc, append-nil, Bool, true, false, ◌&&◌}
use Rattle.std.proofs.Common.{if◌then◌else◌}
use Rattle.std.specs.Str.{chars}
use Rattle.writeable.specs.Events.{Event, characters, text_events, text_of}
use Rattle.writeable.specs.Writes.{characters-append}
use Rattle.writeable.proofs.EventLemmas.{characters-map_Char}
use Rattle.icu_ranges.specs.declared.options.RangeIdentityFallback.{RangeIdentityFallback}
use Rattle.icu_ranges.specs.declared.options.RangeIdentityFallback.TheVariants.{SingleValue, Approximately, Range}
use Rattle.icu_ranges.specs.Joined.{between, is_bare, joined}
use Rattle.icu_ranges.specs.Ranges.{is_single, single_of}
use Rattle.icu_ranges.specs.Separator.{Separator, plain_events, space_if, spaced_events}
use Rattle.icu_ranges.proofs.PatternCuts.{bytes_true}
use Rattle.icu_ranges_readable.proofs.Spaces.{spaces}

-- a space, or nothing
characters-space_if : (b : Bool) → characters (space_if b) ≡ spaces b
characters-space_if true = refl
characters-space_if false = refl

-- texts that are written as one are equal
pub single_same : (fallback : RangeIdentityFallback) (es fs : List Event) → is_single fallback es fs ≡ true → text_of es ≡ text_of fs
single_same SingleValue es fs e = bytes_true (text_of es) (text_of fs) e
single_same Approximately es fs e = bytes_true (text_of es) (text_of fs) e
single_same Range es fs e = cc

-- without the approximately sign such a text is the first
pub single_exact : (fallback : RangeIdentityFallback) (es fs : List Event) → fallback ≢ Approximately → single_of fallback es fs ≡ es
single_exact SingleValue es fs exact = refl
single_exact Approximately es fs exact = absurd (exact refl)
single_exact Range es fs exact = refl

module _ (separator : Separator) where
  -- the separator, with a space on each side or none
  record IsBetween (cs : List ℕ) : Type 0 where
    back : Bool
    next : Bool
    all : cs ≡ spaces back ++ (chars separator.text ++ spaces next)

  plain_between : IsBetween (characters (plain_events separator))
  plain_between = record {
    back = false;
    next = false;
    all = characters-map_Char (chars separator.text) ∙ sym (append-nil (chars separator.text));
  }

  spaced_between : IsBetween (characters (spaced_events separator))
  spaced_between = record {
    back = separator.space_before;
    next = separator.space_after;
    all = characters-append (space_if separator.space_before) (text_events separator.text ++ space_if separator.space_after)
        ∙ ap₂ ◌++◌ (characters-space_if separator.space_before)
        (characters-append (text_events separator.text) (space_if separator.space_after)
        ∙ ap₂ ◌++◌ (characters-map_Char (chars separator.text)) (characters-space_if separator.space_after));
  }

  -- what stands between two texts
  is_between : (first second : List ℕ) → IsBetween (characters (between separator first second))
  is_between first second =
      elim (is_bare first && is_bare second)
      as (λ b. IsBetween (characters (if b then plain_events separator else spaced_events separator)))
      [ true ↦ plain_between | false ↦ spaced_between ]

  -- characters of two texts, each a number between others, with the separator between them
  pub record AreJoined (a b c i j k cs : List ℕ) : Type 0 where
    pub back : Bool
    pub next : Bool
    pub all : cs ≡ a ++ (b ++ ((c ++ (spaces back ++ (chars separator.text ++ (spaces next ++ i)))) ++ (j ++ k)))

  -- lists that are joined from the other side
  regrouped : (a b c d e g i j k : List ℕ) →
      (a ++ (b ++ c)) ++ ((d ++ (e ++ g)) ++ (i ++ (j ++ k))) ≡ a ++ (b ++ ((c ++ (d ++ (e ++ (g ++ i)))) ++ (j ++ k)))
  regrouped a b c d e g i j k = simp (append_assoc)

  -- joined texts are such
  pub are_joined : (one other : List Event) (a b c i j k : List ℕ) → characters one ≡ a ++ (b ++ c) → characters other ≡ i ++ (j ++ k) →
      AreJoined a b c i j k (characters (joined separator one other))
  are_joined one other a b c i j k first second =
      let m = is_between (characters one) (characters other) in
      record {
        back = m.back;
        next = m.next;
        all = characters-append one (between separator (characters one) (characters other) ++ other)
            ∙ ap₂ ◌++◌ first (characters-append (between separator (characters one) (characters other)) other ∙ ap₂ ◌++◌ m.all second)
            ∙ regrouped a b c (spaces m.back) (chars separator.text) (spaces m.next) i j k;
      }

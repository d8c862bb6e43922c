-- A text has no part of a sign.
use Rattle.std.proofs.Common.{◌≡◌, ℕ, Bool, true, false, List, [], ◌∷◌, refl, ap}
use Rattle.std.specs.Prelude.{map}
use Rattle.std.specs.Str.{chars}
use Rattle.writeable.specs.Events.{text_events}
use Rattle.writeable.specs.Events.Event.{Char}
use Rattle.icu_ranges.specs.Approximately.{leaves_out_after, marked}

-- characters stay as they are
marked-characters : (sign : List ℕ) (alone : Bool) (cs : List ℕ) → marked sign alone false (map Char cs) ≡ map Char cs
marked-characters sign alone [] = refl
marked-characters sign alone (c ∷ cs) = ap (λ l. Char c ∷ l) (marked-characters sign alone cs)

-- or all are left out
marked-left_out : (sign : List ℕ) (alone : Bool) (cs : List ℕ) → marked sign alone true (map Char cs) ≡ []
marked-left_out sign alone [] = refl
marked-left_out sign alone (c ∷ cs) = marked-left_out sign alone cs

-- and what is left out behind them is what was before
left_out-characters : (alone left_out : Bool) (cs : List ℕ) → leaves_out_after alone left_out (map Char cs) ≡ left_out
left_out-characters alone left_out [] = refl
left_out-characters alone left_out (c ∷ cs) = left_out-characters alone left_out cs

-- the same of a text
pub marked-text : (sign : List ℕ) (alone : Bool) (text : List ℕ) → marked sign alone false (text_events text) ≡ text_events text
marked-text sign alone text = marked-characters sign alone (chars text)

pub marked-text_left_out : (sign : List ℕ) (alone : Bool) (text : List ℕ) → marked sign alone true (text_events text) ≡ []
marked-text_left_out sign alone text = marked-left_out sign alone (chars text)

pub left_out-text : (alone left_out : Bool) (text : List ℕ) → leaves_out_after alone left_out (text_events text) ≡ left_out
left_out-text alone left_out text = left_out-characters alone left_out (chars text)

-- the rules for the events of a text
pub ruleset mark_steps = (marked-text, marked-text_left_out, left_out-text)

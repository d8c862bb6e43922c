-- The keys of the choices that are open, and the choices that were begun.
use Rattle.std.specs.Prelude.{ℕ, Bool, ◌==◌, ◌&&◌, ◌||◌, nat_le, List, [], ◌∷◌, false, Option, Some, None, if◌then◌else◌}
use Rattle.std.specs.List.{filter}
use Rattle.icu_message.specs.declared.piece.Word.{Word}
use Rattle.icu_message.specs.declared.piece.OpenKey.{OpenKey}
use Rattle.icu_message.specs.declared.piece.BegunChoice.{BegunChoice}
use Rattle.icu_message.specs.declared.piece.ChoiceKind.{ChoiceKind}
use Rattle.icu_message.specs.declared.piece.ChoiceKind.TheVariants.{Select}
use Rattle.icu_message.specs.Words.{same_words, is_other}
use Rattle.icu_message.specs.Names.{are_apart}

-- the innermost choice has this key
abbrev pub has_key : List ℕ → ℕ → Word → List OpenKey → Bool
has_key text level w [] = false
has_key text level w (k ∷ ks) = (k.level == level && same_words text k.word w) || has_key text level w ks

-- the innermost choice has a key
abbrev pub has_keys : ℕ → List OpenKey → Bool
has_keys level [] = false
has_keys level (k ∷ ks) = k.level == level || has_keys level ks

-- the innermost choice has the key `other`
abbrev pub has_other : List ℕ → ℕ → List OpenKey → Bool
has_other text level [] = false
has_other text level (k ∷ ks) = (k.level == level && is_other text k.word) || has_other text level ks

-- the keys of the choices down to a level
abbrev pub keys_to : ℕ → List OpenKey → List OpenKey
keys_to level keys = filter (λ k. nat_le k.level level) keys

-- a name, if the kind picks by a number
abbrev pub number_named : {A : Type 0} → ChoiceKind → A → Option A
number_named Select name = None
number_named _ name = Some name

-- the name of the number by which the last choice of a level picks, if it picks by one
abbrev pub counted_from : Option Word → ℕ → List BegunChoice → Option Word
counted_from found level [] = found
counted_from found level (c ∷ cs) = counted_from (if c.level == level then number_named c.kind c.name else found) level cs

-- the same, where no choice was passed yet
abbrev pub counted_at : ℕ → List BegunChoice → Option Word
counted_at level choices = counted_from None level choices

-- a choice of the other sort was begun by the same name
abbrev pub has_other_kind : List ℕ → ChoiceKind → Word → List BegunChoice → Bool
has_other_kind text kind w [] = false
has_other_kind text kind w (c ∷ cs) = (are_apart c.kind kind && same_words text c.name w) || has_other_kind text kind w cs

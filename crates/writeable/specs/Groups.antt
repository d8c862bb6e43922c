-- Items in groups of given sizes, with a separator between two.
use Rattle.std.specs.Prelude.{ℕ, ◌==◌, List, [], ◌∷◌, ◌++◌, length, map, Option, Some, None, if◌then◌else◌}
use Rattle.writeable.specs.Events.{Event, text_events, digit_events, text_of}
use Rattle.writeable.specs.Events.Event.{Open, Close}
use Rattle.writeable.specs.declared.groups.Grouping.{Grouping}
use Rattle.writeable.specs.declared.sink.Part.{Part}

-- groups with one more digit in front: in the first group, or in a new group where the first is full
abbrev pub put_before : {A : Type 0} → ℕ → ℕ → A → List (List A) → List (List A)
put_before primary secondary x [] = (x ∷ []) ∷ []
put_before primary secondary x (g ∷ []) = if length g == primary then (x ∷ []) ∷ g ∷ [] else (x ∷ g) ∷ []
put_before primary secondary x (g ∷ h ∷ gs) = if length g == secondary then (x ∷ []) ∷ g ∷ h ∷ gs else (x ∷ g) ∷ h ∷ gs

-- the digits in groups, cut from the end: the last group has the primary size, those before it the secondary size, and
-- the first has what is left
abbrev pub cut : {A : Type 0} → ℕ → ℕ → List A → List (List A)
cut primary secondary [] = []
cut primary secondary (x ∷ xs) = put_before primary secondary x (cut primary secondary xs)

-- the groups, one after another, with a separator before each
abbrev pub joined_after : {A : Type 0} → List A → List (List A) → List A
joined_after separator [] = []
joined_after separator (g ∷ gs) = separator ++ (g ++ joined_after separator gs)

-- the groups with a separator between two
abbrev pub joined : {A : Type 0} → List A → List (List A) → List A
joined separator [] = []
joined separator (g ∷ gs) = g ++ joined_after separator gs

-- the digits of each group, one character each
abbrev pub group_events : List ℕ → List (List ℕ) → List (List Event)
group_events characters groups = map (digit_events characters) groups

-- the text of each group's digits
abbrev pub group_texts : List ℕ → List (List ℕ) → List (List ℕ)
group_texts characters groups = map (λ g. text_of (digit_events characters g)) groups

-- the events of a text, inside of the part where one is given
abbrev pub text_in : Option Part → List ℕ → List Event
text_in None text = text_events text
text_in (Some part) text = Open part.category.now part.value.now ∷ (text_events text ++ Close ∷ [])

-- the events of the separator
abbrev pub separator_events : Grouping → List Event
separator_events grouping = text_in grouping.part grouping.separator.now

-- digits in groups, one character each, with the separator between two
abbrev pub grouped_events : Grouping → List ℕ → List ℕ → List Event
grouped_events grouping characters digits =
    joined (separator_events grouping) (group_events characters (cut grouping.primary grouping.secondary digits))

-- Digits in groups (UTS 35, Number Formats: primary and secondary grouping sizes, minimum grouping digits).
use Rattle.std.specs.Prelude.{◌≡◌, ℕ, ◌+◌, ◌-◌, ◌*◌, ◌^◌, ◌<◌, ◌≤◌, ◌↔◌, Bool, true, false, IsTrue, not, ◌&&◌}
use Rattle.std.specs.Prelude.{◌==◌, nat_le, max, List, [], ◌∷◌, ◌++◌, length, All, ℤ, pos, ◌+ℤ◌, ◌≤ℤ◌, if◌then◌else◌}
use Rattle.std.specs.List.{flat_map}
pub use Rattle.writeable.specs.Groups.{put_before, cut, joined_after, joined}
use Rattle.icu_decimal_options.specs.declared.options.GroupingStrategy.{GroupingStrategy}
use Rattle.icu_decimal_options.specs.declared.options.GroupingStrategy.TheVariants.{Auto, Never, Always, Min2}
use Rattle.icu_decimal_symbols.specs.declared.grouping_sizes.GroupingSizes.{GroupingSizes}

-- the lists, one after another
abbrev pub concatenated : {A : Type 0} → List (List A) → List A
concatenated groups = flat_map (λ g. g) groups

-- digits in two or more groups: the last has the primary size, those between it and the first have
-- the secondary size, and the first has one digit to the secondary size
pub record IsGrouping {A : Type 0} (digits : List A) (primary secondary : ℕ) (groups : List (List A)) : Type 0 where
  pub first : List A
  pub inner : List (List A)
  pub last : List A
  pub parts : groups ≡ first ∷ (inner ++ last ∷ [])
  pub whole : concatenated groups ≡ digits
  pub first_some : 0 < length first
  pub first_at_most : length first ≤ secondary
  pub inner_sizes : All (λ g. length g ≡ secondary) inner
  pub last_size : length last ≡ primary

-- the size of the groups before the last one; 0 stands for the primary size
abbrev pub secondary_size : GroupingSizes → ℕ
secondary_size sizes = if sizes.secondary == 0 then sizes.primary else sizes.secondary

-- the least number of digits that have to stand before the last group
abbrev pub least_before : GroupingStrategy → GroupingSizes → ℕ
least_before Auto sizes = max 1 sizes.min_grouping
least_before Never sizes = max 1 sizes.min_grouping
least_before Always sizes = max 1 sizes.min_grouping
least_before Min2 sizes = max 2 sizes.min_grouping

-- whether a strategy ever groups
abbrev pub groups_ever : GroupingStrategy → Bool
groups_ever Auto = true
groups_ever Never = false
groups_ever Always = true
groups_ever Min2 = true

-- whether this many digits are grouped
abbrev pub is_grouped : ℕ → GroupingSizes → GroupingStrategy → Bool
is_grouped count sizes strategy =
    groups_ever strategy && (not (sizes.primary == 0) && nat_le (least_before strategy sizes) (count - sizes.primary))

-- the greatest count of digits that are not grouped, as far as counts fit in 64 bits
abbrev pub IsLongestUngrouped : ℕ → GroupingSizes → GroupingStrategy → Type 0
IsLongestUngrouped longest sizes strategy =
    (count : ℕ) → count < 2 ^ 64 → (IsTrue (is_grouped count sizes strategy) ↔ longest < count)

-- the groups of an integer's digits
abbrev pub digit_groups : {A : Type 0} → List A → GroupingSizes → GroupingStrategy → List (List A)
digit_groups digits sizes strategy =
    if is_grouped (length digits) sizes strategy then cut sizes.primary (secondary_size sizes) digits else digits ∷ []

-- a group other than the last ends with the digit at a magnitude: that many digits stand in the groups after it
pub record EndsGroup {A : Type 0} (groups : List (List A)) (magnitude : ℕ) : Type 0 where
  pub before : List (List A)
  pub group : List A
  pub next : List A
  pub after : List (List A)
  pub parts : groups ≡ before ++ group ∷ next ∷ after
  pub digits_after : length (concatenated (next ∷ after)) ≡ magnitude

-- the rule of a separator after the digit at a magnitude, for any greatest magnitude of a number
pub record HasSeparatorAfter (upper magnitude : ℤ) (strategy : GroupingStrategy) (sizes : GroupingSizes) : Type 0 where
  pub groups : IsTrue (groups_ever strategy)
  pub primary_some : 0 < sizes.primary
  pub enough : pos (sizes.primary + least_before strategy sizes) ≤ℤ (upper +ℤ pos 1)
  pub groups_between : ℕ
  pub at : magnitude ≡ pos (sizes.primary + groups_between * secondary_size sizes)

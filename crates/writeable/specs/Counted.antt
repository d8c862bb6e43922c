-- How many digits come before the next separator.
use Rattle.std.specs.Prelude.{◌≡◌, ℕ, ◌+◌, ◌-◌, ◌%◌, ◌<◌, ◌≤◌, ◌==◌, if◌then◌else◌}

-- `left` digits come before the next separator or the end, where the last `count` digits are still to be written
abbrev pub IsGap : ℕ → ℕ → ℕ → ℕ → Type 0
IsGap primary secondary count left =
    (count ≤ primary → left ≡ count) × (primary < count → left ≡ (count - primary - 1) % secondary + 1)

-- how many digits the next group has, where `count` digits are left and a group begins with them
abbrev pub next_size : ℕ → ℕ → ℕ → ℕ
next_size primary secondary count = if count == primary then primary else secondary

-- a group ends before the last r digits: these are the primary group and whole secondary groups before it
abbrev pub IsDue : ℕ → ℕ → ℕ → Type 0
IsDue p s r = (p ≤ r) × ((r - p) % s ≡ 0)

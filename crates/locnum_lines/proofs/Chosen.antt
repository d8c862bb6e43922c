-- Whether a field is chosen, range by range.
use Rattle.std.proofs.Common.{◌≡◌, ℕ, ◌+◌, ◌<◌, ◌≤◌, true, false, List, length, get_or, drop, refl}
use Rattle.std.proofs.Common.{arith}
use Rattle.std.specs.Prelude.{nat_le}
use Rattle.std.proofs.lemmas.Bool.Decides.{nat_tests}
use Rattle.std.proofs.lemmas.List.{drop_all, drop_more}
use Rattle.locnum_lines.specs.Settings.{is_chosen}
use Rattle.locnum_lines.specs.declared.settings.FieldRange.{FieldRange}

abbrev pub no_range : FieldRange
no_range = record { first = 0; last = 0 }

module _ (ranges : List FieldRange) (index n : ℕ) (inside : n < length ranges) where
  -- in this range
  pub chosen-here : (get_or ranges n no_range).first ≤ index → index ≤ (get_or ranges n no_range).last → is_chosen (drop n ranges) index ≡ true
  unfolding is_chosen
  chosen-here low high =
      let a : nat_le (get_or ranges n no_range).first index ≡ true = grind (arith, nat_tests) in
      let b : nat_le index (get_or ranges n no_range).last ≡ true = grind (arith, nat_tests) in
      rw (drop_more ranges n no_range inside, a, b) refl

  -- before it
  pub chosen-before : index < (get_or ranges n no_range).first → is_chosen (drop n ranges) index ≡ is_chosen (drop (n + 1) ranges) index
  unfolding is_chosen
  chosen-before low =
      let a : nat_le (get_or ranges n no_range).first index ≡ false = grind (arith, nat_tests) in
      rw (drop_more ranges n no_range inside, a) refl

  -- behind it
  pub chosen-behind : (get_or ranges n no_range).first ≤ index → (get_or ranges n no_range).last < index →
      is_chosen (drop n ranges) index ≡ is_chosen (drop (n + 1) ranges) index
  unfolding is_chosen
  chosen-behind low high =
      let a : nat_le (get_or ranges n no_range).first index ≡ true = grind (arith, nat_tests) in
      let b : nat_le index (get_or ranges n no_range).last ≡ false = grind (arith, nat_tests) in
      rw (drop_more ranges n no_range inside, a, b) refl

-- in no range
pub chosen-none : (ranges : List FieldRange) (index n : ℕ) → length ranges ≤ n → is_chosen (drop n ranges) index ≡ false
unfolding is_chosen
chosen-none ranges index n past = rw (drop_all n ranges past) refl

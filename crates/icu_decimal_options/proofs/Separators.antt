-- Where `check` puts separators, and where the groups end.
use Rattle.std.proofs.Common.{◌≡◌, ℕ, ◌<◌, ◌≤◌, ◌+◌, ◌-◌, ◌*◌, ◌/◌, ◌%◌, ◌↔◌, IsTrue, Bool, true, false, not, List}
use Rattle.std.proofs.Common.{[], ◌∷◌, ◌++◌, length, inl, inr, refl, sym, ap, ◌∙◌, arith, ne_eqb, ℤ, pos}
use Rattle.std.specs.Prelude.{◌==◌, ◌&&◌, nat_le}
use Rattle.std.proofs.lemmas.Int.{ints}
use Rattle.std.proofs.lemmas.Bool.{false≢true, and_parts}
use Rattle.std.proofs.lemmas.Bool.Decides.{nat_tests, eqb_tells}
use Rattle.std.proofs.Math.Nat.{mul-mod_left}
use Rattle.icu_decimal_options.specs.declared.options.GroupingStrategy.{GroupingStrategy}
use Rattle.icu_decimal_options.specs.declared.options.GroupingStrategy.TheVariants.{Auto, Never, Always, Min2}
use Rattle.icu_decimal_symbols.specs.declared.grouping_sizes.GroupingSizes.{GroupingSizes}
use Rattle.icu_decimal_options.specs.Grouping.{secondary_size, least_before, groups_ever, is_grouped, digit_groups, EndsGroup, HasSeparatorAfter}
use Rattle.icu_decimal_options.proofs.Groupings.{IsDue, EndsGroup-cut}

module _ (strategy : GroupingStrategy) (sizes : GroupingSizes) where
  -- what has to hold for that many digits to be grouped
  pub record Groups (count : ℕ) : Type 0 where
    pub ever : groups_ever strategy ≡ true
    pub primary_some : 0 < sizes.primary
    pub enough : least_before strategy sizes ≤ count - sizes.primary

  pub groups-from : (count : ℕ) → is_grouped count sizes strategy ≡ true → Groups count
  groups-from count e =
      let first = and_parts (groups_ever strategy) (not (sizes.primary == 0) && nat_le (least_before strategy sizes) (count - sizes.primary)) e in
      let second = and_parts (not (sizes.primary == 0)) (nat_le (least_before strategy sizes) (count - sizes.primary)) first.1 in
      record { ever = first.0; primary_some = grind (arith, nat_tests, second.0); enough = grind (arith, nat_tests, second.1) }

  pub groups-to : (count : ℕ) → Groups count → is_grouped count sizes strategy ≡ true
  groups-to count g =
      let some : (sizes.primary == 0) ≡ false = ne_eqb sizes.primary 0 (λ e. omega (arith, g.primary_some)) in
      let least : nat_le (least_before strategy sizes) (count - sizes.primary) ≡ true = grind (arith, nat_tests, g.enough) in
      rw (g.ever, some, least) refl

  pub least_some : 0 < least_before strategy sizes
  least_some = go strategy
    where
      go : (k : GroupingStrategy) → 0 < least_before k sizes
      go Auto = omega arith
      go Never = omega arith
      go Always = omega arith
      go Min2 = omega arith

  pub secondary_some : 0 < sizes.primary → 0 < secondary_size sizes
  secondary_some h = elim (eqb_tells sizes.secondary 0) [
    | inl t ↦ rw t.0 h
    | inr f ↦ rw f.0 (omega (arith, f.1))
  ]

  -- the digit at m, where that many digits are grouped
  pub check-grouped : (digits : List ℕ) (m : ℕ) (result : Bool) → is_grouped (length digits) sizes strategy ≡ true → m < length digits →
      (IsTrue result ↔ IsDue sizes.primary (secondary_size sizes) m) → (IsTrue result ↔ EndsGroup (digit_groups digits sizes strategy) m)
  check-grouped digits m result e h due =
      let g = groups-from (length digits) e in
      let ends = EndsGroup-cut sizes.primary (secondary_size sizes) digits m g.primary_some (secondary_some g.primary_some) h in
      rw e (λ t. ends.1 (due.0 t), λ k. due.1 (ends.0 k))

  -- and where they are not
  pub check-ungrouped : (digits : List ℕ) (m : ℕ) → is_grouped (length digits) sizes strategy ≡ false →
      EndsGroup (digit_groups digits sizes strategy) m → ⊥
  check-ungrouped digits m e = rw e (λ k. one_group k.before k.group k.next k.after k.parts)
    where
      one_group : (before : List (List ℕ)) (group next : List ℕ) (after : List (List ℕ)) → digits ∷ [] ≡ before ++ group ∷ next ∷ after → ⊥
      one_group [] group next after f = absurd (omega (arith, ap length f))
      one_group (b ∷ []) group next after f = absurd (omega (arith, ap length f))
      one_group (b ∷ c ∷ before) group next after f = absurd (omega (arith, ap length f))

  -- the rule for any magnitudes
  pub rule-grouped : (upper m : ℕ) (result : Bool) → is_grouped (upper + 1) sizes strategy ≡ true →
      (IsTrue result ↔ IsDue sizes.primary (secondary_size sizes) m) → (IsTrue result ↔ HasSeparatorAfter (pos upper) (pos m) strategy sizes)
  rule-grouped upper m result e due = (to_rule, from_rule)
    where
      to_rule : IsTrue result → HasSeparatorAfter (pos upper) (pos m) strategy sizes
      to_rule t =
          let g = groups-from (upper + 1) e in
          let d = due.0 t in
          let some = secondary_some g.primary_some in
          let least = least_some in
          let whole : m - sizes.primary ≡ (m - sizes.primary) / secondary_size sizes * secondary_size sizes = omega (arith, d.1) in
          let sum : m ≡ sizes.primary + (m - sizes.primary) / secondary_size sizes * secondary_size sizes = omega (arith, d.0, whole) in
          record {
            groups = g.ever;
            primary_some = g.primary_some;
            enough = omega (arith, ints, g.enough, least);
            groups_between = (m - sizes.primary) / secondary_size sizes;
            at = ap pos sum;
          }

      from_rule : HasSeparatorAfter (pos upper) (pos m) strategy sizes → IsTrue result
      from_rule r =
          let sum : m ≡ sizes.primary + r.groups_between * secondary_size sizes = omega (arith, ints, r.at) in
          let rest : m - sizes.primary ≡ r.groups_between * secondary_size sizes = omega (arith, sum) in
          due.1 (omega (arith, sum), ap (λ (n : ℕ). n % secondary_size sizes) rest ∙ mul-mod_left r.groups_between (secondary_size sizes))

  pub rule-ungrouped : (upper : ℕ) (m : ℤ) → is_grouped (upper + 1) sizes strategy ≡ false → HasSeparatorAfter (pos upper) m strategy sizes → ⊥
  rule-ungrouped upper m e r =
      let enough : sizes.primary + least_before strategy sizes ≤ upper + 1 = omega (arith, ints, r.enough) in
      let least = least_some in
      let grouped : is_grouped (upper + 1) sizes strategy ≡ true =
      groups-to (upper + 1) (record { ever = r.groups; primary_some = r.primary_some; enough = omega (arith, enough) }) in
      false≢true (sym e ∙ grouped)

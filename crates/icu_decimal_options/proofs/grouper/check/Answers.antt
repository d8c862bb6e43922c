use Rattle.std.proofs.Common.{◌≡◌, ℕ, ◌+◌, length, arith, true, false, sym, ap, ◌∙◌}
use Rattle.std.proofs.lemmas.Int.{ints, to_z-of_z}
use Rattle.icu_decimal_options.specs.Grouping.{is_grouped}
use Rattle.icu_decimal_options.proofs.Separators.{check-grouped, check-ungrouped, rule-grouped}
use Rattle.icu_decimal_options.proofs.grouper.check.Goals as goal

pub returns-then-is_grouped-clause-groups : goal.returns-then-is_grouped-clause-groups
returns-then-is_grouped-clause-groups c = λ digits m e f h.
    let upper = c.in-Some-Some.upper in
    let len : length digits ≡ upper + 1 = omega (arith, ints, e, c.in-Some-Some.ensures) in
    let at : m ≡ c.in-Some-Some.magnitude = omega (arith, ints, f, c.in-Some-Some.ensures') in
    let grouped : is_grouped (length digits) c.args.sizes c.args.strategy ≡ true =
    ap (λ (n : ℕ). is_grouped n c.args.sizes c.args.strategy) len ∙ sym c.is_grouped.ensures ∙ c.if-is_grouped.true in
    check-grouped c.args.strategy c.args.sizes digits m c.ends_group.result grouped h (rw at c.ends_group.ensures)

pub returns-then-is_grouped-clause-rule : goal.returns-then-is_grouped-clause-rule
returns-then-is_grouped-clause-rule c =
    let grouped : is_grouped (c.in-Some-Some.upper + 1) c.args.sizes c.args.strategy ≡ true = sym c.is_grouped.ensures ∙ c.if-is_grouped.true in
    let fits = c.ranges.upper in
    let fits' = c.ranges.magnitude in
    let upper = simp to_z-of_z at (c.in-Some-Some.ensures) in
    let magnitude = simp to_z-of_z at (c.in-Some-Some.ensures') in
    rw (upper.0, magnitude.0) (rule-grouped c.args.strategy c.args.sizes c.in-Some-Some.upper c.in-Some-Some.magnitude c.ends_group.result grouped
    c.ends_group.ensures)

pub returns-else-is_grouped-clause-groups : goal.returns-else-is_grouped-clause-groups
returns-else-is_grouped-clause-groups c = λ digits m e f h.
    let upper = c.in-Some-Some.upper in
    let len : length digits ≡ upper + 1 = omega (arith, ints, e, c.in-Some-Some.ensures) in
    let ungrouped : is_grouped (length digits) c.args.sizes c.args.strategy ≡ false =
    ap (λ (n : ℕ). is_grouped n c.args.sizes c.args.strategy) len ∙ sym c.is_grouped.ensures ∙ c.if-is_grouped.false in
    (λ t. absurd cc, λ k. absurd (check-ungrouped c.args.strategy c.args.sizes digits m ungrouped k))

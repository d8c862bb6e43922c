use Rattle.std.proofs.Common.{◌≡◌, List, ℕ, ℤ, ◌++◌, ap, ◌∙◌, rules, to_z, of_z, w16, w32}
use Rattle.fixed_decimal.specs.Size.{place}
use Rattle.icu_decimal_data.specs.CompactTable.{exponent_for}
use Rattle.icu_decimal.specs.CompactNumber.{rounding_place}
use Rattle.locnum_explain.specs.Around.{around_line}
use Rattle.std.proofs.lemmas.Result.{on_ok_weaker}
use Rattle.locnum_explain.proofs.Entries.{showable-at}
use Rattle.locnum_explain.proofs.compact.push_showable.Goals as goal

pub returns : goal.returns
returns c =
    let d = c.args.value.now in
    let table = c.args.formatter.now.table in
    let m : ℤ = c.nonzero_magnitude_start-magnitude.result in
    let power : ℤ = c.round_power.result in
    let narrow : to_z w16 (of_z w16 m) ≡ m = search rules in
    let wide : to_z w32 (of_z w32 power) ≡ power = search rules in
    let found : c.compact_exponent_for_magnitude-exponent.result ≡ exponent_for table (place m) =
    c.compact_exponent_for_magnitude-exponent.ensures ∙ ap (λ (z : ℤ). exponent_for table (place z)) narrow in
    let at : place power ≡ rounding_place c.compact_exponent_for_magnitude-exponent.result (place m) =
    c.round_power.ensures ∙ ap (λ (z : ℤ). rounding_place c.compact_exponent_for_magnitude-exponent.result (place z)) narrow in
    let line = showable-at table d m power c.compact_exponent_for_magnitude-exponent.result
    c.nonzero_magnitude_start-magnitude.ensures.power found at in
    on_ok_weaker c.push_around.result
    (λ e. e ∙ ap (λ (z : ℤ). c.args.out.now.items ++ around_line (place z) d) wide ∙ ap (λ (xs : List ℕ). c.args.out.now.items ++ xs) line)
    c.push_around.ensures

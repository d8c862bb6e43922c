use Rattle.std.proofs.Common.{◌≡◌, ◌++◌, true, arith, sym, subst, List, ℕ}
use Rattle.std.proofs.lemmas.List.Elements.{All-append}
use Rattle.std.specs.List.{AllPass, refill}
use Rattle.smallvec.specs.SmallVec.{small_vec_len}
use Rattle.std.specs.Char.{is_ascii_digit}
use Rattle.fixed_decimal.specs.Text.{integer_of, digit_values}
use Rattle.fixed_decimal.proofs.Numerals.{text_valid}
use Rattle.std.proofs.lemmas.Grind.{common_steps}
use Rattle.fixed_decimal.proofs.reading.copied.Goals as goal

pub make_values-requires : goal.make_values-requires
make_values-requires c =
    let e : c.as_mut_slice.result.now ≡ c.args.integer.now ++ c.args.fraction.now = grind (arith, common_steps) in
    subst (λ (l : List ℕ). AllPass is_ascii_digit l) (sym e)
    (All-append (λ b. is_ascii_digit b ≡ true) c.args.integer.now c.args.fraction.now c.requires.integer_digits c.requires.fraction_digits)

pub invariant_of-result : goal.invariant_of-result
invariant_of-result c =
    let e : refill (small_vec_len c.extend_from_slice-2.new.self) c.extend_from_slice-2.new.self.items c.make_values.new.digits
    ≡ integer_of (digit_values c.args.integer.now) ++ digit_values c.args.fraction.now = grind (arith, common_steps) in
    rw e (text_valid c.args.integer.now c.args.fraction.now c.requires.integer_digits c.requires.fraction_digits c.requires.integer_limit
    c.requires.fraction_limit)

pub returns-clause-valid : goal.returns-clause-valid
returns-clause-valid c =
    let e : refill (small_vec_len c.extend_from_slice-2.new.self) c.extend_from_slice-2.new.self.items c.make_values.new.digits
    ≡ integer_of (digit_values c.args.integer.now) ++ digit_values c.args.fraction.now = grind (arith, common_steps) in
    rw e (text_valid c.args.integer.now c.args.fraction.now c.requires.integer_digits c.requires.fraction_digits c.requires.integer_limit
    c.requires.fraction_limit)

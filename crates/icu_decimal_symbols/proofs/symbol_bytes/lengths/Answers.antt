use Rattle.std.proofs.Common.{ℕ, Bor, List, length, arith, []}
use Rattle.std.proofs.lemmas.List.Sums.{sum_by_more_le}
use Rattle.icu_decimal_symbols.proofs.symbol_bytes.lengths.Goals as goal

pub overflow_cast-text : goal.overflow_cast-text
overflow_cast-text c = omega (
  arith,
  sum_by_more_le (λ (t : Bor (List ℕ)). length t.now) c.args.texts.now c.loop-text.text-index
      (record { ref_ptr = (0, 0); now = [] }) c.loop-text-test.true,
)

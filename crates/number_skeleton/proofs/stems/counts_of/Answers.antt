use Rattle.std.proofs.Common.{arith, ap, length, length-drop}
use Rattle.number_skeleton.proofs.stems.counts_of.Goals as goal

pub counts_end-requires : goal.counts_end-requires
counts_end-requires c =
    omega (
      arith,
      c.run_len-digits.ensures.within,
      c.run_len-hashes.ensures.within,
      ap length c.behind-rest.ensures,
      length-drop c.run_len-digits.result c.args.word.now,
    )

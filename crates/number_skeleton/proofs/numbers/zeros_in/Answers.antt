use Rattle.std.proofs.Common.{arith, ap, length, length-drop}
use Rattle.number_skeleton.proofs.numbers.zeros_in.Goals as goal

pub overflow_add-result : goal.overflow_add-result
overflow_add-result c =
    omega (
      arith,
      c.run_len-front.ensures.within,
      c.run_len.ensures.within,
      ap length c.behind.ensures,
      ap length c.behind-2.ensures,
      length-drop c.run_len-front.result c.args.word.now,
      length-drop 1 c.behind.result.now,
    )

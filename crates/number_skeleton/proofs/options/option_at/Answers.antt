use Rattle.std.proofs.Common.{arith, ap, length, length-drop}
use Rattle.number_skeleton.proofs.options.option_at.Goals as goal

pub overflow_add-result-4 : goal.overflow_add-result-4
overflow_add-result-4 c = omega (arith, c.piece_len-len.ensures.within, ap length c.behind-rest.ensures, length-drop 1 c.args.options.now)

pub returns-clause-within : goal.returns-clause-within
returns-clause-within c =
    omega (
      arith,
      c.piece_len-len.ensures.within,
      ap length c.behind-rest.ensures,
      ap length c.behind.ensures,
      length-drop 1 c.args.options.now,
      length-drop c.piece_len-len.result c.behind-rest.result.now,
    )

use Rattle.std.proofs.Common.{get_or, arith}
use Rattle.writeable.proofs.WideDigits.{length-encode_le}
use Rattle.writeable.proofs.wide_digits.widest.Goals as goal

pub returns-clause-widths : goal.returns-clause-widths
returns-clause-widths c = λ k d less.
    let le = c.loop-character.invariant k d (omega arith) in
    rw c.len_utf8.ensures.len (length-encode_le (get_or c.args.characters.now k d) c.loop-character.greatest le)

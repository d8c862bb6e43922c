use Rattle.std.proofs.Common.{◌<◌, get_or, arith}
use Rattle.writeable.proofs.DigitEvents.{ascii_digits_grow}
use Rattle.writeable.proofs.byte_groups.push_ascii.Goals as goal

pub loop-index-preserved : goal.loop-index-preserved
loop-index-preserved c =
    let digit = get_or c.args.digits.now c.loop-index.index 0 in
    let ten : digit < 10 = c.requires.below_ten c.loop-index.index 0 (omega arith) in
    let small : get_or c.args.characters.now digit 0 < 128 = c.requires.ascii digit 0 (omega (arith, ten)) in (
      ascii_digits_grow _ _ _ c.args.characters.now c.args.digits.now c.loop-index.index (omega arith) small c.loop-index.invariant.0
          c.push_reserved.ensures.items,
      omega arith,
      omega arith,
    )

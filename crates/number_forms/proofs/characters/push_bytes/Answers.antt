use Rattle.std.proofs.Common.{sym, append-nil, arith}
use Rattle.std.proofs.lemmas.Grind.{common_steps}
use Rattle.number_forms.proofs.VisibleTexts.{visible_text-byte, visible_text-nil}
use Rattle.number_forms.proofs.characters.push_bytes.Goals as goal

pub loop-byte-init : goal.loop-byte-init
loop-byte-init c = rw visible_text-nil (sym (append-nil _))

pub loop-byte-preserved : goal.loop-byte-preserved
loop-byte-preserved c =
    let more = visible_text-byte c.args.bytes.now c.loop-byte.byte-index c.visible_byte.result c.loop-byte-test.true
    c.visible_byte.ensures.value c.visible_byte.ensures.small in
    grind (arith, common_steps)

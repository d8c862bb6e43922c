use Rattle.std.proofs.Common.{arith}
use Rattle.std.proofs.lemmas.Result.{on_ok_weaker}
use Rattle.locnum_lines.proofs.Cuts.{blanks_before-within, content_length-within, cut_field-is}
use Rattle.locnum_lines.proofs.Numbers.{parts-chosen}
use Rattle.locnum_lines.proofs.field.push_plain.Goals as goal

pub split_at-requires : goal.split_at-requires
split_at-requires c = rw c.blanks_before.ensures (blanks_before-within c.args.text.now)

pub split_at-requires-2 : goal.split_at-requires-2
split_at-requires-2 c = rw c.content_length.ensures (content_length-within c.split_at.result.1.now)

pub push_chosen-requires-clause-within : goal.push_chosen-requires-clause-within
push_chosen-requires-clause-within c =
    omega (arith, c.split_at.ensures.front_len, c.split_at.ensures.back_len, c.split_at-2.ensures.front_len, c.split_at-2.ensures.back_len)

pub returns : goal.returns
returns c =
    let parts = cut_field-is c.args.text.now _ _ _ _ _ _ c.blanks_before.ensures c.split_at.ensures.front c.split_at.ensures.back
    c.content_length.ensures c.split_at-2.ensures.front c.split_at-2.ensures.back in
    on_ok_weaker c.push_chosen.result (λ a. parts-chosen c.args.settings.now c.args.form.now c.args.gathered.now.stage _ c.args.index _ _
    c.args.text.now _ _ _ parts a)
    c.push_chosen.ensures

use Rattle.std.proofs.Common.{◌<◌, ◌≤◌, length, sym, arith}
use Rattle.std.specs.Str.{chars}
use Rattle.std.proofs.lemmas.List.{take_all}
use Rattle.number_forms.proofs.VisibleTexts.{appended, shortened-long, shortened-short}
use Rattle.number_forms.proofs.reported.push_text.Goals as goal

pub returns-then-count-le-MOST : goal.returns-then-count-le-MOST
returns-then-count-le-MOST c =
    let short : length (chars c.args.text.now) ≤ 60 = omega (arith, c.count_of-count.ensures, c.if-count-le-MOST.true) in
    let all : length (chars c.args.text.now) ≤ c.count_of-count.result = omega (arith, c.count_of-count.ensures) in
    rw (shortened-short (chars c.args.text.now) short) (rw (take_all c.count_of-count.result (chars c.args.text.now) all) at c.push_characters.ensures)

pub returns : goal.returns
returns c =
    let long : 60 < length (chars c.args.text.now) = omega (arith, c.count_of-count.ensures, c.if-count-le-MOST.false) in
    rw (shortened-long (chars c.args.text.now) long, sym c.count_of-count.ensures)
    (appended _ _ _ _ _ _ _ _ _ c.in_ok-push_characters.ensures c.in_ok-extend_from_slice.ensures.items
    c.in_ok-push_characters-2.ensures c.in_ok-push_length.ensures)

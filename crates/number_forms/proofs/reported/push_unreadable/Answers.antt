use Rattle.std.proofs.Common.{◌<◌, ◌≤◌, length, map}
use Rattle.std.proofs.lemmas.List.{length-map}
use Rattle.number_forms.specs.Characters.{from_byte}
use Rattle.number_forms.proofs.VisibleTexts.{appended, back-bytes, front-bytes, shortened-long, shortened-short}
use Rattle.number_forms.proofs.reported.push_unreadable.Goals as goal

pub returns-then-count-le-MOST : goal.returns-then-count-le-MOST
returns-then-count-le-MOST c =
    let short : length (map from_byte c.args.text.now) ≤ 60 = rw (length-map c.args.text.now from_byte) c.if-count-le-MOST.true in
    rw (shortened-short _ short) c.push_bytes.ensures

pub returns : goal.returns
returns c =
    let same = length-map c.args.text.now from_byte in
    let long : 60 < length (map from_byte c.args.text.now) = rw same c.if-count-le-MOST.false in
    let front = rw c.split_at.ensures.front at c.in_ok-push_bytes.ensures in
    let back = rw c.split_at-2.ensures.back at c.in_ok-push_bytes-2.ensures in
    rw (shortened-long (map from_byte c.args.text.now) long, same, front-bytes c.args.text.now, back-bytes c.args.text.now c.if-count-le-MOST.false)
    (appended _ _ _ _ _ _ _ _ _ front c.in_ok-extend_from_slice.ensures.items back c.in_ok-push_length.ensures)

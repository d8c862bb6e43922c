use Rattle.std.proofs.Common.{◌≡◌, ap, arith, length}
use Rattle.std.proofs.lemmas.Str.{IsUtf8-encode}
use Rattle.std.specs.Char.{encode_utf8}
use Rattle.writeable.proofs.WideDigits.{encode_two, encode_three, encode_four, behind_two, behind_three, behind_four}
use Rattle.writeable.proofs.wide_digits.push_reserved_character.Goals as goal

pub push_reserved-requires-then-code-lt2048 : goal.push_reserved-requires-then-code-lt2048
push_reserved-requires-then-code-lt2048 c =
    let is = encode_two c.args.character c.if-code-lt128.false c.if-code-lt2048.true in
    let two : length (encode_utf8 c.args.character) ≡ 2 = ap length is in
    omega arith

pub push_reserved-requires-then-code-lt2048-2 : goal.push_reserved-requires-then-code-lt2048-2
push_reserved-requires-then-code-lt2048-2 c =
    let is = encode_two c.args.character c.if-code-lt128.false c.if-code-lt2048.true in
    let two : length (encode_utf8 c.args.character) ≡ 2 = ap length is in
    omega arith

pub returns-then-code-lt2048-clause-items : goal.returns-then-code-lt2048-clause-items
returns-then-code-lt2048-clause-items c =
    rw (encode_two c.args.character c.if-code-lt128.false c.if-code-lt2048.true, ← c.continuation.ensures)
    (behind_two _ _ _ _ _ c.push_reserved-then-code-lt2048.ensures.items c.push_reserved-then-code-lt2048-2.ensures.items)

pub returns-then-code-lt2048-clause-len : goal.returns-then-code-lt2048-clause-len
returns-then-code-lt2048-clause-len c =
    let is = encode_two c.args.character c.if-code-lt128.false c.if-code-lt2048.true in
    let two : length (encode_utf8 c.args.character) ≡ 2 = ap length is in
    omega arith

pub push_reserved-requires-then-code-lt65536 : goal.push_reserved-requires-then-code-lt65536
push_reserved-requires-then-code-lt65536 c =
    let is = encode_three c.args.character c.if-code-lt2048.false c.if-code-lt65536.true in
    let three : length (encode_utf8 c.args.character) ≡ 3 = ap length is in
    omega arith

pub push_reserved-requires-then-code-lt65536-2 : goal.push_reserved-requires-then-code-lt65536-2
push_reserved-requires-then-code-lt65536-2 c =
    let is = encode_three c.args.character c.if-code-lt2048.false c.if-code-lt65536.true in
    let three : length (encode_utf8 c.args.character) ≡ 3 = ap length is in
    omega arith

pub push_reserved-requires-then-code-lt65536-3 : goal.push_reserved-requires-then-code-lt65536-3
push_reserved-requires-then-code-lt65536-3 c =
    let is = encode_three c.args.character c.if-code-lt2048.false c.if-code-lt65536.true in
    let three : length (encode_utf8 c.args.character) ≡ 3 = ap length is in
    omega arith

pub returns-then-code-lt65536-clause-items : goal.returns-then-code-lt65536-clause-items
returns-then-code-lt65536-clause-items c =
    rw (
      encode_three c.args.character c.if-code-lt2048.false c.if-code-lt65536.true,
      ← c.continuation-then-code-lt65536.ensures,
      ← c.continuation-then-code-lt65536-2.ensures,
    )
    (behind_three _ _ _ _ _ _ _ c.push_reserved-then-code-lt65536.ensures.items c.push_reserved-then-code-lt65536-2.ensures.items
    c.push_reserved-then-code-lt65536-3.ensures.items)

pub returns-then-code-lt65536-clause-len : goal.returns-then-code-lt65536-clause-len
returns-then-code-lt65536-clause-len c =
    let is = encode_three c.args.character c.if-code-lt2048.false c.if-code-lt65536.true in
    let three : length (encode_utf8 c.args.character) ≡ 3 = ap length is in
    omega arith

pub push_reserved-requires-2 : goal.push_reserved-requires-2
push_reserved-requires-2 c =
    let four : length (encode_utf8 c.args.character) ≡ 4 = ap length (encode_four c.args.character c.if-code-lt65536.false) in
    omega arith

pub push_reserved-requires-3 : goal.push_reserved-requires-3
push_reserved-requires-3 c =
    let four : length (encode_utf8 c.args.character) ≡ 4 = ap length (encode_four c.args.character c.if-code-lt65536.false) in
    omega arith

pub push_reserved-requires-4 : goal.push_reserved-requires-4
push_reserved-requires-4 c =
    let four : length (encode_utf8 c.args.character) ≡ 4 = ap length (encode_four c.args.character c.if-code-lt65536.false) in
    omega arith

pub push_reserved-requires-5 : goal.push_reserved-requires-5
push_reserved-requires-5 c =
    let four : length (encode_utf8 c.args.character) ≡ 4 = ap length (encode_four c.args.character c.if-code-lt65536.false) in
    omega arith

pub returns-clause-items : goal.returns-clause-items
returns-clause-items c =
    rw (
      encode_four c.args.character c.if-code-lt65536.false,
      ← c.continuation-2.ensures,
      ← c.continuation-3.ensures,
      ← c.continuation-4.ensures,
    )
    (behind_four _ _ _ _ _ _ _ _ _ c.push_reserved-2.ensures.items c.push_reserved-3.ensures.items c.push_reserved-4.ensures.items
    c.push_reserved-5.ensures.items)

pub returns-clause-len : goal.returns-clause-len
returns-clause-len c =
    let four : length (encode_utf8 c.args.character) ≡ 4 = ap length (encode_four c.args.character c.if-code-lt65536.false) in
    omega arith

pub returns-then-code-lt128-clause-is_text : goal.returns-then-code-lt128-clause-is_text
returns-then-code-lt128-clause-is_text c = IsUtf8-encode c.args.character c.ranges.character.0

pub returns-then-code-lt2048-clause-is_text : goal.returns-then-code-lt2048-clause-is_text
returns-then-code-lt2048-clause-is_text c = IsUtf8-encode c.args.character c.ranges.character.0

pub returns-then-code-lt65536-clause-is_text : goal.returns-then-code-lt65536-clause-is_text
returns-then-code-lt65536-clause-is_text c = IsUtf8-encode c.args.character c.ranges.character.0

pub returns-clause-is_text : goal.returns-clause-is_text
returns-clause-is_text c = IsUtf8-encode c.args.character c.ranges.character.0

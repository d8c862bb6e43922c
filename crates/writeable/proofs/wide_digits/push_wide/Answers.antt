use Rattle.std.proofs.Common.{◌≡◌, ◌-◌, ◌<◌, ◌≤◌, get_or, length, arith, refl}
use Rattle.std.proofs.lemmas.Grind.{common_steps}
use Rattle.std.proofs.lemmas.Str.{IsUtf8-append, IsUtf8-nil}
use Rattle.std.specs.Char.{encode_utf8}
use Rattle.writeable.proofs.DigitEvents.{text_of-digits_more}
use Rattle.writeable.proofs.WideDigits.{one_width, wide_digits_grow}
use Rattle.writeable.proofs.wide_digits.push_wide.Goals as goal

pub push_reserved_character-out-requires : goal.push_reserved_character-out-requires
push_reserved_character-out-requires c =
    let digit = get_or c.args.digits.now c.loop-index.index 0 in
    let ten : digit < 10 = c.requires.below_ten c.loop-index.index 0 (omega arith) in
    let width : length (encode_utf8 (get_or c.args.characters.now digit 0)) ≤ c.args.width = c.requires.widths digit 0 (omega (arith, ten)) in
    let left = one_width (length c.args.digits.now) c.loop-index.index c.args.width (omega arith) in
    omega arith

pub loop-index-preserved : goal.loop-index-preserved
loop-index-preserved c =
    let digit = get_or c.args.digits.now c.loop-index.index 0 in
    let ten : digit < 10 = c.requires.below_ten c.loop-index.index 0 (omega arith) in
    let width : length (encode_utf8 (get_or c.args.characters.now digit 0)) ≤ c.args.width = c.requires.widths digit 0 (omega (arith, ten)) in
    let left = one_width (length c.args.digits.now) c.loop-index.index c.args.width (omega arith) in
    record {
      items = wide_digits_grow _ _ _ c.args.characters.now c.args.digits.now c.loop-index.index (omega arith) c.loop-index.invariant.items
          c.push_reserved_character-out.ensures.items;
      is_text = rw (text_of-digits_more c.args.characters.now c.args.digits.now c.loop-index.index (omega arith))
          (IsUtf8-append _ _ c.loop-index.invariant.is_text c.push_reserved_character-out.ensures.is_text);
      len = omega arith;
      capacity = omega arith;
    }

pub loop-index-init : goal.loop-index-init
loop-index-init c =
    let all : length c.args.digits.now - 0 ≡ length c.args.digits.now = omega arith in
    record { items = grind (arith, common_steps); is_text = IsUtf8-nil; len = rw all (omega arith); capacity = refl }

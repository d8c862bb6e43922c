use Rattle.std.proofs.Common.{◌≡◌, ◌+◌, ◌-◌, ◌*◌, ◌≤◌, ◌++◌, length, take, vec_len, vec_capacity}
use Rattle.std.specs.Str.{IsUtf8}
use Rattle.writeable.specs.Events.{text_of, digit_events}
use Rattle.writeable.proofs.wide_digits.push_wide.Given as goal

abbrev pub invariant-loop-index : goal.invariant-loop-index
invariant-loop-index l = record {
  items : l.out.items ≡ l.initial.out.items ++ text_of (digit_events l.characters (take l.index l.digits));
  is_text : IsUtf8 (text_of (digit_events l.characters (take l.index l.digits)));
  len : vec_len l.out + (length l.digits - l.index) * l.width ≤ vec_len l.initial.out + length l.digits * l.width;
  capacity : vec_capacity l.out ≡ vec_capacity l.initial.out;
}

use Rattle.std.proofs.Common.{◌≡◌, ◌+◌, ◌<◌, length, take, refl, sym, ap, ◌∙◌, append-nil, arith, vec_len, vec_capacity}
use Rattle.std.proofs.lemmas.Bool.Decides.{nat_tests}
use Rattle.std.proofs.lemmas.List.Elements.{All-drop}
use Rattle.writeable.specs.Events.{text_of, digit_events}
use Rattle.writeable.specs.Groups.{cut, joined, group_texts}
use Rattle.writeable.proofs.GroupSteps.{first_of, next_of, next_some, joined_after-none}
use Rattle.writeable.proofs.GroupTexts.{texts_begin, texts_grow}
use Rattle.writeable.proofs.Utf8Texts.{IsUtf8-behind}
use Rattle.writeable.proofs.WideDigits.{first_fits, next_fits}
use Rattle.writeable.proofs.wide_groups.push_groups.Goals as goal

pub groups-init : goal.groups-init
groups-init c =
    let ds = c.args.digits.now in
    let cs = c.args.characters.now in
    let n = c.first_group.result in
    let step = first_of (λ g. text_of (digit_events cs g)) c.args.grouping.now.separator.now c.args.grouping.now.primary c.args.grouping.now.secondary ds n
    refl c.requires.primary c.requires.secondary c.first_group.ensures in
    let front = rw c.split_at.ensures.front at c.push_wide-out.ensures.items in
    let some = c.split_at.result.0.now in
    let left = c.split_at.result.1.now in
    let all : length ds ≡ length some + length left = omega (arith, step.2, c.split_at.ensures.front_len, c.split_at.ensures.back_len) in
    let fits = first_fits (vec_len c.args.out) (vec_capacity c.args.out) (length some) (length left) (length ds) c.args.width
    (length c.args.grouping.now.separator.now) all c.requires.room in
    record {
      due = rw c.split_at.ensures.back step.1;
      below_ten = rw c.split_at.ensures.back (All-drop (λ d. d < 10) n ds c.requires.below_ten);
      room = omega (arith, fits, c.push_wide-out.ensures.len, c.push_wide-out.ensures.capacity);
      is_text = λ old. IsUtf8-behind _ _ _ c.push_wide-out.ensures.items old c.push_wide-out.ensures.is_text;
      rest_ends = rw c.split_at.ensures.back (texts_begin _ _ cs (take n ds) _ _ front step.0);
    }

pub split_at-requires-in-groups : goal.split_at-requires-in-groups
split_at-requires-in-groups c =
    let rest = c.groups.rest.now in
    let some : 0 < length rest = grind (arith, nat_tests, c.groups-test.ensures) in
    (next_of c.args.grouping.now.primary c.args.grouping.now.secondary rest c.next_group.result c.requires.primary c.requires.secondary c.groups.invariant.due
    some c.next_group.ensures).2

pub groups-preserved : goal.groups-preserved
groups-preserved c =
    let rest = c.groups.rest.now in
    let cs = c.args.characters.now in
    let n = c.next_group.result in
    let some : 0 < length rest = grind (arith, nat_tests, c.groups-test.ensures) in
    let cut_is = next_of c.args.grouping.now.primary c.args.grouping.now.secondary rest n c.requires.primary c.requires.secondary c.groups.invariant.due some
    c.next_group.ensures in
    let front = rw c.split_at-in-groups.ensures.front at c.push_wide-out-in-groups.ensures.items in
    let more = next_some c.args.grouping.now.primary c.args.grouping.now.secondary n (length rest) c.requires.primary c.requires.secondary
    c.next_group.ensures in
    let group = c.split_at-in-groups.result.0.now in
    let left = c.split_at-in-groups.result.1.now in
    let begun : 0 < length group = omega (arith, more, c.split_at-in-groups.ensures.front_len) in
    let all : length rest ≡ length group + length left =
    omega (arith, cut_is.2, c.split_at-in-groups.ensures.front_len, c.split_at-in-groups.ensures.back_len) in
    let fits = next_fits (vec_len c.groups.out) (vec_capacity c.groups.out) (length group) (length left) (length rest) c.args.width
    (length c.args.grouping.now.separator.now) begun all c.groups.invariant.room in
    let same : length c.as_bytes-separator.result.now ≡ length c.args.grouping.now.separator.now = ap length c.as_bytes-separator.ensures.value in
    record {
      due = rw c.split_at-in-groups.ensures.back cut_is.1;
      below_ten = rw c.split_at-in-groups.ensures.back (All-drop (λ d. d < 10) n rest c.groups.invariant.below_ten);
      room = omega (
        arith,
        fits,
        same,
        c.push_wide-out-in-groups.ensures.len,
        c.push_wide-out-in-groups.ensures.capacity,
        c.push_separator-out.ensures.len,
        c.push_separator-out.ensures.capacity,
      );
      is_text = λ old. IsUtf8-behind _ _ _ c.push_wide-out-in-groups.ensures.items
          (IsUtf8-behind _ _ _ c.push_separator-out.ensures.items (c.groups.invariant.is_text old) c.as_bytes-separator.ensures.utf8)
          c.push_wide-out-in-groups.ensures.is_text;
      rest_ends = rw c.split_at-in-groups.ensures.back (texts_grow c.args.out.items _ _ _ c.args.grouping.now.separator.now cs (take n rest)
          (joined c.args.grouping.now.separator.now (group_texts cs (cut c.args.grouping.now.primary c.args.grouping.now.secondary c.args.digits.now))) _ _
          cut_is.0 c.groups.invariant.rest_ends (rw c.as_bytes-separator.ensures.value at c.push_separator-out.ensures.items) front);
    }

pub returns-clause-items : goal.returns-clause-items
returns-clause-items c =
    let rest = c.groups.rest.now in
    let none : length rest ≡ 0 = grind (arith, nat_tests, c.groups-test.ensures) in
    let cs = c.args.characters.now in
    let nothing = joined_after-none (λ g. text_of (digit_events cs g)) c.args.grouping.now.separator.now c.args.grouping.now.primary
    c.args.grouping.now.secondary rest none in
    sym (append-nil c.groups.out.items) ∙ (rw nothing at c.groups.invariant.rest_ends)

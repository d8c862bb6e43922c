use Rattle.std.proofs.Common.{◌≡◌, ◌<◌, ◌∷◌, [], length, take, refl, sym, ◌∙◌, append-nil, arith}
use Rattle.std.proofs.lemmas.Bool.Decides.{nat_tests}
use Rattle.std.proofs.lemmas.List.Elements.{All-drop}
use Rattle.writeable.specs.Events.{text_of, digit_events}
use Rattle.writeable.specs.Groups.{cut, joined, group_texts}
use Rattle.writeable.proofs.GroupSteps.{first_of, next_of, next_some, joined_after-none}
use Rattle.writeable.proofs.GroupTexts.{texts_begin, texts_grow}
use Rattle.writeable.proofs.byte_groups.push_sizes.Goals as goal

pub groups-init : goal.groups-init
groups-init c =
    let ds = c.args.digits.now in
    let cs = c.args.characters.now in
    let n = c.first_group.result in
    let step = first_of (λ g. text_of (digit_events cs g)) (c.args.separator ∷ []) c.args.primary c.args.secondary ds n refl c.requires.primary
    c.requires.secondary c.first_group.ensures in
    let front = rw c.split_at.ensures.front at c.push_ascii-out.ensures.items in
    record {
      due = rw c.split_at.ensures.back step.1;
      below_ten = rw c.split_at.ensures.back (All-drop (λ d. d < 10) n ds c.requires.below_ten);
      room = omega (
        arith,
        c.requires.room,
        c.push_ascii-out.ensures.len,
        c.push_ascii-out.ensures.capacity,
        c.split_at.ensures.front_len,
        c.split_at.ensures.back_len,
      );
      rest_ends = rw c.split_at.ensures.back (texts_begin _ _ cs (take n ds) _ _ front step.0);
    }

pub split_at-requires-in-groups : goal.split_at-requires-in-groups
split_at-requires-in-groups c =
    let rest = c.groups.rest.now in
    let some : 0 < length rest = grind (arith, nat_tests, c.groups-test.ensures) in
    (next_of c.args.primary c.args.secondary rest c.next_group.result c.requires.primary c.requires.secondary c.groups.invariant.due some
    c.next_group.ensures).2

pub groups-preserved : goal.groups-preserved
groups-preserved c =
    let rest = c.groups.rest.now in
    let cs = c.args.characters.now in
    let n = c.next_group.result in
    let some : 0 < length rest = grind (arith, nat_tests, c.groups-test.ensures) in
    let cut_is = next_of c.args.primary c.args.secondary rest n c.requires.primary c.requires.secondary c.groups.invariant.due some c.next_group.ensures in
    let more = next_some c.args.primary c.args.secondary n (length rest) c.requires.primary c.requires.secondary c.next_group.ensures in
    let front = rw c.split_at-in-groups.ensures.front at c.push_ascii-out-in-groups.ensures.items in
    record {
      due = rw c.split_at-in-groups.ensures.back cut_is.1;
      below_ten = rw c.split_at-in-groups.ensures.back (All-drop (λ d. d < 10) n rest c.groups.invariant.below_ten);
      room = omega (
        arith,
        more,
        cut_is.2,
        c.groups.invariant.room,
        c.push_ascii-out-in-groups.ensures.len,
        c.push_ascii-out-in-groups.ensures.capacity,
        c.push_reserved.ensures.len,
        c.push_reserved.ensures.capacity,
        c.split_at-in-groups.ensures.front_len,
        c.split_at-in-groups.ensures.back_len,
      );
      rest_ends = rw c.split_at-in-groups.ensures.back (texts_grow c.args.out.items _ _ _ (c.args.separator ∷ []) cs (take n rest)
          (joined (c.args.separator ∷ []) (group_texts cs (cut c.args.primary c.args.secondary c.args.digits.now))) _ _ cut_is.0 c.groups.invariant.rest_ends
          c.push_reserved.ensures.items front);
    }

pub returns : goal.returns
returns c =
    let rest = c.groups.rest.now in
    let none : length rest ≡ 0 = grind (arith, nat_tests, c.groups-test.ensures) in
    let cs = c.args.characters.now in
    let nothing = joined_after-none (λ g. text_of (digit_events cs g)) (c.args.separator ∷ []) c.args.primary c.args.secondary rest none in
    sym (append-nil c.groups.out.items) ∙ (rw nothing at c.groups.invariant.rest_ends)

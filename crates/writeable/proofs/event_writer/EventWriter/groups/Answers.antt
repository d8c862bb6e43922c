use Rattle.std.proofs.Common.{◌≡◌, ◌<◌, length, take, drop, refl, arith}
use Rattle.std.proofs.lemmas.Bool.Decides.{nat_tests}
use Rattle.std.proofs.lemmas.List.Elements.{All-drop}
use Rattle.writeable.specs.Events.{digit_events}
use Rattle.writeable.specs.Groups.{separator_events}
use Rattle.writeable.proofs.GroupSteps.{first_of, next_of, joined_after-next, joined_after-none}
use Rattle.writeable.proofs.event_writer.EventWriter.groups.Goals as goal

pub returns-in_err-digits : goal.returns-in_err-digits
returns-in_err-digits g c =
    let grouping = c.args.grouping.now in
    let ds = c.args.digits.now in
    let step = first_of (digit_events c.args.characters.now) (separator_events grouping) grouping.primary grouping.secondary ds c.first_group.result refl
    c.requires.primary c.requires.secondary c.first_group.ensures in
    rw (step.0, ← c.split_at.ensures.front) (g.met.Self.EventWriter.stop _ _ _ _ _ _ c.from_residual.ensures.0 c.in_err-digits.ensures)

pub groups-init : goal.groups-init
groups-init g c =
    let grouping = c.args.grouping.now in
    let ds = c.args.digits.now in
    let n = c.first_group.result in
    let step = first_of (digit_events c.args.characters.now) (separator_events grouping) grouping.primary grouping.secondary ds n refl c.requires.primary
    c.requires.secondary c.first_group.ensures in
    record {
      due = rw c.split_at.ensures.back step.1;
      below_ten = rw c.split_at.ensures.back (All-drop (λ d. d < 10) n ds c.requires.below_ten);
      rest_ends = λ r end h. rw (step.0, ← c.split_at.ensures.front, ← c.split_at.ensures.back)
          (g.met.Self.EventWriter.then _ _ _ _ _ _ c.in_ok-digits.ensures h);
    }

pub split_at-requires-in-groups : goal.split_at-requires-in-groups
split_at-requires-in-groups g c =
    let rest = c.groups.rest.now in
    let some : 0 < length rest = grind (arith, nat_tests, c.groups-test.ensures) in
    (next_of c.args.grouping.now.primary c.args.grouping.now.secondary rest c.next_group.result c.requires.primary c.requires.secondary c.groups.invariant.due
    some c.next_group.ensures).2

pub returns-in_err-separator : goal.returns-in_err-separator
returns-in_err-separator g c =
    let grouping = c.args.grouping.now in
    let rest = c.groups.rest.now in
    let n = c.next_group.result in
    let some : 0 < length rest = grind (arith, nat_tests, c.groups-test.ensures) in
    let cut_is = next_of grouping.primary grouping.secondary rest n c.requires.primary c.requires.secondary c.groups.invariant.due some c.next_group.ensures in
    let step = joined_after-next (digit_events c.args.characters.now) (separator_events grouping) grouping.primary grouping.secondary rest (take n rest)
    (drop n rest) cut_is.0 in
    c.groups.invariant.rest_ends _ _ (rw step (g.met.Self.EventWriter.stop _ _ _ _ _ _ c.from_residual-in_err-separator.ensures.0 c.in_err-separator.ensures))

pub returns-in_err-digits-2 : goal.returns-in_err-digits-2
returns-in_err-digits-2 g c =
    let grouping = c.args.grouping.now in
    let rest = c.groups.rest.now in
    let n = c.next_group.result in
    let some : 0 < length rest = grind (arith, nat_tests, c.groups-test.ensures) in
    let cut_is = next_of grouping.primary grouping.secondary rest n c.requires.primary c.requires.secondary c.groups.invariant.due some c.next_group.ensures in
    let step = joined_after-next (digit_events c.args.characters.now) (separator_events grouping) grouping.primary grouping.secondary rest (take n rest)
    (drop n rest) cut_is.0 in
    c.groups.invariant.rest_ends _ _ (rw (step, ← c.split_at-in-groups.ensures.front)
    (g.met.Self.EventWriter.then _ _ _ _ _ _ c.in_ok-separator.ensures
    (g.met.Self.EventWriter.stop _ _ _ _ _ _ c.from_residual-in_err-digits-2.ensures.0 c.in_err-digits-2.ensures)))

pub groups-preserved : goal.groups-preserved
groups-preserved g c =
    let grouping = c.args.grouping.now in
    let rest = c.groups.rest.now in
    let n = c.next_group.result in
    let some : 0 < length rest = grind (arith, nat_tests, c.groups-test.ensures) in
    let cut_is = next_of grouping.primary grouping.secondary rest n c.requires.primary c.requires.secondary c.groups.invariant.due some c.next_group.ensures in
    let step = joined_after-next (digit_events c.args.characters.now) (separator_events grouping) grouping.primary grouping.secondary rest (take n rest)
    (drop n rest) cut_is.0 in
    record {
      due = rw c.split_at-in-groups.ensures.back cut_is.1;
      below_ten = rw c.split_at-in-groups.ensures.back (All-drop (λ d. d < 10) n rest c.groups.invariant.below_ten);
      rest_ends = λ r end h. c.groups.invariant.rest_ends r end
          (rw (step, ← c.split_at-in-groups.ensures.front, ← c.split_at-in-groups.ensures.back)
          (g.met.Self.EventWriter.then _ _ _ _ _ _ c.in_ok-separator.ensures (g.met.Self.EventWriter.then _ _ _ _ _ _ c.in_ok-digits-2.ensures h)));
    }

pub returns : goal.returns
returns g c =
    let grouping = c.args.grouping.now in
    let none : length c.groups.rest.now ≡ 0 = grind (arith, nat_tests, c.groups-test.ensures) in
    c.groups.invariant.rest_ends _ _ (rw (joined_after-none (digit_events c.args.characters.now) (separator_events grouping) grouping.primary grouping.secondary
    c.groups.rest.now none) (g.met.Self.EventWriter.nothing _))

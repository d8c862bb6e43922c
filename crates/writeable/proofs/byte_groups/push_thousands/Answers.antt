use Rattle.std.proofs.Common.{◌≡◌, ◌⊎◌, ℕ, ◌==◌, Bool, true, false, if◌then◌else◌, List, inl, inr, ◌<◌, ◌∷◌, [], length, take}
use Rattle.std.proofs.Common.{refl, sym, ap, ◌∙◌, append-nil, arith}
use Rattle.std.proofs.lemmas.List.Elements.{All-drop}
use Rattle.writeable.specs.Counted.{IsDue, next_size}
use Rattle.writeable.specs.Events.{text_of, digit_events}
use Rattle.writeable.specs.Groups.{cut, joined, group_texts}
use Rattle.writeable.proofs.GroupSteps.{first_of, next_of, joined_after-none}
use Rattle.writeable.proofs.GroupTexts.{texts_begin, texts_grow}
use Rattle.writeable.proofs.byte_groups.push_thousands.Goals as goal

three : (n m : ℕ) → m ≡ 3 → next_size 3 3 n ≡ m
three n m e = elim (n == 3) as (λ (b : Bool). (if b then 3 else 3) ≡ m) [ true ↦ sym e | false ↦ sym e ]

-- fewer than a group are none
few : (ds : List ℕ) → (ds ≡ []) ⊎ IsDue 3 3 (length ds) → length ds < 3 → length ds ≡ 0
few ds (inl none) less = ap length none
few ds (inr due) less = absurd (omega (arith, due.0))

pub groups-init : goal.groups-init
groups-init c =
    let ds = c.args.digits.now in
    let cs = c.args.characters.now in
    let n = c.first_group-first.result in
    let step = first_of (λ g. text_of (digit_events cs g)) (c.args.separator ∷ []) 3 3 ds n refl (omega arith) (omega arith) c.first_group-first.ensures in
    record {
      due = rw c.split_at.ensures.back step.1;
      below_ten = rw c.split_at.ensures.back (All-drop (λ d. d < 10) n ds c.requires.below_ten);
      room = omega (
        arith,
        c.requires.room,
        c.push_front-out.ensures.len,
        c.push_front-out.ensures.capacity,
        c.split_at.ensures.front_len,
        c.split_at.ensures.back_len,
      );
      rest_ends = rw c.split_at.ensures.back (texts_begin _ _ cs (take n ds) _ _ c.push_front-out.ensures.items step.0);
    }

pub groups-preserved : goal.groups-preserved
groups-preserved c =
    let rest = c.groups.rest.now in
    let cs = c.args.characters.now in
    let n : ℕ = 3 in
    let some : 0 < length rest = omega arith in
    let cut_is = next_of 3 3 rest n (omega arith) (omega arith) c.groups.invariant.due some (sym (three (length rest) n refl)) in
    let front = rw c.split_at-in-groups.ensures.front at c.push_three-out.ensures.items in
    record {
      due = rw c.split_at-in-groups.ensures.back cut_is.1;
      below_ten = rw c.split_at-in-groups.ensures.back (All-drop (λ d. d < 10) n rest c.groups.invariant.below_ten);
      room = omega (
        arith,
        c.groups.invariant.room,
        c.push_three-out.ensures.len,
        c.push_three-out.ensures.capacity,
        c.push_reserved.ensures.len,
        c.push_reserved.ensures.capacity,
        c.split_at-in-groups.ensures.front_len,
        c.split_at-in-groups.ensures.back_len,
      );
      rest_ends = rw c.split_at-in-groups.ensures.back (texts_grow c.args.out.items _ _ _ (c.args.separator ∷ []) cs (take n rest)
          (joined (c.args.separator ∷ []) (group_texts cs (cut 3 3 c.args.digits.now))) _ _ cut_is.0 c.groups.invariant.rest_ends
          c.push_reserved.ensures.items front);
    }

pub returns : goal.returns
returns c =
    let rest = c.groups.rest.now in
    let none : length rest ≡ 0 = few rest c.groups.invariant.due (omega arith) in
    let cs = c.args.characters.now in
    let nothing = joined_after-none (λ g. text_of (digit_events cs g)) (c.args.separator ∷ []) 3 3 rest none in
    sym (append-nil c.groups.out.items) ∙ (rw nothing at c.groups.invariant.rest_ends)

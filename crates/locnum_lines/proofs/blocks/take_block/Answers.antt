use Rattle.std.proofs.Common.{◌≡◌, ◌+◌, ◌-◌, ◌++◌, ◌∷◌, [], drop, take, length, List, ℕ, refl, sym, ap, ◌∙◌}
use Rattle.std.proofs.Common.{append_assoc, arith}
use Rattle.std.proofs.lemmas.Bool.{false≢true}
use Rattle.std.proofs.lemmas.List.{length-drop, take_all}
use Rattle.memchr.specs.Find.{is_byte, places_between}
use Rattle.locnum_lines.specs.Records.{IsPartLine, state_behind}
use Rattle.locnum_lines.specs.declared.cutting.FieldState.TheVariants.{Front}
use Rattle.locnum_lines.proofs.Fed.{Feeds-nothing, Feeds-part, Feeds-stopped, Feeds-then}
use Rattle.locnum_lines.proofs.Feeding.{IsPart-append, IsPart-line, state_behind-append}
use Rattle.locnum_lines.proofs.LineEnds.{first-state, line-all, line-front, line-split, no-state}
use Rattle.locnum_lines.proofs.blocks.take_block.Goals as goal

pub loop-n-init : goal.loop-n-init
loop-n-init c = (
  [],
  refl,
  Feeds-nothing c.args.settings.now c.args.form.now c.args.gathered.now c.args.held.now.items c.requires.going
      c.requires.held_part,
  c.requires.going,
  c.requires.state_is,
  omega arith,
  c.into_iter-n-iterator.ensures.into_iter_gives ∙ c.memchr_iter-n-items.ensures.value
      ∙ ap (λ k. places_between (is_byte k) c.args.block.now 0 (length c.args.block.now)) (ap (λ s. s.end) c.settings.view_is),
)

pub slice_bounds-line-count : goal.slice_bounds-line-count
slice_bounds-line-count c =
    let i = c.loop-n.invariant in
    (first-state _ _ c.loop-n.start _ c.in-Some.n c.next.new.self i.5 (sym i.6 ∙ c.in-Some.ensures.steps)).none_before.low

pub slice_bounds-line-start : goal.slice_bounds-line-start
slice_bounds-line-start c =
    let i = c.loop-n.invariant in
    (first-state _ _ c.loop-n.start _ c.in-Some.n c.next.new.self i.5 (sym i.6 ∙ c.in-Some.ensures.steps)).none_before.low

pub slice_bounds-line-end : goal.slice_bounds-line-end
slice_bounds-line-end c =
    let i = c.loop-n.invariant in
    let first = first-state _ _ c.loop-n.start _ c.in-Some.n c.next.new.self i.5 (sym i.6 ∙ c.in-Some.ensures.steps) in
    omega (arith, first.none_before.high)

pub end_line-requires-clause-going : goal.end_line-requires-clause-going
end_line-requires-clause-going c = c.loop-n.invariant.3

pub end_line-requires-clause-held_part : goal.end_line-requires-clause-held_part
end_line-requires-clause-held_part c = c.loop-n.invariant.2.is_part c.loop-n.invariant.3

pub end_line-requires-clause-state_is : goal.end_line-requires-clause-state_is
end_line-requires-clause-state_is c = c.loop-n.invariant.4

pub end_line-requires-clause-rest_part : goal.end_line-requires-clause-rest_part
end_line-requires-clause-rest_part c =
    let i = c.loop-n.invariant in
    let first = first-state _ _ c.loop-n.start _ c.in-Some.n c.next.new.self i.5 (sym i.6 ∙ c.in-Some.ensures.steps) in
    line-front c.args.settings.now.end c.args.block.now c.loop-n.start c.in-Some.n c.next.new.self first

pub loop-n-preserved : goal.loop-n-preserved
loop-n-preserved c =
    let i = c.loop-n.invariant in
    let end = c.args.settings.now.end in
    let first = first-state _ _ c.loop-n.start _ c.in-Some.n c.next.new.self i.5 (sym i.6 ∙ c.in-Some.ensures.steps) in
    let line = take (c.in-Some.n - c.loop-n.start) (drop c.loop-n.start c.args.block.now) in
    let later = drop (c.in-Some.n + 1) c.args.block.now in
    let e : drop c.loop-n.start c.args.block.now ≡ (line ++ end ∷ []) ++ later =
    line-split end c.args.block.now c.loop-n.start c.in-Some.n c.next.new.self first in (
      i.0 ++ (line ++ end ∷ []),
      i.1 ∙ ap (λ (k : List ℕ). i.0 ++ k) e ∙ sym (append_assoc i.0 (line ++ end ∷ []) later),
      Feeds-then c.args.settings.now c.args.form.now _ _ _ _ i.0 _ (line ++ end ∷ []) _ i.3 i.2 c.in_ok-end_line.ensures.feeds,
      ap (λ g. g.is_stopped) (sym c.gathered.view_is) ∙ c.if-gathered.false,
      c.in_ok-end_line.ensures.state,
      omega (arith, first.none_before.high),
      first.are_behind,
    )

pub returns-then-gathered-clause-feeds : goal.returns-then-gathered-clause-feeds
returns-then-gathered-clause-feeds c =
    let i = c.loop-n.invariant in
    let end = c.args.settings.now.end in
    let first = first-state _ _ c.loop-n.start _ c.in-Some.n c.next.new.self i.5 (sym i.6 ∙ c.in-Some.ensures.steps) in
    let line = take (c.in-Some.n - c.loop-n.start) (drop c.loop-n.start c.args.block.now) in
    let later = drop (c.in-Some.n + 1) c.args.block.now in
    let stops = ap (λ g. g.is_stopped) (sym c.gathered.view_is) ∙ c.if-gathered.true in
    let e : drop c.loop-n.start c.args.block.now ≡ (line ++ end ∷ []) ++ later =
    line-split end c.args.block.now c.loop-n.start c.in-Some.n c.next.new.self first in
    let all : c.args.block.now ≡ (i.0 ++ (line ++ end ∷ [])) ++ later =
    i.1 ∙ ap (λ (k : List ℕ). i.0 ++ k) e ∙ sym (append_assoc i.0 (line ++ end ∷ []) later) in
    rw all (Feeds-stopped c.args.settings.now c.args.form.now _ _ _ _ later _ _ stops
    (Feeds-then c.args.settings.now c.args.form.now _ _ _ _ i.0 _ (line ++ end ∷ []) _ i.3 i.2 c.in_ok-end_line.ensures.feeds))

pub returns-then-gathered-clause-state : goal.returns-then-gathered-clause-state
returns-then-gathered-clause-state c on =
    absurd (false≢true (sym on ∙ ap (λ g. g.is_stopped) (sym c.gathered.view_is) ∙ c.if-gathered.true))

pub returns-clause-feeds : goal.returns-clause-feeds
returns-clause-feeds c =
    let i = c.loop-n.invariant in
    let d = c.args.settings.now.delimiter in
    let end = c.args.settings.now.end in
    let block = c.args.block.now in
    let rest = drop c.loop-n.start block in
    let held = c.loop-n.held.items in
    let none : IsPartLine end rest = line-all end block c.loop-n.start (no-state _ _ c.loop-n.start _ i.5 (sym i.6 ∙ c.in-None.ensures.steps.0)) in
    let part = IsPart-append d end Front held rest (i.2.is_part i.3) (IsPart-line d end (state_behind d Front held) rest none) in
    let whole = take_all (length block - c.loop-n.start) rest (omega (arith, length-drop c.loop-n.start block)) in
    rw (i.1, c.in_ok-extend_from_slice.ensures.items, whole) (Feeds-then c.args.settings.now c.args.form.now _ _ _ _ i.0 _ rest _ i.3 i.2
    (Feeds-part c.args.settings.now c.args.form.now _ held rest i.3 part))

pub returns-clause-state : goal.returns-clause-state
returns-clause-state c on =
    let i = c.loop-n.invariant in
    let d = c.args.settings.now.delimiter in
    let block = c.args.block.now in
    let rest = take (length block - c.loop-n.start) (drop c.loop-n.start block) in
    rw (c.in_ok-extend_from_slice.ensures.items, state_behind-append d c.args.settings.now.end Front c.loop-n.held.items rest)
    (c.state_behind.ensures ∙ ap (λ s. state_behind s.delimiter c.loop-n.state rest) c.settings.view_is ∙ ap (λ p. state_behind d p rest) i.4)

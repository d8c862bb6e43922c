use Rattle.std.proofs.Common.{◌≡◌, ◌<◌, length, Err, length-drop, arith, sym, ap, ◌∙◌}
use Rattle.std.proofs.lemmas.Bool.Decides.{nat_tests}
use Rattle.number_skeleton.specs.Data.{DraftData, draft_data, drafted, read}
use Rattle.number_skeleton.specs.Tokens.{skeleton_of}
use Rattle.number_skeleton.proofs.Steps.{reads-start, token-within, token-some, reads-end, reads-fault, reads-more}
use Rattle.number_skeleton.proofs.reader.read_skeleton.Goals as goal

pub loop-bytes-init : goal.loop-bytes-init
loop-bytes-init c = reads-start _ _ (ap (λ (d : DraftData). record { draft = d; precision_at = 0 }) (ap draft_data c.nothing_set-draft.ensures))

pub overflow_add-at : goal.overflow_add-at
overflow_add-at c = omega (
  arith,
  c.loop-bytes.invariant.within,
  c.blanks_len-at.ensures.within,
  ap length c.behind.ensures,
  length-drop c.loop-bytes.at
      c.as_bytes-bytes.result.now,
)

pub returns-then-is_empty : goal.returns-then-is_empty
returns-then-is_empty c =
    let b = c.blanks_len-at.ensures in
    let none : length c.behind-rest.result.now ≡ 0 = grind (arith, nat_tests) in
    let end = reads-end _ _ _ c.loop-bytes.invariant _ _ _ c.behind.ensures b.within b.same b.none c.behind-rest.ensures none in
    c.checked.ensures ∙ sym end ∙ ap skeleton_of c.as_bytes-bytes.ensures.value

pub returns-in_err-draft : goal.returns-in_err-draft
returns-in_err-draft c =
    let b = c.blanks_len-at.ensures in
    let some : 0 < length c.behind-rest.result.now = grind (arith, nat_tests) in
    let bad = reads-fault _ _ _ c.loop-bytes.invariant _ _ _ c.behind.ensures b.within b.same b.none c.behind-rest.ensures some _ c.token_len-len.ensures _
    c.front.ensures
    c.in_err-draft.field-0.0 (sym c.with_token.ensures ∙ ap drafted c.in_err-draft.was) in
    let gone : c.from_residual.result ≡ Err c.in_err-draft.field-0.0 = grind arith in
    ap read gone ∙ sym bad ∙ ap skeleton_of c.as_bytes-bytes.ensures.value

pub overflow_add-at-in-loop-bytes : goal.overflow_add-at-in-loop-bytes
overflow_add-at-in-loop-bytes c =
    let b = c.blanks_len-at.ensures in
    let some : 0 < length c.behind-rest.result.now = grind (arith, nat_tests) in
    omega (
      arith,
      token-within _ _ _ c.loop-bytes.invariant _ _ _ c.behind.ensures b.within b.same b.none c.behind-rest.ensures some _ c.token_len-len.ensures
          _ c.front.ensures,
    )

pub loop-bytes-smaller : goal.loop-bytes-smaller
loop-bytes-smaller c =
    let b = c.blanks_len-at.ensures in
    let some : 0 < length c.behind-rest.result.now = grind (arith, nat_tests) in
    omega (
      arith,
      token-within _ _ _ c.loop-bytes.invariant _ _ _ c.behind.ensures b.within b.same b.none c.behind-rest.ensures some _ c.token_len-len.ensures _
          c.front.ensures,
      token-some _ _ _ c.loop-bytes.invariant _ _ _ c.behind.ensures b.within b.same b.none c.behind-rest.ensures some _ c.token_len-len.ensures _
          c.front.ensures,
    )

pub loop-bytes-preserved : goal.loop-bytes-preserved
loop-bytes-preserved c =
    let b = c.blanks_len-at.ensures in
    let some : 0 < length c.behind-rest.result.now = grind (arith, nat_tests) in
    let more = reads-more _ _ _ c.loop-bytes.invariant _ _ _ c.behind.ensures b.within b.same b.none c.behind-rest.ensures some _ c.token_len-len.ensures _
    c.front.ensures
    (draft_data c.in_ok-draft.draft) (sym c.with_token.ensures ∙ ap drafted c.in_ok-draft.was) in
    rw (c.precision_offset-precision_at.ensures) more

use Rattle.std.proofs.Common.{◌≡◌, ◌++◌, ◌∷◌, [], true, false, sym, ap, ◌∙◌, append_assoc}
use Rattle.std.specs.Prelude.{OnOk, Result, Ok, Err}
use Rattle.std.proofs.lemmas.Result.{on_ok_weaker}
use Rattle.locnum_lines.specs.Fields.{is_quoted}
use Rattle.locnum_lines.specs.Records.{is_open, state_after, state_behind}
use Rattle.locnum_lines.specs.declared.cutting.FieldState.TheVariants.{Front, Quoted}
use Rattle.locnum_lines.proofs.Fed.{Feeds-part, Feeds-record}
use Rattle.locnum_lines.proofs.Feeding.{IsPart-append, IsPart-end, IsPart-line, state_behind-append, state_behind-more, state_behind-nothing}
use Rattle.locnum_lines.proofs.Skips.{quoted-is}
use Rattle.locnum_lines.proofs.blocks.end_line.Goals as goal

-- what holds of a result that isn't an error
on_ok_both : {X E : Type 0} {P Q R : Type 0} (r : Result X E) → (P → Q → R) → OnOk r P → OnOk r Q → OnOk r R
on_ok_both (Ok x) f p q = f p q
on_ok_both (Err e) f p q = tt

pub returns-then-is_open_behind-clause-feeds : goal.returns-then-is_open_behind-clause-feeds
returns-then-is_open_behind-clause-feeds c =
    let d = c.args.settings.now.delimiter in
    let end = c.args.settings.now.end in
    let held = c.args.held.now.items in
    let rest = c.args.rest.now in
    let at : c.is_open_behind.result ≡ is_open d (held ++ rest) =
    c.is_open_behind.ensures ∙ ap (λ s. is_quoted (state_behind s.delimiter c.args.state.now rest)) c.settings.view_is
    ∙ ap (λ p. is_quoted (state_behind d p rest)) c.requires.state_is ∙ ap is_quoted (sym (state_behind-append d end Front held rest)) in
    let part = IsPart-append d end Front held rest c.requires.held_part (IsPart-line d end (state_behind d Front held) rest c.requires.rest_part) in
    let items : c.push.new.self.items ≡ (held ++ rest) ++ end ∷ [] = c.in_ok-push.ensures.items
    ∙ ap (λ k. k ++ c.settings.inside.end ∷ []) c.in_ok-extend_from_slice.ensures.items
    ∙ ap (λ s. (held ++ rest) ++ s.end ∷ []) c.settings.view_is in
    let quoted : is_quoted (state_behind d Front (held ++ rest)) ≡ true = sym at ∙ c.if-is_open_behind.true in
    let whole = IsPart-append d end Front (held ++ rest) (end ∷ []) part (IsPart-end d end _ quoted) in
    rw (items, append_assoc held rest (end ∷ [])) (Feeds-part c.args.settings.now c.args.form.now c.args.gathered.now held (rest ++ end ∷ [])
    c.requires.going (rw (append_assoc held rest (end ∷ [])) at whole))

pub returns-then-is_open_behind-clause-state : goal.returns-then-is_open_behind-clause-state
returns-then-is_open_behind-clause-state c =
    let d = c.args.settings.now.delimiter in
    let end = c.args.settings.now.end in
    let held = c.args.held.now.items in
    let rest = c.args.rest.now in
    let at : c.is_open_behind.result ≡ is_open d (held ++ rest) =
    c.is_open_behind.ensures ∙ ap (λ s. is_quoted (state_behind s.delimiter c.args.state.now rest)) c.settings.view_is
    ∙ ap (λ p. is_quoted (state_behind d p rest)) c.requires.state_is ∙ ap is_quoted (sym (state_behind-append d end Front held rest)) in
    let items : c.push.new.self.items ≡ (held ++ rest) ++ end ∷ [] = c.in_ok-push.ensures.items
    ∙ ap (λ k. k ++ c.settings.inside.end ∷ []) c.in_ok-extend_from_slice.ensures.items
    ∙ ap (λ s. (held ++ rest) ++ s.end ∷ []) c.settings.view_is in
    rw (items, state_behind-more d end Front (held ++ rest) end) (c.state_after.ensures
    ∙ ap (λ s. state_after s.delimiter Quoted s.end) c.settings.view_is
    ∙ ap (λ p. state_after d p end) (sym (quoted-is (state_behind d Front (held ++ rest)) (sym at ∙ c.if-is_open_behind.true))))

pub end_record-requires-clause-closed : goal.end_record-requires-clause-closed
end_record-requires-clause-closed c =
    let d = c.args.settings.now.delimiter in
    let end = c.args.settings.now.end in
    let held = c.args.held.now.items in
    let rest = c.args.rest.now in
    let at : c.is_open_behind.result ≡ is_open d (held ++ rest) =
    c.is_open_behind.ensures ∙ ap (λ s. is_quoted (state_behind s.delimiter c.args.state.now rest)) c.settings.view_is
    ∙ ap (λ p. is_quoted (state_behind d p rest)) c.requires.state_is ∙ ap is_quoted (sym (state_behind-append d end Front held rest)) in
    sym at ∙ c.if-is_open_behind.false

pub returns : goal.returns
returns c =
    let d = c.args.settings.now.delimiter in
    let end = c.args.settings.now.end in
    let held = c.args.held.now.items in
    let rest = c.args.rest.now in
    let at : c.is_open_behind.result ≡ is_open d (held ++ rest) =
    c.is_open_behind.ensures ∙ ap (λ s. is_quoted (state_behind s.delimiter c.args.state.now rest)) c.settings.view_is
    ∙ ap (λ p. is_quoted (state_behind d p rest)) c.requires.state_is ∙ ap is_quoted (sym (state_behind-append d end Front held rest)) in
    let part = IsPart-append d end Front held rest c.requires.held_part (IsPart-line d end (state_behind d Front held) rest c.requires.rest_part) in
    let closed : is_open d (held ++ rest) ≡ false = sym at ∙ c.if-is_open_behind.false in
    record {
      feeds = on_ok_both c.end_record.result (λ ran none. rw none
          (Feeds-record c.args.settings.now c.args.form.now c.args.gathered.now c.end_record.new.gathered held rest part closed ran))
          c.end_record.ensures.ran c.end_record.ensures.none_held;
      state = on_ok_weaker c.end_record.result (λ none. rw none (sym (state_behind-nothing d end Front))) c.end_record.ensures.none_held;
    }

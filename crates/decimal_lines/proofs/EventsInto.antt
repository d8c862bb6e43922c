-- What a buffer, and a text with parts, holds behind a call that was to write what is shown into it.
use Rattle.std.proofs.Common.{◌≡◌, ℕ, inl, inr, List, [], ◌++◌, Option, Result, Ok, Err, sym, ap, ◌∙◌, subst}
use Rattle.std.specs.Borrow.{MutBor}
use Rattle.std.specs.Prelude.{◌≢◌, IfErr, OnOk}
use Rattle.writeable.specs.Annotated.{Annotated}
use Rattle.writeable.specs.Events.{Event, text_of}
use Rattle.writeable.specs.Sink.{LentWrites, Writes}
use Rattle.decimal_lines.specs.SingleText.{AppendsEvents, IsRefusal, WroteEvents}
use Rattle.decimal_lines.specs.declared.single_text.TextError.{TextError}
use Rattle.decimal_lines.specs.declared.single_text.TextError.TheVariants.{OutOfMemory}

module _ {K T : Type 0} (items : K → List ℕ) (k l : K) where
  -- a buffer grows by the text of what is shown
  pub buffer-grows : (result : Result T TextError) (shown : Result (List Event) TextError)
      → WroteEvents (λ x r es y. OnOk r (items y ≡ items x ++ text_of es)) k result shown l → OnOk result (AppendsEvents shown (items k) (items l))
  buffer-grows (Ok x) shown (events, is, grown) = subst (λ (s : Result (List Event) TextError). AppendsEvents s (items k) (items l)) (sym is) grown
  buffer-grows (Err error) shown w = tt

  -- the reason why nothing is shown
  pub buffer-refused : (result : Result T TextError) (shown : Result (List Event) TextError)
      → WroteEvents (λ x r es y. OnOk r (items y ≡ items x ++ text_of es)) k result shown l → IfErr result (λ error. IsRefusal shown error)
  buffer-refused (Ok x) shown w = tt
  buffer-refused (Err error) shown w = w.0

  -- and the buffer has the bytes that it had, unless memory ran out
  pub buffer-unchanged : (result : Result T TextError) (shown : Result (List Event) TextError)
      → WroteEvents (λ x r es y. OnOk r (items y ≡ items x ++ text_of es)) k result shown l
      → IfErr result (λ error. error ≢ OutOfMemory → items l ≡ items k)
  buffer-unchanged (Ok x) shown w = tt
  buffer-unchanged (Err error) shown (why, inl same) = λ other. ap items same
  buffer-unchanged (Err error) shown (why, inr failed) = λ other. absurd (other failed.0)

-- a sink to which a writer with parts passed on what it was to write
pub sink-writes : {K S T : Type 0} (events : S → List Event) (failures : S → ℕ) (limit : S → Option ℕ) (refusals : S → ℕ)
    (sink : K → MutBor S) (k l : K) (t : S) (result : Result T TextError) (shown : Result (List Event) TextError) → t ≡ (sink l).now
    → WroteEvents (λ a r es b. LentWrites events failures limit refusals (sink a) r es (sink b)) k result shown l
    → WroteEvents (Writes events failures) (sink k).now result shown t
sink-writes {K} {S} {T} events failures limit refusals sink k l t result shown same w =
    subst (λ (u : S). WroteEvents (Writes events failures) (sink k).now result shown u) (sym same) (go result w)
  where
    go : (r : Result T TextError) → WroteEvents (λ (a : K) q es (b : K). LentWrites events failures limit refusals (sink a) q es (sink b)) k r shown l
        → WroteEvents (Writes events failures) (sink k).now r shown (sink l).now
    go (Ok x) (es, told, w) = (es, told, w.writes)
    go (Err error) (why, inl unchanged) = (why, inl (ap (λ a. (sink a).now) unchanged))
    go (Err error) (why, inr (memory, (es, told, w))) = (why, inr (memory, (es, told, w.writes)))

-- a text with parts, which was empty, has the events that are shown
pub parts-held : {T : Type 0} (a b : Annotated) (x : T) (result : Result T TextError) (shown : Result (List Event) TextError) → a.events ≡ []
    → result ≡ Ok x → WroteEvents (Writes (λ s. s.events) (λ s. s.failures)) a result shown b → shown ≡ Ok b.events
parts-held {T} a b x result shown empty is w =
    go (subst (λ (r : Result T TextError). WroteEvents (Writes (λ (s : Annotated). s.events) (λ s. s.failures)) a r shown b) is w)
  where
    go : WroteEvents (Writes (λ (s : Annotated). s.events) (λ s. s.failures)) a (Ok x) shown b → shown ≡ Ok b.events
    go (es, told, added) = told ∙ ap Ok (sym (added.held ∙ ap (λ before. before ++ es) empty))

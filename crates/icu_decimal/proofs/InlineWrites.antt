-- What calls of `write_str` leave in an `InlineText`.
use Rattle.std.proofs.Common.{◌≡◌, ℕ, List, [], ◌∷◌, ◌++◌, sym, ap, ◌∙◌, append_assoc, append-nil, subst}
use Rattle.std.specs.Fmt.{WritesInCalls}
use Rattle.std.specs.Fmt.InlineText.{inline_text, IsIntact, AppendsIfIntact}
use Rattle.std.specs.List.{FoldsTo, concat}
use Rattle.std.specs.declared.fmt.InlineText.{InlineText}

module _ {n : ℕ} where
  appended : (s : InlineText n) (parts : List (List ℕ)) (t : InlineText n) → FoldsTo AppendsIfIntact s parts t → IsIntact s →
      IsIntact t × (inline_text t ≡ inline_text s ++ concat parts)
  appended s [] t same intact = (subst IsIntact same intact, ap inline_text (sym same) ∙ sym (append-nil (inline_text s)))
  appended s (part ∷ parts) t calls intact =
      let first = calls.1 intact in
      let more = appended calls.0 parts t calls.2 first.0 in
      (more.0, more.1 ∙ ap (λ l. l ++ concat parts) first.1 ∙ append_assoc (inline_text s) part (concat parts))

  -- a text that was empty holds what was written
  pub text_after_writes : (s : InlineText n) (bs : List ℕ) (t : InlineText n) → WritesInCalls AppendsIfIntact s bs t → IsIntact s →
      inline_text s ≡ [] → inline_text t ≡ bs
  text_after_writes s bs t w intact empty =
      (appended s w.parts t w.calls intact).1 ∙ ap (λ l. l ++ concat w.parts) empty ∙ w.whole

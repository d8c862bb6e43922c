-- The skeleton of a formatted place, by what the tests of its bytes say.
use Rattle.std.proofs.Common.{◌≡◌, ℕ, List, refl, sym, ap, ◌∙◌}
use Rattle.std.specs.Prelude.{Bool, true, false, not, ◌&&◌, if◌then◌else◌, Result, Err}
use Rattle.std.specs.Str.{IsUtf8, is_utf8}
use Rattle.std.proofs.lemmas.Str.{IsUtf8-from_is_utf8, is_utf8-from_IsUtf8}
use Rattle.number_skeleton.specs.declared.fault.SkeletonFault.{SkeletonFault}
use Rattle.number_skeleton.specs.Tokens.{skeleton_of}
use Rattle.skeleton_settings.specs.Settings.{SkeletonData}
use Rattle.icu_message.specs.declared.error.ParseError.TheVariants.{Style}
use Rattle.icu_message.specs.declared.piece.Word.{Word}
use Rattle.icu_message.specs.declared.stepping.State.{State}
use Rattle.icu_message.specs.Words.{word_in, has_brace}
use Rattle.icu_message.specs.Stepping.{is_style, formatted_step, skeleton_read}

no_text : (bytes : List ℕ) → ¬ (IsUtf8 bytes) → is_utf8 bytes ≡ false
no_text bytes bad = go (is_utf8 bytes) refl
  where
    go : (b : Bool) → is_utf8 bytes ≡ b → b ≡ false
    go true e = absurd (bad (IsUtf8-from_is_utf8 bytes e))
    go false e = refl

-- bytes that are no text are no style
pub no_style : (text bytes : List ℕ) (s : State) (w k : Word) → bytes ≡ word_in text k → ¬ (IsUtf8 bytes)
    → skeleton_read text s w k ≡ Err (Style k.start)
no_style text bytes s w k is bad =
    ap (λ l. if is_style l then formatted_step s w k (skeleton_of l) else Err (Style k.start)) (sym is)
    ∙ ap (λ c. if c && not (has_brace bytes) then formatted_step s w k (skeleton_of bytes) else Err (Style k.start)) (no_text bytes bad)

-- a text without braces is read
pub style_read : (text bytes : List ℕ) (s : State) (w k : Word) (r : Result SkeletonData SkeletonFault) → bytes ≡ word_in text k → IsUtf8 bytes
    → false ≡ has_brace bytes → r ≡ skeleton_of bytes → skeleton_read text s w k ≡ formatted_step s w k r
style_read text bytes s w k r is good bare read =
    ap (λ l. if is_style l then formatted_step s w k (skeleton_of l) else Err (Style k.start)) (sym is)
    ∙ ap (λ c. if c && not (has_brace bytes) then formatted_step s w k (skeleton_of bytes) else Err (Style k.start)) (is_utf8-from_IsUtf8 bytes good)
    ∙ ap (λ c. if not c then formatted_step s w k (skeleton_of bytes) else Err (Style k.start)) (sym bare)
    ∙ ap (formatted_step s w k) (sym read)

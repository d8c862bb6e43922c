-- Bytes that are a text, and those that aren't.
use Rattle.std.proofs.Common.{◌≡◌, ℕ, Bool, true, false, List, Some, None, refl, sym, ◌∙◌}
use Rattle.std.specs.Prelude.{if◌then◌else◌}
use Rattle.std.specs.Str.{IsUtf8, is_utf8}
use Rattle.std.proofs.lemmas.Bool.{false≢true}
use Rattle.std.proofs.lemmas.Str.{IsUtf8-from_is_utf8, is_utf8-from_IsUtf8}
use Rattle.talmuiga_c.specs.Asked.{text_in}

-- bytes that fail the test are no text
pub is_no_text : (bytes : List ℕ) → is_utf8 bytes ≡ false → ¬ (IsUtf8 bytes)
is_no_text bytes e = λ text. absurd (false≢true (sym e ∙ is_utf8-from_IsUtf8 bytes text))

-- bytes that are no text fail the test
pub fails_test : (bytes : List ℕ) → ¬ (IsUtf8 bytes) → is_utf8 bytes ≡ false
fails_test bytes no_text = go (is_utf8 bytes) refl
  where
    go : (b : Bool) → is_utf8 bytes ≡ b → b ≡ false
    go true e = absurd (no_text (IsUtf8-from_is_utf8 bytes e))
    go false e = refl

-- bytes that are a text are that text
pub text_in-text : (bytes : List ℕ) → IsUtf8 bytes → text_in bytes ≡ Some bytes
unfolding text_in
text_in-text bytes text = rw (is_utf8-from_IsUtf8 bytes text) refl

-- other bytes are none
pub text_in-nothing : (bytes : List ℕ) → ¬ (IsUtf8 bytes) → text_in bytes ≡ None
unfolding text_in
text_in-nothing bytes no_text = go (is_utf8 bytes) refl
  where
    go : (b : Bool) → is_utf8 bytes ≡ b → (if b then Some bytes else None) ≡ None
    go true e = absurd (no_text (IsUtf8-from_is_utf8 bytes e))
    go false e = refl

-- what the proofs of functions that take bytes of a caller cite
pub ruleset texts_in = (text_in-text, text_in-nothing)

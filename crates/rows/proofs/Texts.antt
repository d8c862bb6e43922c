-- Bytes that a conversion accepts are a text, and those that it rejects aren't.
use Rattle.std.specs.Prelude.{ℕ, List, Some, None, ◌≡◌, Bool, true, false, refl}
use Rattle.std.specs.Str.{IsUtf8, is_utf8}
use Rattle.std.proofs.lemmas.Str.{IsUtf8-from_is_utf8, is_utf8-from_IsUtf8}
use Rattle.rows.specs.Documents.{if_text}

pub if_text-nothing : if_text None ≡ None
unfolding if_text
if_text-nothing = refl

pub if_text-text : (bytes : List ℕ) → IsUtf8 bytes → if_text (Some bytes) ≡ Some bytes
unfolding if_text
if_text-text bytes is = rw (is_utf8-from_IsUtf8 bytes is) refl

pub if_text-none : (bytes : List ℕ) → ¬ (IsUtf8 bytes) → if_text (Some bytes) ≡ None
unfolding if_text
if_text-none bytes not = go (is_utf8 bytes) refl
  where
    go : (b : Bool) → is_utf8 bytes ≡ b → if_text (Some bytes) ≡ None
    go false e = rw e refl
    go true e = absurd (not (IsUtf8-from_is_utf8 bytes e))

-- what the proof of `text` cites
pub ruleset texts = (if_text-nothing, if_text-text, if_text-none)

-- What is read of the text of a message.
use Rattle.std.proofs.Common.{◌≡◌, ℕ, Bool, true, false, List, Ok, Err, refl}
use Rattle.std.specs.Prelude.{if◌then◌else◌}
use Rattle.std.specs.Str.{IsUtf8, IsValidUpTo, is_utf8}
use Rattle.std.proofs.lemmas.Str.{IsUtf8-from_is_utf8, is_utf8-from_IsUtf8, utf8_valid_len-IsValidUpTo}
use Rattle.talmuiga_c.specs.Messages.{text_asked}
use Rattle.talmuiga_c.specs.SkeletonFaults.{not_utf8_at}

module _ (bytes : List ℕ) where
  -- of a text
  pub asked-text : IsUtf8 bytes → text_asked bytes ≡ Ok bytes
  unfolding text_asked
  asked-text text = rw (is_utf8-from_IsUtf8 bytes text) refl

  -- of other bytes
  pub asked-no_text : ¬ (IsUtf8 bytes) → (n : ℕ) → IsValidUpTo bytes n → text_asked bytes ≡ Err (not_utf8_at n)
  unfolding text_asked
  asked-no_text no_text n valid = rw (utf8_valid_len-IsValidUpTo bytes n valid) (go (is_utf8 bytes) refl)
    where
      go : (b : Bool) → is_utf8 bytes ≡ b
          → (if b then Ok bytes else Err (not_utf8_at n)) ≡ Err (not_utf8_at n)
      go true e = absurd (no_text (IsUtf8-from_is_utf8 bytes e))
      go false e = refl

-- What is read of a skeleton, and what it asks for in a locale.
use Rattle.std.proofs.Common.{◌≡◌, ℕ, Bool, true, false, List, Some, None, Ok, Err, refl, sym}
use Rattle.std.specs.Prelude.{Result, if◌then◌else◌}
use Rattle.std.specs.Str.{IsUtf8, IsValidUpTo, is_utf8}
use Rattle.std.proofs.lemmas.Str.{IsUtf8-from_is_utf8, is_utf8-from_IsUtf8, utf8_valid_len-IsValidUpTo}
use Rattle.number_formatters.specs.Settings.{FormSettings}
use Rattle.number_formatters.specs.Skeleton.{settings_of}
use Rattle.number_formatters.specs.declared.skeleton.Unsupported.{Unsupported}
use Rattle.number_skeleton.specs.Tokens.{skeleton_of}
use Rattle.skeleton_settings.specs.Settings.{skeleton_data}
use Rattle.skeleton_settings.specs.declared.settings.Skeleton.{Skeleton}
use Rattle.talmuiga_c.specs.Endings.{words_refused}
use Rattle.talmuiga_c.specs.SkeletonFaults.{no_fault, not_utf8_at}
use Rattle.talmuiga_c.specs.Skeletons.{AsksFor, lent_skeleton, locale_asked, numbered_fault, settings_asked, skeleton_asked, skeleton_refused, supported}
use Rattle.talmuiga_c.specs.declared.fault.Fault.{Fault}
use Rattle.talmuiga_c.proofs.SameForm.{SameForms, same-settings}

module _ (bytes : List ℕ) where
  -- of a text
  pub read-text : IsUtf8 bytes → skeleton_asked bytes ≡ numbered_fault (skeleton_of bytes)
  unfolding skeleton_asked
  read-text text = rw (is_utf8-from_IsUtf8 bytes text) refl

  -- of other bytes
  pub read-no_text : ¬ (IsUtf8 bytes) → (n : ℕ) → IsValidUpTo bytes n → skeleton_asked bytes ≡ Err (not_utf8_at n)
  unfolding skeleton_asked
  read-no_text no_text n valid = rw (utf8_valid_len-IsValidUpTo bytes n valid) (go (is_utf8 bytes) refl)
    where
      go : (b : Bool) → is_utf8 bytes ≡ b → (if b then numbered_fault (skeleton_of bytes) else Err (not_utf8_at n)) ≡ Err (not_utf8_at n)
      go true e = absurd (no_text (IsUtf8-from_is_utf8 bytes e))
      go false e = refl

module _ (locale skeleton : List ℕ) where
  -- nothing is asked for in no locale
  pub no_locale : None ≡ locale_asked locale → settings_asked locale skeleton ≡ Err (record { status = words_refused; fault = no_fault })
  unfolding settings_asked
  no_locale e = rw (sym e) refl

  module _ (name : List ℕ) (is_locale : Some name ≡ locale_asked locale) where
    -- nor by a skeleton with a fault
    pub no_skeleton : (fault : Fault) → Err fault ≡ skeleton_asked skeleton
        → settings_asked locale skeleton ≡ Err (record { status = skeleton_refused; fault = fault })
    unfolding settings_asked
    no_skeleton fault e = rw (sym is_locale, sym e) refl

    asked-is : (s : Skeleton) → Ok (skeleton_data s) ≡ skeleton_asked skeleton
        → settings_asked locale skeleton ≡ supported (settings_of name (lent_skeleton (skeleton_data s)))
    unfolding settings_asked
    asked-is s e = rw (sym is_locale, sym e) refl

    asked-for : (given asked : Result FormSettings Unsupported) → SameForms given asked → settings_asked locale skeleton ≡ supported asked
        → AsksFor locale skeleton (supported given)
    asked-for (Ok x) (Ok y) same e = (y, (e, same))
    asked-for (Ok x) (Err b) same e = absurd same
    asked-for (Err a) (Ok y) same e = absurd same
    asked-for (Err a) (Err b) same e = rw same e

    -- what a skeleton that was read asks for
    pub asks-for : (s : Skeleton) → Ok (skeleton_data s) ≡ skeleton_asked skeleton → (given : Result FormSettings Unsupported)
        → given ≡ settings_of name s → AsksFor locale skeleton (supported given)
    asks-for s e given is = asked-for given (settings_of name (lent_skeleton (skeleton_data s))) (rw is (same-settings name s)) (asked-is s e)

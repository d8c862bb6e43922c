-- The texts of digits are UTF-8.
use Rattle.std.specs.Prelude.{ℕ, ◌<◌, List, [], ◌∷◌, ◌++◌, Result, Ok, Err, OnErr, OnOk}
use Rattle.std.proofs.Common.{◌≡◌, get_or, arith, refl, suc, zero}
use Rattle.std.proofs.lemmas.Bool.Decides.{nat_tests}
use Rattle.std.proofs.lemmas.Str.{IsUtf8-append, IsUtf8-encode, IsUtf8-nil}
use Rattle.std.specs.Char.{IsScalar, encode_utf8}
use Rattle.std.specs.Str.{IsUtf8}
use Rattle.writeable.specs.declared.sink.WriteFault.{WriteFault}
use Rattle.writeable.specs.Events.{ascii_characters, digit_events, text_of}
use Rattle.writeable.specs.Groups.{joined, joined_after, group_texts}

-- a code below 128 is one of a character
pub ascii_is_scalar : (c : ℕ) → c < 128 → IsScalar c
ascii_is_scalar c small = grind (arith, nat_tests)

-- the text of digits by ten characters is UTF-8
pub IsUtf8-digits : (characters digits : List ℕ) → ((d : ℕ) → IsScalar (get_or characters d 0)) → IsUtf8 (text_of (digit_events characters digits))
IsUtf8-digits characters [] scalar = IsUtf8-nil
IsUtf8-digits characters (d ∷ digits) scalar = IsUtf8-append (encode_utf8 (get_or characters d 0)) (text_of (digit_events characters digits))
    (IsUtf8-encode (get_or characters d 0) (scalar d)) (IsUtf8-digits characters digits scalar)

-- groups of digits with a separator that is UTF-8 are UTF-8: behind the first
IsUtf8-groups_after : (separator characters : List ℕ) (groups : List (List ℕ)) → ((d : ℕ) → IsScalar (get_or characters d 0)) → IsUtf8 separator →
    IsUtf8 (joined_after separator (group_texts characters groups))
IsUtf8-groups_after separator characters [] scalar text = IsUtf8-nil
IsUtf8-groups_after separator characters (g ∷ groups) scalar text =
    let rest = joined_after separator (group_texts characters groups) in
    IsUtf8-append separator (text_of (digit_events characters g) ++ rest) text
    (IsUtf8-append (text_of (digit_events characters g)) rest (IsUtf8-digits characters g scalar)
    (IsUtf8-groups_after separator characters groups scalar text))

-- groups of digits with a separator that is UTF-8 are UTF-8
pub IsUtf8-groups : (separator characters : List ℕ) (groups : List (List ℕ)) → ((d : ℕ) → IsScalar (get_or characters d 0)) → IsUtf8 separator →
    IsUtf8 (joined separator (group_texts characters groups))
IsUtf8-groups separator characters [] scalar text = IsUtf8-nil
IsUtf8-groups separator characters (g ∷ groups) scalar text =
    IsUtf8-append (text_of (digit_events characters g)) (joined_after separator (group_texts characters groups)) (IsUtf8-digits characters g scalar)
    (IsUtf8-groups_after separator characters groups scalar text)

-- '0' to '9' are characters
pub ascii_scalars : (d : ℕ) → IsScalar (get_or ascii_characters d 0)
ascii_scalars zero = refl
ascii_scalars (suc zero) = refl
ascii_scalars (suc (suc zero)) = refl
ascii_scalars (suc (suc (suc zero))) = refl
ascii_scalars (suc (suc (suc (suc zero)))) = refl
ascii_scalars (suc (suc (suc (suc (suc zero))))) = refl
ascii_scalars (suc (suc (suc (suc (suc (suc zero)))))) = refl
ascii_scalars (suc (suc (suc (suc (suc (suc (suc zero))))))) = refl
ascii_scalars (suc (suc (suc (suc (suc (suc (suc (suc zero)))))))) = refl
ascii_scalars (suc (suc (suc (suc (suc (suc (suc (suc (suc zero))))))))) = refl
ascii_scalars (suc (suc (suc (suc (suc (suc (suc (suc (suc (suc d)))))))))) = refl

-- UTF-8 behind UTF-8
pub IsUtf8-behind : (old added new : List ℕ) → new ≡ old ++ added → IsUtf8 old → IsUtf8 added → IsUtf8 new
IsUtf8-behind old added new e first second = rw e (IsUtf8-append old added first second)

-- UTF-8 behind UTF-8 if a call succeeds, and what was there if it fails
pub IsUtf8-grown : (result : Result (Unit {0}) WriteFault) (old added new : List ℕ) → OnOk result (new ≡ old ++ added) → OnErr result (new ≡ old) →
    IsUtf8 old → IsUtf8 added → IsUtf8 new
IsUtf8-grown (Ok x) old added new ok err first second = IsUtf8-behind old added new ok first second
IsUtf8-grown (Err e) old added new ok err first second = rw err first

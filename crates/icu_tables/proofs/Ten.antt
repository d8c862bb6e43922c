-- Ten characters, and any other number of them.
use Rattle.std.proofs.Common.{◌≡◌, ℕ, eqb, true, false, List, length, Ok, Err, refl, arith}
use Rattle.std.proofs.lemmas.Bool.Decides.{nat_tests}
use Rattle.std.specs.Array.{IsWholeChunk}
use Rattle.std.specs.Str.{chars}
use Rattle.icu_tables.specs.Digits.{ten_in}
use Rattle.icu_table_entries.specs.declared.error.Key.{Key}
use Rattle.icu_table_entries.specs.declared.error.TableError.TheVariants.{WrongKind}

not_ten : (n : ℕ) → (n ≡ 10 → ⊥) → eqb n 10 ≡ false
not_ten n h = grind (arith, nat_tests)

-- ten characters are taken
pub ten_taken : (key : Key) (text xs ys : List ℕ) → xs ≡ chars text → IsWholeChunk xs ys 10 → ten_in key text ≡ Ok ys
unfolding ten_in
ten_taken key text xs ys e h =
    let n : length (chars text) ≡ 10 = rw (← e) h.long in
    let k : eqb (length (chars text)) 10 ≡ true = rw n refl in rw (k, h.same, e) refl

-- another count than ten is rejected
pub ten_refused : (key : Key) (text xs : List ℕ) → xs ≡ chars text → (length xs ≡ 10 → ⊥) → ten_in key text ≡ Err (WrongKind key)
unfolding ten_in
ten_refused key text xs e h = let k : eqb (length (chars text)) 10 ≡ false = not_ten (length (chars text)) (rw e at h) in rw k refl

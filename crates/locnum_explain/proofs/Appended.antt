-- Bytes that are appended part by part.
use Rattle.std.proofs.Common.{◌≡◌, ℕ, List, ◌++◌, arith}
use Rattle.std.proofs.lemmas.Grind.{common_steps}

pub appended_two : (out p q a b : List ℕ) → a ≡ out ++ p → b ≡ a ++ q → b ≡ out ++ (p ++ q)
appended_two out p q a b e f = grind (arith, common_steps)

pub appended_three : (out p q r a b c : List ℕ) → a ≡ out ++ p → b ≡ a ++ q → c ≡ b ++ r → c ≡ out ++ (p ++ q ++ r)
appended_three out p q r a b c e f g = grind (arith, common_steps)

pub appended_five : (out p q r s t a b c d x : List ℕ) → a ≡ out ++ p → b ≡ a ++ q → c ≡ b ++ r → d ≡ c ++ s → x ≡ d ++ t →
    x ≡ out ++ (p ++ q ++ r ++ s ++ t)
appended_five out p q r s t a b c d x e f g h i = grind (arith, common_steps)

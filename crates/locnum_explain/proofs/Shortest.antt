-- A decimal with just the digits that its number needs is determined by its size.
use Rattle.std.proofs.Common.{◌≡◌, ℕ, ◌-◌, Bool, true, false, not, ◌&&◌, List, length}
use Rattle.std.proofs.Common.{refl, sym, ap, ap₂, subst, ◌∙◌, arith, pos, le_antisymm}
use Rattle.std.specs.Prelude.{nat_eq}
use Rattle.std.specs.Cmp.Lexicographic.{pointwise}
use Rattle.std.specs.Int.{int_max}
use Rattle.std.proofs.lemmas.Bool.{and_parts, eqb-true, eq-eqb}
use Rattle.std.proofs.lemmas.Slice.Eq.{bytes_eq-Decides}
use Rattle.std.proofs.lemmas.Int.{ints}
use Rattle.fixed_decimal.specs.Modes.{IsLeastFrom}
use Rattle.fixed_decimal.specs.Padding.{IsExactWith}
use Rattle.fixed_decimal.specs.Size.{finest, magnitude, size, weighed}
use Rattle.fixed_decimal.specs.Unsigned.{Unsigned, high}
use Rattle.icu_decimal.proofs.DecomposedOnce.{digits_by_weight}
use Rattle.locnum_explain.specs.Rounding.{IsShortest, is_rounded}

-- the least number with a property is determined
least-one : (Allowed : ℕ → Type 0) (m n : ℕ) → IsLeastFrom Allowed 0 m → IsLeastFrom Allowed 0 n → m ≡ n
least-one Allowed m n p q = le_antisymm (p.least n q.allowed q.from) (q.least m p.allowed p.from)

-- the shortest decimals of two decimals of one size are equal
shortest-equal : (d e y z : Unsigned) → IsShortest d y → IsShortest e z → size d ≡ size e → y ≡ z
shortest-equal d e y z p q same =
    let scales : y.scale ≡ z.scale = least-one (IsExactWith (size d)) y.scale z.scale p.scale_is
    (subst (λ (x : ℕ). IsLeastFrom (IsExactWith x) 0 z.scale) (sym same) q.scale_is) in
    let tops : high y ≡ high z = p.high_is ∙ ap (λ x. int_max (pos 0) (magnitude x)) same ∙ sym q.high_is in
    let lengths : length y.digits ≡ length z.digits = omega (arith, ints, scales, p.is_decimal.integer_some, q.is_decimal.integer_some) in
    let sizes : weighed (finest - y.scale) y.digits ≡ weighed (finest - y.scale) z.digits =
    p.size_is ∙ same ∙ sym q.size_is ∙ ap (λ s. weighed (finest - s) z.digits) (sym scales) in
    let digits : y.digits ≡ z.digits = digits_by_weight (finest - y.scale) y.digits z.digits lengths p.is_decimal.below_ten q.is_decimal.below_ten
    sizes in
    let make : List ℕ → ℕ → Unsigned = λ ds s. record { digits = ds; scale = s } in
    ap₂ make digits scales

-- Two such decimals are unequal exactly where the sizes are.
module _ (d e y z : Unsigned) (p : IsShortest d y) (q : IsShortest e z) where
  abbrev equal : Bool
  equal = pointwise nat_eq y.digits z.digits && nat_eq y.scale z.scale

  abbrev made : List ℕ → ℕ → Unsigned
  made ds s = record { digits = ds; scale = s }

  sizes : equal ≡ true → size d ≡ size e
  sizes h =
      let parts = and_parts (pointwise nat_eq y.digits z.digits) (nat_eq y.scale z.scale) h in
      let digits : y.digits ≡ z.digits = (bytes_eq-Decides y.digits z.digits).0 parts.0 in
      let scales : y.scale ≡ z.scale = eqb-true _ _ parts.1 in
      sym p.size_is ∙ ap₂ (λ ds s. size (made ds s)) digits scales ∙ q.size_is

  agrees : size d ≡ size e → equal ≡ true
  agrees same =
      let are : y ≡ z = shortest-equal d e y z p q same in
      let digits : pointwise nat_eq y.digits z.digits ≡ true = (bytes_eq-Decides y.digits z.digits).1 (ap (λ (u : Unsigned). u.digits) are) in
      let scales : nat_eq y.scale z.scale ≡ true = eq-eqb y.scale z.scale (ap (λ (u : Unsigned). u.scale) are) in
      rw (digits, scales) refl

  pub shortest-unequal : not equal ≡ is_rounded d e
  shortest-unequal = ap not (both equal (nat_eq (size d) (size e)) (λ h. eq-eqb (size d) (size e) (sizes h)) (λ h. agrees (eqb-true _ _ h)))
    where
      both : (a b : Bool) → (a ≡ true → b ≡ true) → (b ≡ true → a ≡ true) → a ≡ b
      both true b f g = sym (f refl)
      both false true f g = g refl
      both false false f g = refl

-- What a rounding mode takes of the allowed sizes around a size: one size, in order, between its neighbours.
use Rattle.std.proofs.Common.{◌≡◌, ℕ, ◌-◌, ◌/◌, ◌%◌, ◌<◌, ◌≤◌, ◌⊎◌, inl, inr, refl, sym, ◌∙◌, ap, arith, Bool}
use Rattle.std.proofs.Common.{true, false}
use Rattle.std.specs.Prelude.{nat_lt, ◌==◌, if◌then◌else◌}
use Rattle.std.proofs.lemmas.Bool.{cases_lt, cases_eq, cases_order}
use Rattle.std.proofs.lemmas.Bool.Decides.{nat_tests}
use Rattle.fixed_decimal.specs.declared.modes.UnsignedRoundingMode.{UnsignedRoundingMode}
use Rattle.fixed_decimal.specs.declared.modes.UnsignedRoundingMode.TheVariants.{Expand, Trunc, HalfExpand, HalfTrunc, HalfEven}
use Rattle.fixed_decimal.specs.Nearest.{distance}
use Rattle.fixed_decimal.specs.Modes.{IsGreatestUpTo, IsLeastFrom, IsTaken, taken, even_of}
use Rattle.fixed_decimal.specs.ModeLaws.{IsHalf}

-- a test that holds
pub if_lt : (a b l h : ℕ) → a < b → (if nat_lt a b then l else h) ≡ l
if_lt a b l h s = grind (arith, nat_tests)

-- a test that fails
pub if_ge : (a b l h : ℕ) → b ≤ a → (if nat_lt a b then l else h) ≡ h
if_ge a b l h s = grind (arith, nat_tests)

-- of two choices one is made
if_either : (b : Bool) (l h : ℕ) → ((if b then l else h) ≡ l) ⊎ ((if b then l else h) ≡ h)
if_either true l h = inl refl
if_either false l h = inr refl

-- a mode takes one of the two
pub taken_either : (mode : UnsignedRoundingMode) (u l h x : ℕ) → (taken mode u l h x ≡ l) ⊎ (taken mode u l h x ≡ h)
taken_either Expand u l h x = inr refl
taken_either Trunc u l h x = inl refl
taken_either HalfExpand u l h x = if_either (nat_lt (x - l) (h - x)) l h
taken_either HalfTrunc u l h x = elim (if_either (nat_lt (h - x) (x - l)) h l) [ inl e ↦ inr e | inr e ↦ inl e ]
taken_either HalfEven u l h x = elim (cases_lt (x - l) (h - x)) [
  | inl s ↦ inl (if_lt (x - l) (h - x) l _ s)
  | inr s ↦ elim (cases_lt (h - x) (x - l)) [
    | inl t ↦ inr (if_ge (x - l) (h - x) l _ s ∙ if_lt (h - x) (x - l) h _ t)
    | inr t ↦ elim (if_either ((l / u) % 2 == 0) l h) [
      | inl e ↦ inl (if_ge (x - l) (h - x) l _ s ∙ (if_ge (h - x) (x - l) h _ t ∙ e))
      | inr e ↦ inr (if_ge (x - l) (h - x) l _ s ∙ (if_ge (h - x) (x - l) h _ t ∙ e))
    ]
  ]
]

-- of equal neighbours a mode takes that
pub taken-same : (mode : UnsignedRoundingMode) (u x : ℕ) → taken mode u x x x ≡ x
taken-same mode u x = elim (taken_either mode u x x x) [ inl e ↦ e | inr e ↦ e ]

-- a lesser size between the same neighbours is taken as no greater one
pub taken_monotone : (mode : UnsignedRoundingMode) (u l h x x' : ℕ) → l ≤ x → x ≤ x' → x' ≤ h → taken mode u l h x ≤ taken mode u l h x'
taken_monotone Expand u l h x x' a b c = omega arith
taken_monotone Trunc u l h x x' a b c = omega arith
taken_monotone HalfExpand u l h x x' a b c = elim (cases_lt (x - l) (h - x)) [
  | inl s ↦ elim (taken_either HalfExpand u l h x') [
    | inl e ↦ omega (arith, if_lt (x - l) (h - x) l h s, e)
    | inr e ↦ omega (arith, if_lt (x - l) (h - x) l h s, e)
  ]
  | inr s ↦ omega (arith, if_ge (x - l) (h - x) l h s, if_ge (x' - l) (h - x') l h (omega arith))
]
taken_monotone HalfTrunc u l h x x' a b c = elim (cases_lt (h - x) (x - l)) [
  | inl s ↦ omega (arith, if_lt (h - x) (x - l) h l s, if_lt (h - x') (x' - l) h l (omega arith))
  | inr s ↦ elim (taken_either HalfTrunc u l h x') [
    | inl e ↦ omega (arith, if_ge (h - x) (x - l) h l s, e)
    | inr e ↦ omega (arith, if_ge (h - x) (x - l) h l s, e)
  ]
]
taken_monotone HalfEven u l h x x' a b c = elim (cases_eq x x') [
  | inl e ↦ rw e (omega arith)
  | inr other ↦ elim (cases_lt (x - l) (h - x)) [
    | inl s ↦ elim (taken_either HalfEven u l h x') [
      | inl e ↦ omega (arith, if_lt (x - l) (h - x) l (if nat_lt (h - x) (x - l) then h else even_of u l h) s, e)
      | inr e ↦ omega (arith, if_lt (x - l) (h - x) l (if nat_lt (h - x) (x - l) then h else even_of u l h) s, e)
    ]
    | inr s ↦
        let top : taken HalfEven u l h x' ≡ h =
        if_ge (x' - l) (h - x') l (if nat_lt (h - x') (x' - l) then h else even_of u l h) (omega arith) ∙ if_lt (h - x') (x' - l) h _ (omega arith) in
        elim (taken_either HalfEven u l h x) [ inl e ↦ omega (arith, e, top) | inr e ↦ omega (arith, e, top) ]
  ]
]

-- by a half mode the nearer one is taken
nearer : (mode : UnsignedRoundingMode) (u l h x : ℕ) → IsHalf mode → l ≤ x → x ≤ h →
    (distance x (taken mode u l h x) ≤ x - l) × (distance x (taken mode u l h x) ≤ h - x)
nearer Expand u l h x half a b = absurd half
nearer Trunc u l h x half a b = absurd half
nearer HalfExpand u l h x half a b = elim (cases_lt (x - l) (h - x)) [
  | inl s ↦ rw (if_lt (x - l) (h - x) l h s) (omega arith, omega arith)
  | inr s ↦ rw (if_ge (x - l) (h - x) l h s) (omega arith, omega arith)
]
nearer HalfTrunc u l h x half a b = elim (cases_lt (h - x) (x - l)) [
  | inl s ↦ rw (if_lt (h - x) (x - l) h l s) (omega arith, omega arith)
  | inr s ↦ rw (if_ge (h - x) (x - l) h l s) (omega arith, omega arith)
]
nearer HalfEven u l h x half a b = elim (cases_order (x - l) (h - x)) [
  | inl same ↦ elim (taken_either HalfEven u l h x) [ inl e ↦ rw e (omega arith, omega arith) | inr e ↦ rw e (omega arith, omega arith) ]
  | inr (inl s) ↦ rw (if_lt (x - l) (h - x) l (if nat_lt (h - x) (x - l) then h else even_of u l h) s) (omega arith, omega arith)
  | inr (inr s) ↦
      let top : taken HalfEven u l h x ≡ h =
      if_ge (x - l) (h - x) l (if nat_lt (h - x) (x - l) then h else even_of u l h) (omega arith) ∙ if_lt (h - x) (x - l) h (even_of u l h) s in
      rw top (omega arith, omega arith)
]

module _ (Allowed : ℕ → Type 0) where
  -- there is one greatest allowed size up to x
  pub greatest-unique : (x a b : ℕ) → IsGreatestUpTo Allowed x a → IsGreatestUpTo Allowed x b → a ≡ b
  greatest-unique x a b p q = omega (arith, p.greatest b q.allowed q.up_to, q.greatest a p.allowed p.up_to)

  -- there is one least allowed size from x on
  pub least-unique : (x a b : ℕ) → IsLeastFrom Allowed x a → IsLeastFrom Allowed x b → a ≡ b
  least-unique x a b p q = omega (arith, p.least b q.allowed q.from, q.least a p.allowed p.from)

  module _ (mode : UnsignedRoundingMode) (u : ℕ) where
    -- one size is taken
    pub taken-unique : (x y z : ℕ) → IsTaken Allowed mode u x y → IsTaken Allowed mode u x z → y ≡ z
    taken-unique x y z p q =
        p.is ∙ (ap (λ l. taken mode u l p.high x) (greatest-unique x p.low q.low p.lower q.lower)
        ∙ (ap (λ h. taken mode u q.low h x) (least-unique x p.high q.high p.upper q.upper) ∙ sym q.is))

    -- what is taken is allowed
    pub taken_allowed : (x y : ℕ) → IsTaken Allowed mode u x y → Allowed y
    taken_allowed x y p = elim (taken_either mode u p.low p.high x) [
      | inl e ↦ rw (p.is, e) p.lower.allowed
      | inr e ↦ rw (p.is, e) p.upper.allowed
    ]

    -- an allowed size is taken as itself
    pub allowed_taken : (x : ℕ) → Allowed x → IsTaken Allowed mode u x x
    allowed_taken x a = record {
      low = x;
      high = x;
      lower = record { allowed = a; up_to = omega arith; greatest = λ z _ h. h };
      upper = record { allowed = a; from = omega arith; least = λ z _ h. h };
      is = sym (taken-same mode u x);
    }

    -- what is taken lies between the neighbours
    pub taken_between : (x y : ℕ) (p : IsTaken Allowed mode u x y) → (p.low ≤ y) × (y ≤ p.high)
    taken_between x y p = elim (taken_either mode u p.low p.high x) [
      | inl e ↦ (omega (arith, p.is, e), omega (arith, p.is, e, p.lower.up_to, p.upper.from))
      | inr e ↦ (omega (arith, p.is, e, p.lower.up_to, p.upper.from), omega (arith, p.is, e))
    ]

    -- of two sizes the lesser is taken as no greater one
    pub taken_in_order : (x x' y y' : ℕ) → x ≤ x' → IsTaken Allowed mode u x y → IsTaken Allowed mode u x' y' → y ≤ y'
    taken_in_order x x' y y' le p q =
        let b = taken_between x y p in
        let b' = taken_between x' y' q in
        elim (cases_lt x q.low) [
          | inl h ↦ let g : p.high ≤ q.low = p.upper.least q.low q.lower.allowed (omega arith) in omega (arith, b.1, b'.0)
          | inr h ↦ elim (cases_lt p.high x') [
            | inl k ↦ let g : p.high ≤ q.low = q.lower.greatest p.high p.upper.allowed (omega arith) in omega (arith, b.1, b'.0)
            | inr k ↦
                let same_low : p.low ≡ q.low = omega (
                  arith,
                  p.lower.greatest q.low q.lower.allowed h,
                  q.lower.greatest p.low p.lower.allowed (omega (arith, p.lower.up_to)),
                ) in
                let same_high : p.high ≡ q.high = omega (
                  arith,
                  q.upper.least p.high p.upper.allowed k,
                  p.upper.least q.high q.upper.allowed (omega (arith, q.upper.from)),
                ) in
                let same : y' ≡ taken mode u p.low p.high x' =
                q.is ∙ (ap (λ l. taken mode u l q.high x') (sym same_low) ∙ ap (λ h. taken mode u p.low h x') (sym same_high)) in
                let order = taken_monotone mode u p.low p.high x x' p.lower.up_to le k in
                omega (arith, p.is, same, order)
          ]
        ]

    -- nothing allowed lies between a size and what is taken of it
    pub nothing_between : (x y z : ℕ) → IsTaken Allowed mode u x y → Allowed z → (z ≤ x → y ≤ x → z ≤ y) × (x ≤ z → x ≤ y → y ≤ z)
    nothing_between x y z p a = elim (taken_either mode u p.low p.high x) [
      | inl e ↦ (
        λ below _. omega (arith, p.is, e, p.lower.greatest z a below),
        λ above over. omega (arith, p.is, e, p.lower.up_to),
      )
      | inr e ↦ (
        λ below under. omega (arith, p.is, e, p.upper.from),
        λ above _. omega (arith, p.is, e, p.upper.least z a above),
      )
    ]

    -- nothing allowed is nearer than the nearer neighbour
    nearer_of : (x y z : ℕ) (p : IsTaken Allowed mode u x y) → distance x y ≤ x - p.low → distance x y ≤ p.high - x → Allowed z →
        distance x y ≤ distance x z
    nearer_of x y z p below above a = elim (cases_lt x z) [
      | inl h ↦ let g : p.high ≤ z = p.upper.least z a (omega arith) in omega (arith, p.upper.from)
      | inr h ↦ let g : z ≤ p.low = p.lower.greatest z a h in omega (arith, p.lower.up_to)
    ]

    -- by the half modes nothing allowed is nearer than what is taken
    pub half_nearest : (x y z : ℕ) → IsHalf mode → IsTaken Allowed mode u x y → Allowed z → distance x y ≤ distance x z
    half_nearest x y z half p a =
        let n = nearer mode u p.low p.high x half p.lower.up_to p.upper.from in
        nearer_of x y z p (rw p.is n.0) (rw p.is n.1) a

  -- nothing allowed that is as near is greater than what half-up takes
  pub half_up_greater : (u x y z : ℕ) → IsTaken Allowed HalfExpand u x y → Allowed z → distance x z ≡ distance x y → z ≤ y
  half_up_greater u x y z p a same = elim (cases_lt x z) [
    | inl h ↦
        let g : p.high ≤ z = p.upper.least z a (omega arith) in
        elim (cases_lt (x - p.low) (p.high - x)) [
          | inl s ↦ absurd (omega (arith, p.is, if_lt (x - p.low) (p.high - x) p.low p.high s, p.lower.up_to))
          | inr s ↦ omega (arith, p.is, if_ge (x - p.low) (p.high - x) p.low p.high s)
        ]
    | inr h ↦
        let g : z ≤ p.low = p.lower.greatest z a h in
        elim (taken_either HalfExpand u p.low p.high x) [
          | inl e ↦ omega (arith, p.is, e)
          | inr e ↦ omega (arith, p.is, e, p.upper.from)
        ]
  ]

  -- nothing allowed that is as near is less than what half-down takes
  pub half_down_lesser : (u x y z : ℕ) → IsTaken Allowed HalfTrunc u x y → Allowed z → distance x z ≡ distance x y → y ≤ z
  half_down_lesser u x y z p a same = elim (cases_lt x z) [
    | inl h ↦
        let g : p.high ≤ z = p.upper.least z a (omega arith) in
        elim (taken_either HalfTrunc u p.low p.high x) [
          | inl e ↦ omega (arith, p.is, e, p.lower.up_to)
          | inr e ↦ omega (arith, p.is, e)
        ]
    | inr h ↦
        let g : z ≤ p.low = p.lower.greatest z a h in
        elim (cases_lt (p.high - x) (x - p.low)) [
          | inl s ↦ absurd (omega (arith, p.is, if_lt (p.high - x) (x - p.low) p.high p.low s, p.upper.from))
          | inr s ↦ omega (arith, p.is, if_ge (p.high - x) (x - p.low) p.high p.low s, p.lower.up_to)
        ]
  ]

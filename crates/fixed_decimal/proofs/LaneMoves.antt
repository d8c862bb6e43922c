-- Sixteen lanes without the one at a place: a mask chooses each lane of those before the place, and of the others the next.
-- For each of the sixteen places both sides are computed, lane by lane, over lanes that are variables.
use Rattle.std.proofs.Common.{◌≡◌, ℕ, ◌+◌, ◌<◌, Bool, nat_lt, cond, List, [], ◌∷◌, ◌++◌, map, length, get_or, take, drop}
use Rattle.std.proofs.Common.{refl, arith, zero, suc}
use lib.Lanes.{sel_l, top}

-- the places of the lanes behind the first
abbrev later_places : List ℕ
later_places = 1 ∷ 2 ∷ 3 ∷ 4 ∷ 5 ∷ 6 ∷ 7 ∷ 8 ∷ 9 ∷ 10 ∷ 11 ∷ 12 ∷ 13 ∷ 14 ∷ 15 ∷ []

-- a mask of the lanes before a place
abbrev lanes_before : ℕ → List Bool
lanes_before n = map (λ (place : ℕ). top 7 (cond (nat_lt place n) 255 0)) (0 ∷ later_places)

-- each lane's next one; the first is the next one of the last
abbrev next_lanes : List ℕ → List ℕ
next_lanes lanes = map (λ (place : ℕ). get_or (lanes ++ lanes) place 0) (later_places ++ (0 ∷ []))

-- the same as below where the lanes are sixteen variables
without_at : (n a b c d e f g h i j k l m o q r : ℕ) → n < 16 →
    let lanes : List ℕ = a ∷ b ∷ c ∷ d ∷ e ∷ f ∷ g ∷ h ∷ i ∷ j ∷ k ∷ l ∷ m ∷ o ∷ q ∷ r ∷ [] in
    sel_l (lanes_before n) lanes (next_lanes lanes) ≡ take n lanes ++ (drop (n + 1) lanes ++ take 1 lanes)
without_at zero a b c d e f g h i j k l m o q r less = refl
without_at (suc zero) a b c d e f g h i j k l m o q r less = refl
without_at (suc (suc zero)) a b c d e f g h i j k l m o q r less = refl
without_at (suc (suc (suc zero))) a b c d e f g h i j k l m o q r less = refl
without_at (suc (suc (suc (suc zero)))) a b c d e f g h i j k l m o q r less = refl
without_at (suc (suc (suc (suc (suc zero))))) a b c d e f g h i j k l m o q r less = refl
without_at (suc (suc (suc (suc (suc (suc zero)))))) a b c d e f g h i j k l m o q r less = refl
without_at (suc (suc (suc (suc (suc (suc (suc zero))))))) a b c d e f g h i j k l m o q r less = refl
without_at (suc (suc (suc (suc (suc (suc (suc (suc zero)))))))) a b c d e f g h i j k l m o q r less = refl
without_at (suc (suc (suc (suc (suc (suc (suc (suc (suc zero))))))))) a b c d e f g h i j k l m o q r less = refl
without_at (suc (suc (suc (suc (suc (suc (suc (suc (suc (suc zero)))))))))) a b c d e f g h i j k l m o q r less = refl
without_at (suc (suc (suc (suc (suc (suc (suc (suc (suc (suc (suc zero))))))))))) a b c d e f g h i j k l m o q r less = refl
without_at (suc (suc (suc (suc (suc (suc (suc (suc (suc (suc (suc (suc zero)))))))))))) a b c d e f g h i j k l m o q r less = refl
without_at (suc (suc (suc (suc (suc (suc (suc (suc (suc (suc (suc (suc (suc zero))))))))))))) a b c d e f g h i j k l m o q r less = refl
without_at (suc (suc (suc (suc (suc (suc (suc (suc (suc (suc (suc (suc (suc (suc zero)))))))))))))) a b c d e f g h i j k l m o q r less = refl
without_at (suc (suc (suc (suc (suc (suc (suc (suc (suc (suc (suc (suc (suc (suc (suc zero))))))))))))))) a b c d e f g h i j k l m o q r less = refl
without_at (suc (suc (suc (suc (suc (suc (suc (suc (suc (suc (suc (suc (suc (suc (suc (suc n)))))))))))))))) a b c d e f g h i j k l m o q r less =
    absurd (omega arith)

-- lanes chosen by the mask of those before a place are the lanes without the one at it, and the first lane behind them
pub without_lane_at : (n : ℕ) (lanes : List ℕ) → n < 16 → length lanes ≡ 16 →
    sel_l (lanes_before n) lanes (next_lanes lanes) ≡ take n lanes ++ (drop (n + 1) lanes ++ take 1 lanes)
without_lane_at n [] less long = absurd (omega arith)
without_lane_at n (a ∷ []) less long = absurd (omega arith)
without_lane_at n (a ∷ b ∷ []) less long = absurd (omega arith)
without_lane_at n (a ∷ b ∷ c ∷ []) less long = absurd (omega arith)
without_lane_at n (a ∷ b ∷ c ∷ d ∷ []) less long = absurd (omega arith)
without_lane_at n (a ∷ b ∷ c ∷ d ∷ e ∷ []) less long = absurd (omega arith)
without_lane_at n (a ∷ b ∷ c ∷ d ∷ e ∷ f ∷ []) less long = absurd (omega arith)
without_lane_at n (a ∷ b ∷ c ∷ d ∷ e ∷ f ∷ g ∷ []) less long = absurd (omega arith)
without_lane_at n (a ∷ b ∷ c ∷ d ∷ e ∷ f ∷ g ∷ h ∷ []) less long = absurd (omega arith)
without_lane_at n (a ∷ b ∷ c ∷ d ∷ e ∷ f ∷ g ∷ h ∷ i ∷ []) less long = absurd (omega arith)
without_lane_at n (a ∷ b ∷ c ∷ d ∷ e ∷ f ∷ g ∷ h ∷ i ∷ j ∷ []) less long = absurd (omega arith)
without_lane_at n (a ∷ b ∷ c ∷ d ∷ e ∷ f ∷ g ∷ h ∷ i ∷ j ∷ k ∷ []) less long = absurd (omega arith)
without_lane_at n (a ∷ b ∷ c ∷ d ∷ e ∷ f ∷ g ∷ h ∷ i ∷ j ∷ k ∷ l ∷ []) less long = absurd (omega arith)
without_lane_at n (a ∷ b ∷ c ∷ d ∷ e ∷ f ∷ g ∷ h ∷ i ∷ j ∷ k ∷ l ∷ m ∷ []) less long = absurd (omega arith)
without_lane_at n (a ∷ b ∷ c ∷ d ∷ e ∷ f ∷ g ∷ h ∷ i ∷ j ∷ k ∷ l ∷ m ∷ o ∷ []) less long = absurd (omega arith)
without_lane_at n (a ∷ b ∷ c ∷ d ∷ e ∷ f ∷ g ∷ h ∷ i ∷ j ∷ k ∷ l ∷ m ∷ o ∷ q ∷ []) less long = absurd (omega arith)
without_lane_at n (a ∷ b ∷ c ∷ d ∷ e ∷ f ∷ g ∷ h ∷ i ∷ j ∷ k ∷ l ∷ m ∷ o ∷ q ∷ r ∷ []) less long =
    without_at n a b c d e f g h i j k l m o q r less
without_lane_at n (a ∷ b ∷ c ∷ d ∷ e ∷ f ∷ g ∷ h ∷ i ∷ j ∷ k ∷ l ∷ m ∷ o ∷ q ∷ r ∷ s ∷ lanes) less long =
    absurd (omega arith)

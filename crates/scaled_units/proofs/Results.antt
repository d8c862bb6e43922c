-- Several clauses on one result.
use Rattle.std.proofs.Common.{◌≡◌, Result, Ok, Err, IfOk, ap}

-- two facts of the value, if there is one, make a third
pub IfOk-two : {X E : Type 0} (r : Result X E) (P Q S : X → Type 0) → ((x : X) → P x → Q x → S x) → IfOk r P → IfOk r Q → IfOk r S
IfOk-two (Ok x) P Q S f p q = f x p q
IfOk-two (Err e) P Q S f p q = tt

-- three facts of the value, if there is one, make a fourth
pub IfOk-three : {X E : Type 0} (r : Result X E) (P Q R S : X → Type 0) →
    ((x : X) → P x → Q x → R x → S x) → IfOk r P → IfOk r Q → IfOk r R → IfOk r S
IfOk-three (Ok x) P Q R S f p q r = f x p q r
IfOk-three (Err e) P Q R S f p q r = tt

-- an error of one result as that of another
pub other_result : (X Y E : Type 0) (e f : E) → ◌≡◌ {A = Result X E} (Err e) (Err f) → ◌≡◌ {A = Result Y E} (Err e) (Err f)
other_result X Y E e f h = ap Err same
  where
    same : e ≡ f
    same = cc

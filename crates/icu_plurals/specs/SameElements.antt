-- Equality of plural elements follows the laws of the equality of their values. The laws stand here because the impls
-- of `PluralElements` cite them.
use Rattle.std.specs.Prelude.{◌≡◌, Bool, true, Option, Some, None, refl}
use Rattle.std.specs.Option.{option_eq}
use Rattle.std.specs.Cmp.{IsPartialEquivalence, IsEquivalence, and_per, on_per, and_equiv, on_equiv}
use Rattle.std.specs.Cmp.Lexicographic.{options_equiv}
use Rattle.std.specs.Ordering.{on}
use Rattle.icu_plurals.specs.Elements.{Elements, same_elements}

option_eq-symm : {T : Type 0} {eq : T → T → Bool} → IsPartialEquivalence eq → (x y : Option T) → option_eq eq x y ≡ option_eq eq y x
option_eq-symm laws None None = refl
option_eq-symm laws None (Some y) = refl
option_eq-symm laws (Some x) None = refl
option_eq-symm laws (Some x) (Some y) = laws.symm x y

option_eq-trans : {T : Type 0} {eq : T → T → Bool} → IsPartialEquivalence eq → (x y z : Option T) → option_eq eq x y ≡ true →
    option_eq eq y z ≡ true → option_eq eq x z ≡ true
option_eq-trans laws None None z h k = k
option_eq-trans laws None (Some y) z h k = cc
option_eq-trans laws (Some x) None z h k = cc
option_eq-trans laws (Some x) (Some y) None h k = k
option_eq-trans laws (Some x) (Some y) (Some z) h k = laws.trans x y z h k

option_eq-per : {T : Type 0} {eq : T → T → Bool} → IsPartialEquivalence eq → IsPartialEquivalence (option_eq eq)
option_eq-per laws = record { symm = option_eq-symm laws; trans = option_eq-trans laws }

slot-per : {T : Type 0} {eq : T → T → Bool} → IsPartialEquivalence eq → (slot : Elements T → Option T) →
    IsPartialEquivalence (on slot (option_eq eq))
slot-per laws slot = on_per slot (option_eq-per laws)

slot-equiv : {T : Type 0} {eq : T → T → Bool} → IsEquivalence eq → (slot : Elements T → Option T) → IsEquivalence (on slot (option_eq eq))
slot-equiv laws slot = on_equiv slot (options_equiv laws)

-- symmetric and transitive where the values' equality is
pub same_elements-per : {T : Type 0} {eq : T → T → Bool} → IsPartialEquivalence eq → IsPartialEquivalence (same_elements eq)
same_elements-per {T} laws =
    and_per (slot-per laws (λ e. e.explicit_zero)) (and_per (slot-per laws (λ e. e.explicit_one))
    (and_per (slot-per laws (λ e. e.zero)) (and_per (slot-per laws (λ e. e.one))
    (and_per (slot-per laws (λ e. e.two)) (and_per (slot-per laws (λ e. e.few))
    (and_per (slot-per laws (λ e. e.many)) (on_per (λ (e : Elements T). e.other) laws)))))))

-- an equivalence where the values' equality is one
pub same_elements-equiv : {T : Type 0} {eq : T → T → Bool} → IsEquivalence eq → IsEquivalence (same_elements eq)
same_elements-equiv {T} laws =
    and_equiv (slot-equiv laws (λ e. e.explicit_zero)) (and_equiv (slot-equiv laws (λ e. e.explicit_one))
    (and_equiv (slot-equiv laws (λ e. e.zero)) (and_equiv (slot-equiv laws (λ e. e.one))
    (and_equiv (slot-equiv laws (λ e. e.two)) (and_equiv (slot-equiv laws (λ e. e.few))
    (and_equiv (slot-equiv laws (λ e. e.many)) (on_equiv (λ (e : Elements T). e.other) laws)))))))

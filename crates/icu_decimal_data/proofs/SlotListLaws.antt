-- The slots of a record: what is read is written so, and what is written is read.
-- The inductions are `slots_taken` (read), over the count of slots, and `slots_again` (written), over the list, each on a slot's law in OneSlotLaws.
-- The pool stays whole: ranges of it are joined by `range_split`, and `drop sum pool` begins with the literals that are left. The last slot has
-- to be a pattern, which `slots_step` has by the count and `LastIsPresent` by the list. Elements have fields and not a list: `slots_by_place`
-- writes out the eight slots by their places, and `slots_are` and `elements_are` go between list and fields.
use Rattle.std.proofs.Common.{◌≡◌, ℕ, zero, suc, ◌+◌, ◌-◌, ◌*◌, ◌<◌, ◌≤◌, ◌^◌, Bool, true, false, cond, IsSome, List, []}
use Rattle.std.proofs.Common.{◌∷◌, ◌++◌, length, take, drop, slice_range, Option, Some, None, Ok, eqb, refl, sym, ap, ◌∙◌, arith, subst}
use Rattle.std.specs.Prelude.{⊤}
use Rattle.std.proofs.lemmas.Bool.{eqb-true}
use Rattle.std.proofs.lemmas.List.{length-append, append_assoc, length-take, length-drop, take_at, drop_at, drop-drop}
use Rattle.std.proofs.Math.Seq.{take-add}
use Rattle.icu_pattern.specs.Patterns.{PatternText}
use Rattle.icu_decimal_data.specs.PackedTable.{IsBackend}
use Rattle.icu_plurals.specs.Elements.{slots}
use Rattle.icu_decimal_data.specs.CompactTable.{PatternElements}
use Rattle.icu_decimal_data.specs.PackedTable.{ArePatterns, literal_of, slot_literals}
use Rattle.icu_decimal_data.specs.TableBytes.{slot_bytes, slots_bytes}
use Rattle.icu_decimal_data.specs.TableReading.{pattern_in, slot_in, slots_in, slot_at, elements_in, slot_step, slots_step}
use Rattle.icu_decimal_data.proofs.TableBasics.{IsBytes, IsBytes-drop, IsBytes-take, bind_ok, ok_is, range_split, nothing_at}
use Rattle.icu_decimal_data.proofs.OneSlotLaws.{Taken, slot_taken, slot_again}

-- the last of some slots, if any, is a pattern
abbrev pub LastIsPresent : List (Option PatternText) → Type 0
LastIsPresent [] = ⊤
LastIsPresent (s ∷ []) = IsSome s
LastIsPresent (s ∷ t ∷ ss) = LastIsPresent (t ∷ ss)

-- what n slots that pass show: their bytes are written of the patterns in them, and their literals follow one another
pub record TakenSlots (accepts : PatternText → Bool) (pool : List ℕ) (n sum : ℕ) (bytes : List ℕ) (next : ℕ) : Type 0 where
  pub written : slots_bytes sum (slots_in pool n bytes) ≡ take (7 * n) bytes
  pub next_is : next ≡ sum + length (slot_literals (slots_in pool n bytes))
  pub literals : slice_range pool sum next ≡ slot_literals (slots_in pool n bytes)
  pub inside : next ≤ length pool
  pub patterns : ArePatterns accepts (slots_in pool n bytes)
  pub last : LastIsPresent (slots_in pool n bytes)

patterns_more : (accepts : PatternText → Bool) (s : Option PatternText) (ss : List (Option PatternText)) → ArePatterns accepts (s ∷ []) →
    ArePatterns accepts ss → ArePatterns accepts (s ∷ ss)
patterns_more accepts None ss a b = b
patterns_more accepts (Some p) ss a b = (a.0, b)

patterns_first : (accepts : PatternText → Bool) (s : Option PatternText) (ss : List (Option PatternText)) → ArePatterns accepts (s ∷ ss) →
    ArePatterns accepts (s ∷ []) × ArePatterns accepts ss
patterns_first accepts None ss a = (tt, a)
patterns_first accepts (Some p) ss a = ((a.0, tt), a.1)

last_more : (pool : List ℕ) (s : Option PatternText) (m : ℕ) (bytes : List ℕ) → (eqb m 0 ≡ true → IsSome s) →
    LastIsPresent (slots_in pool m bytes) → LastIsPresent (s ∷ slots_in pool m bytes)
last_more pool s zero bytes h l = h refl
last_more pool s (suc m) bytes h l = l

module _ (accepts : PatternText → Bool) (pool : List ℕ) (pool_at : ℕ) where
  -- slots that are passed are written of their patterns
  pub slots_taken : (n at sum : ℕ) (bytes : List ℕ) (next : ℕ) → 7 * n ≤ length bytes → IsBytes bytes → sum ≤ length pool →
      slots_step accepts pool pool_at n at sum bytes ≡ Ok next → TakenSlots accepts pool n sum bytes next
  unfolding slots_step
  slots_taken zero at sum bytes next long fits le e =
      let same : sum ≡ next = ok_is sum next e in
      record { written = refl; next_is = omega arith; literals = rw (← same) (nothing_at pool sum); inside = omega arith; patterns = tt; last = tt }
  slots_taken (suc n) at sum bytes next long fits le e =
      let a = bind_ok (slot_step accepts pool pool_at (eqb n 0) at sum (take 7 bytes)) (λ mid. slots_step accepts pool pool_at n (at + 7) mid (drop 7 bytes))
      next e in
      let mid = a.0 in
      let s = slot_in pool (take 7 bytes) in
      let ss = slots_in pool n (drop 7 bytes) in
      let one : Taken accepts pool (eqb n 0) sum (take 7 bytes) mid =
      slot_taken accepts pool pool_at (eqb n 0) at sum (take 7 bytes) mid (omega (arith, length-take 7 bytes)) (IsBytes-take 7 bytes fits) le a.1 in
      let rest : TakenSlots accepts pool n mid (drop 7 bytes) next =
      slots_taken n (at + 7) mid (drop 7 bytes) next (omega (arith, length-drop 7 bytes)) (IsBytes-drop 7 bytes fits) one.inside a.2 in
      let count : 7 * suc n ≡ 7 + 7 * n = omega arith in
      let tail : slots_bytes (sum + length (literal_of s)) ss ≡ take (7 * n) (drop 7 bytes) =
      ap (λ (k : ℕ). slots_bytes k ss) (sym one.next_is) ∙ rest.written in
      let low : sum ≤ mid = omega (arith, one.next_is) in
      let high : mid ≤ next = omega (arith, rest.next_is) in
      record {
        written = ap (λ (r : List ℕ). r ++ slots_bytes (sum + length (literal_of s)) ss) one.bytes ∙ ap (λ (r : List ℕ). take 7 bytes ++ r) tail
            ∙ sym (take-add 7 (7 * n) bytes) ∙ ap (λ (k : ℕ). take k bytes) (sym count);
        next_is = omega (arith, one.next_is, rest.next_is, length-append (literal_of s) (slot_literals ss));
        literals = range_split pool sum mid next low high ∙ ap (λ (r : List ℕ). r ++ slice_range pool mid next) one.literal
            ∙ ap (λ (r : List ℕ). literal_of s ++ r) rest.literals;
        inside = rest.inside;
        patterns = patterns_more accepts s ss one.patterns rest.patterns;
        last = last_more pool s n (drop 7 bytes) one.present rest.last;
      }

  length-slot : (sum : ℕ) (s : Option PatternText) → length (slot_bytes sum s) ≡ 7
  length-slot sum None = refl
  length-slot sum (Some p) = refl

  present_first : (s : Option PatternText) (ss : List (Option PatternText)) → LastIsPresent (s ∷ ss) →
      (eqb (length ss) 0 ≡ true → IsSome s) × LastIsPresent ss
  present_first s [] l = (λ e. l, tt)
  present_first s (t ∷ ss) l = (λ e. absurd (let f = eqb-true (length (t ∷ ss)) 0 e in omega arith), l)

  -- what is written of slots is passed, and those slots stand in it
  pub slots_again : (ss : List (Option PatternText)) (at sum : ℕ) (rest after : List ℕ) → IsBackend accepts → ArePatterns accepts ss →
      LastIsPresent ss → length pool < 2 ^ 16 → sum ≤ length pool → drop sum pool ≡ slot_literals ss ++ after
      → (slots_step accepts pool pool_at (length ss) at sum (slots_bytes sum ss ++ rest) ≡ Ok (sum + length (slot_literals ss)))
      × (slots_in pool (length ss) (slots_bytes sum ss ++ rest) ≡ ss)
  unfolding slots_step
  slots_again [] at sum rest after backend patterns last small le here = (let e : sum + 0 ≡ sum = omega arith in rw e refl, refl)
  slots_again (s ∷ ss) at sum rest after backend patterns last small le here =
      let len = length (literal_of s) in
      let next = sum + len in
      let p = patterns_first accepts s ss patterns in
      let l = present_first s ss last in
      let all : slots_bytes sum (s ∷ ss) ++ rest ≡ slot_bytes sum s ++ (slots_bytes next ss ++ rest) =
      append_assoc (slot_bytes sum s) (slots_bytes next ss) rest in
      let front : take 7 (slots_bytes sum (s ∷ ss) ++ rest) ≡ slot_bytes sum s =
      ap (λ (r : List ℕ). take 7 r) all ∙ take_at (slot_bytes sum s) (slots_bytes next ss ++ rest) 7 (length-slot sum s) in
      let back : drop 7 (slots_bytes sum (s ∷ ss) ++ rest) ≡ slots_bytes next ss ++ rest =
      ap (λ (r : List ℕ). drop 7 r) all ∙ drop_at (slot_bytes sum s) (slots_bytes next ss ++ rest) 7 (length-slot sum s) in
      let pooled : drop sum pool ≡ literal_of s ++ (slot_literals ss ++ after) = here ∙ append_assoc (literal_of s) (slot_literals ss) after in
      let room : next ≤ length pool = omega (arith, length-drop sum pool, ap length pooled, length-append (literal_of s) (slot_literals ss ++ after)) in
      let width : next - sum ≡ len = omega arith in
      let range : slice_range pool sum next ≡ literal_of s =
      ap (λ (k : ℕ). take k (drop sum pool)) width ∙ ap (λ (r : List ℕ). take len r) pooled
      ∙ take_at (literal_of s) (slot_literals ss ++ after) len refl in
      let after_it : drop next pool ≡ slot_literals ss ++ after =
      sym (drop-drop len sum pool) ∙ ap (λ (r : List ℕ). drop len r) pooled ∙ drop_at (literal_of s) (slot_literals ss ++ after) len refl in
      let one = slot_again accepts pool pool_at (eqb (length ss) 0) at sum s backend l.0 p.0 small room range in
      let tail = slots_again ss (at + 7) next rest after backend p.1 l.1 small room after_it in
      let end : next + length (slot_literals ss) ≡ sum + length (slot_literals (s ∷ ss)) = omega (arith, length-append (literal_of s) (slot_literals ss)) in
      (rw (front, back, one.0) (tail.0 ∙ ap (λ (k : ℕ). Ok k) end), rw (front, back, one.1, tail.1) refl)

-- each slot has seven bytes
pub length-slots : (sum : ℕ) (ss : List (Option PatternText)) → length (slots_bytes sum ss) ≡ 7 * length ss
length-slots sum [] = refl
length-slots sum (s ∷ ss) = omega (
  arith,
  length-append (slot_bytes sum s) (slots_bytes (sum + length (literal_of s)) ss),
  length-slots (sum + length (literal_of s)) ss,
  seven sum s,
)
  where
    seven : (sum : ℕ) (s : Option PatternText) → length (slot_bytes sum s) ≡ 7
    seven sum None = refl
    seven sum (Some p) = refl

-- ---- elements

some_then : (b : Bool) (p : PatternText) → IsSome (cond b None (Some p)) → cond b None (Some p) ≡ Some p
some_then true p h = absurd cc
some_then false p h = refl

-- the eight slots by where they stand
pub slots_by_place : (pool bytes : List ℕ) → slots_in pool 8 bytes
    ≡ slot_in pool (slot_at bytes 0) ∷ slot_in pool (slot_at bytes 1) ∷ slot_in pool (slot_at bytes 2) ∷ slot_in pool (slot_at bytes 3) ∷ slot_in pool
    (slot_at bytes 4) ∷ slot_in pool (slot_at bytes 5) ∷ slot_in pool (slot_at bytes 6) ∷ slot_in pool (slot_at bytes 7) ∷ []
slots_by_place pool bytes = rw (
  drop-drop 7 7 bytes,
  drop-drop 7 14 bytes,
  drop-drop 7 21 bytes,
  drop-drop 7 28 bytes,
  drop-drop 7 35 bytes,
  drop-drop 7 42 bytes,
) refl

-- the slots of elements that are read, where the last is present
pub slots_are : (pool bytes : List ℕ) → LastIsPresent (slots_in pool 8 bytes) → slots (elements_in pool bytes) ≡ slots_in pool 8 bytes
slots_are pool bytes last =
    let by_place = slots_by_place pool bytes in
    let present : IsSome (slot_in pool (slot_at bytes 7)) = subst LastIsPresent by_place last in
    let other : slot_in pool (slot_at bytes 7) ≡ Some (pattern_in pool (slot_at bytes 7)) = some_then _ _ present in
    ap (λ (o : Option PatternText). slot_in pool (slot_at bytes 0) ∷ slot_in pool (slot_at bytes 1) ∷ slot_in pool (slot_at bytes 2) ∷ slot_in pool
    (slot_at bytes 3) ∷ slot_in pool (slot_at bytes 4) ∷ slot_in pool (slot_at bytes 5) ∷ slot_in pool (slot_at bytes 6) ∷ o ∷ []) (sym other)
    ∙ sym by_place

same_elements : (e f : PatternElements) → slots e ≡ slots f → e ≡ f
same_elements e f h =
    let e0 : e.explicit_zero ≡ f.explicit_zero = cc in
    let e1 : e.explicit_one ≡ f.explicit_one = cc in
    let e2 : e.zero ≡ f.zero = cc in
    let e3 : e.one ≡ f.one = cc in
    let e4 : e.two ≡ f.two = cc in
    let e5 : e.few ≡ f.few = cc in
    let e6 : e.many ≡ f.many = cc in
    let e7 : e.other ≡ f.other = cc in
    λ i. record { explicit_zero = e0 i; explicit_one = e1 i; zero = e2 i; one = e3 i; two = e4 i; few = e5 i; many = e6 i; other = e7 i }

-- elements are read from slots that are theirs
pub elements_are : (pool bytes : List ℕ) (e : PatternElements) → slots_in pool 8 bytes ≡ slots e → elements_in pool bytes ≡ e
elements_are pool bytes e h =
    let last : LastIsPresent (slots_in pool 8 bytes) = subst LastIsPresent (sym h) refl in
    same_elements (elements_in pool bytes) e (slots_are pool bytes last ∙ h)

-- Where texts are cut.
use Rattle.std.proofs.Common.{◌≡◌, ◌≢◌, ℕ, suc, ◌+◌, ◌<◌, List, [], ◌∷◌, ◌++◌, length, get_or, drop, eqb, true, false}
use Rattle.std.proofs.Common.{refl, sym, arith}
use Rattle.std.specs.Prelude.{Option, Some, None, option_map, MatchOption}
use Rattle.std.specs.Borrow.{Bor}
use Rattle.std.specs.Str.Pattern.{FindsCharPrefix}
use Rattle.std.proofs.lemmas.Str.Pattern.{IsSplitOnceResult, split_parts, strip_prefix_char}
use Rattle.locnum_options.specs.Counts.{behind_dot}
use Rattle.locnum_options.specs.Texts.{cut_at, parts_of}

-- none of the bytes is this one
abbrev pub Lacks : ℕ → List ℕ → Type 0
Lacks c bs = (i : ℕ) → i < length bs → get_or bs i 0 ≢ c

-- two bytes that differ
pub differs : (b c : ℕ) → b ≢ c → eqb b c ≡ false
differs b c h = grind arith

-- a byte is itself
same : (c : ℕ) → eqb c c ≡ true
same c = grind arith

-- behind bytes that lack it
pub cut_at-here : (c : ℕ) (before behind : List ℕ) → Lacks c before → cut_at c (before ++ c ∷ behind) ≡ Some (before, behind)
unfolding cut_at
cut_at-here c [] behind h = rw (same c) refl
cut_at-here c (b ∷ bs) behind h = rw (differs b c (h 0 (omega arith)), cut_at-here c bs behind (λ i l. h (suc i) (omega arith))) refl

-- nowhere
pub cut_at-nowhere : (c : ℕ) (bs : List ℕ) → Lacks c bs → cut_at c bs ≡ None
unfolding cut_at
cut_at-nowhere c [] h = refl
cut_at-nowhere c (b ∷ bs) h = rw (differs b c (h 0 (omega arith)), cut_at-nowhere c bs (λ i l. h (suc i) (omega arith))) refl

-- the parts of a text, of which the first ends here
pub parts_of-here : (c : ℕ) (before behind : List ℕ) → Lacks c before → parts_of c (before ++ c ∷ behind) ≡ before ∷ parts_of c behind
unfolding parts_of
parts_of-here c [] behind h = rw (same c) refl
parts_of-here c (b ∷ bs) behind h = rw (differs b c (h 0 (omega arith)), parts_of-here c bs behind (λ i l. h (suc i) (omega arith))) refl

-- a text that is one part
pub parts_of-nowhere : (c : ℕ) (bs : List ℕ) → Lacks c bs → parts_of c bs ≡ bs ∷ []
unfolding parts_of
parts_of-nowhere c [] h = refl
parts_of-nowhere c (b ∷ bs) h = rw (differs b c (h 0 (omega arith)), parts_of-nowhere c bs (λ i l. h (suc i) (omega arith))) refl

-- what `split_once` gives is the cut
pub cut_at-split : (c : ℕ) (bs : List ℕ) (r : Option (Bor (List ℕ) × Bor (List ℕ))) → IsSplitOnceResult c bs r → c < 128 →
    option_map (λ p. (p.0.now, p.1.now)) r ≡ cut_at c bs
cut_at-split c bs None h low = sym (cut_at-nowhere c bs (split_parts c bs None h low))
cut_at-split c bs (Some x) h low =
    let parts = split_parts c bs (Some x) h low in
    sym (rw parts.0 (cut_at-here c x.0.now x.1.now parts.1))

-- what `strip_prefix` gives stands behind a dot
pub behind_dot-stripped : (bs : List ℕ) (r : Option (Bor (List ℕ))) →
    MatchOption r (FindsCharPrefix 46 bs None) (λ x. (n : ℕ) × FindsCharPrefix 46 bs (Some n)
    × (x.now ≡ drop n bs) × (length x.now + n ≡ length bs)) →
    option_map (λ t. t.now) r ≡ behind_dot bs
unfolding behind_dot
behind_dot-stripped [] None h = refl
behind_dot-stripped (b ∷ bs) None h =
    let other = strip_prefix_char 46 (b ∷ bs) None h (omega arith) in
    rw (differs b 46 (λ e. other bs (rw e refl))) refl
behind_dot-stripped bs (Some x) h =
    let here = strip_prefix_char 46 bs (Some x) h (omega arith) in
    rw here refl

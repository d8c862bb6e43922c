-- No place decides what a token sets.
use Rattle.std.proofs.Common.{◌≡◌, ℕ, ◌+◌, List, length, drop, take, Bool, true, false, refl, sym, ap, inl, inr, ◌⊎◌}
use Rattle.std.specs.Prelude.{Result, Ok, Err, ◌==◌, if◌then◌else◌}
use Rattle.number_skeleton.specs.declared.fault.FaultKind.{FaultKind}
use Rattle.number_skeleton.specs.declared.fault.FaultKind.TheVariants.{BadOption}
use Rattle.number_skeleton.specs.declared.fault.SkeletonFault.{SkeletonFault}
use Rattle.skeleton_settings.specs.declared.settings.Precision.{Precision}
use Rattle.number_skeleton.specs.declared.stems.Stem.TheVariants as stem
use Rattle.number_skeleton.specs.Bytes.{piece_len}
use Rattle.number_skeleton.specs.Data.{DraftData}
use Rattle.number_skeleton.specs.Fragments.{only_digits}
use Rattle.number_skeleton.specs.Options.{PieceData, ended, option_at}
use Rattle.number_skeleton.specs.Results.{◌>>=◌, fault, located}
use Rattle.number_skeleton.specs.Values.{is_w, digits_at}

-- a step that was taken
pub taken : {A B E : Type 0} (r : Result A E) (f : A → Result B E) (y : B) → (r >>= f) ≡ Ok y → (x : A) × ((r ≡ Ok x) × (f x ≡ Ok y))
taken (Ok x) f y h = (x, (refl, h))
taken (Err e) f y h = absurd cc

-- tests that were passed
pub passed_then : {A E : Type 0} (b : Bool) (x y : A) (e : E) → (if b then Ok x else Err e) ≡ Ok y → (b ≡ true) × (y ≡ x)
passed_then true x y e h = (refl, cc)
passed_then false x y e h = absurd cc

pub allowed : {A E : Type 0} (b : Bool) (r : Result A E) (y : A) (e : E) → (if b then Err e else r) ≡ Ok y → (b ≡ false) × (r ≡ Ok y)
allowed true r y e h = absurd cc
allowed false r y e h = (refl, h)

pub one_value : {A E : Type 0} (x y : A) (r : Result A E) → r ≡ Ok x → r ≡ Ok y → y ≡ x
one_value x y r h g = cc

-- what was placed
pub located_ok : {A : Type 0} (at : ℕ) (r : Result A FaultKind) (x : A) → located at r ≡ Ok x → r ≡ Ok x
located_ok at (Ok y) x h = cc
located_ok at (Err k) x h = absurd cc

-- the end of options
pub ended_anywhere : (at bt : ℕ) (options : List ℕ) (d e : DraftData) → ended at options d ≡ Ok e → (ended bt options d ≡ Ok e) × (e ≡ d)
unfolding ended
ended_anywhere at bt options d e h = let c = passed_then (length options == 0) d e _ h in (rw (c.0, c.1) refl, c.1)

-- the same piece at another place
pub record Elsewhere (bt : ℕ) (options : List ℕ) (p : PieceData) : Type 0 where
  pub piece : PieceData
  pub is : option_at bt options ≡ Ok piece
  pub word : piece.word ≡ p.word
  pub rest : piece.rest ≡ p.rest

pub option_anywhere : (at bt : ℕ) (options : List ℕ) (p : PieceData) → option_at at options ≡ Ok p → Elsewhere bt options p
unfolding option_at
option_anywhere at bt options p h =
    let some = allowed (length options == 0) _ p _ h in
    let more = allowed (piece_len (drop 1 options) == 0) _ p _ some.1 in
    record {
      piece = record {
        at = bt + 1;
        word = take (piece_len (drop 1 options)) (drop 1 options);
        next = bt + 1 + piece_len (drop 1 options);
        rest = drop (piece_len (drop 1 options)) (drop 1 options);
      };
      is = rw (some.0, more.0) refl;
      word = ap (λ (q : PieceData). q.word) (sym (one_value _ p _ refl more.1));
      rest = ap (λ (q : PieceData). q.rest) (sym (one_value _ p _ refl more.1));
    }

-- an option that a stem needs, and the end
pub record OneOption {A : Type 0} (f : List ℕ → Result A FaultKind) (g : A → DraftData) (bt : ℕ) (options : List ℕ) (e : DraftData) : Type 0 where
  pub is : (option_at bt options >>= λ piece. located piece.at (f piece.word) >>= λ x. ended piece.next piece.rest (g x)) ≡ Ok e
  pub value : A
  pub word : List ℕ
  pub reads : f word ≡ Ok value
  pub sets : e ≡ g value

pub one_anywhere : {A : Type 0} (f : List ℕ → Result A FaultKind) (g : A → DraftData) (at bt : ℕ) (options : List ℕ) (e : DraftData) →
    (option_at at options >>= λ piece. located piece.at (f piece.word) >>= λ x. ended piece.next piece.rest (g x)) ≡ Ok e → OneOption f g bt options e
one_anywhere f g at bt options e h =
    let one = taken (option_at at options) _ e h in
    let two = taken (located one.0.at (f one.0.word)) _ e one.1.1 in
    let there = option_anywhere at bt options one.0 one.1.0 in
    let reads = located_ok one.0.at (f one.0.word) two.0 two.1.0 in
    let end = ended_anywhere one.0.next there.piece.next one.0.rest (g two.0) e two.1.1 in
    record {
      is = rw (there.is, there.word, there.rest, reads) end.0;
      value = two.0;
      word = one.0.word;
      reads = reads;
      sets = end.1;
    }

-- a precision, and `/w` or nothing
pub record SomeDigits (r : Result DraftData SkeletonFault) (e : DraftData) (p : Precision) : Type 0 where
  pub is : r ≡ Ok e
  pub hides : Bool
  pub sets : e ≡ only_digits p hides

-- a test of `w`
w_or : {A E : Type 0} (b : Bool) (r : Result A E) (y : A) (e : E) → (if b then r else Err e) ≡ Ok y → (b ≡ true) × (r ≡ Ok y)
w_or true r y e h = (refl, h)
w_or false r y e h = absurd cc

digits_behind : (at bt : ℕ) (options : List ℕ) (p : Precision) (e : DraftData) →
    (option_at at options >>= λ piece. if is_w piece then ended piece.next piece.rest (only_digits p true) else fault BadOption piece.at) ≡ Ok e →
    ((option_at bt options >>= λ piece. if is_w piece then ended piece.next piece.rest (only_digits p true) else fault BadOption piece.at) ≡ Ok e) × (e
    ≡ only_digits p true)
digits_behind at bt options p e h =
    let one = taken (option_at at options) _ e h in
    let two = w_or (is_w one.0) _ e _ one.1.1 in
    let there = option_anywhere at bt options one.0 one.1.0 in
    let end = ended_anywhere one.0.next there.piece.next one.0.rest (only_digits p true) e two.1 in
    (rw (there.is, there.word, two.0, there.rest) end.0, end.1)

either_end : {A E : Type 0} (b : Bool) (x y : A) (r : Result A E) → (if b then Ok x else r) ≡ Ok y → ((b ≡ true) × (y ≡ x)) ⊎ ((b ≡ false) ×
    (r ≡ Ok y))
either_end true x y r h = inl (refl, cc)
either_end false x y r h = inr (refl, h)

digits_either : (at bt : ℕ) (options : List ℕ) (p : Precision) (e : DraftData) →
    (((length options == 0) ≡ true) × (e ≡ only_digits p false)) ⊎ (((length options == 0) ≡ false) × ((option_at at options >>= λ piece. if is_w
    piece then ended piece.next piece.rest (only_digits p true) else fault BadOption piece.at) ≡ Ok e)) →
    SomeDigits (digits_at bt options p) e p
unfolding digits_at
digits_either at bt options p e (inl h) = record { is = rw (h.0, h.1) refl; hides = false; sets = h.1 }
digits_either at bt options p e (inr h) = let d = digits_behind at bt options p e h.1 in record { is = rw h.0 d.0; hides = true; sets = d.1 }

pub digits_anywhere : (at bt : ℕ) (options : List ℕ) (p : Precision) (e : DraftData) → digits_at at options p ≡ Ok e → SomeDigits (digits_at bt
    options p) e p
unfolding digits_at
digits_anywhere at bt options p e h = digits_either at bt options p e (either_end (length options == 0) (only_digits p false) e _ h)

-- What a token sets doesn't depend on where it stands.
use Rattle.std.proofs.Common.{◌≡◌, ℕ, ◌+◌, List, length, drop, take, Bool, true, false, refl, sym, ap, subst, ◌∙◌, inl, inr, ◌⊎◌}
use Rattle.std.specs.Option.{is_some}
use Rattle.std.specs.Prelude.{Option, Some, None, Result, Ok, Err, codes, ◌==◌, ◌||◌, nat_lt, get_or, if◌then◌else◌}
use Rattle.number_skeleton.specs.declared.fault.FaultKind.{FaultKind}
use Rattle.number_skeleton.specs.declared.fault.SkeletonFault.{SkeletonFault}
use Rattle.skeleton_settings.specs.declared.settings.Precision.{Precision}
use Rattle.number_skeleton.specs.declared.stems.Counts.{Counts}
use Rattle.number_skeleton.specs.declared.stems.Stem.{Stem}
use Rattle.number_skeleton.specs.declared.stems.Stem.TheVariants as stem
use Rattle.number_skeleton.specs.declared.values.Limits.{Limits}
use Rattle.skeleton_settings.specs.declared.settings.Precision.TheVariants as precision
use Rattle.number_skeleton.specs.Bytes.{piece_len}
use Rattle.skeleton_settings.specs.Settings.{nothing, percent, permille, currency}
use Rattle.number_skeleton.specs.Data.{DraftData}
use Rattle.number_skeleton.specs.Drafts.{merged, is_set}
use Rattle.number_skeleton.specs.Fragments.{only_notation, only_unit, only_width, only_digits, only_mode, only_integer_digits, only_scale, only_grouping}
use Rattle.number_skeleton.specs.Fragments.{only_system, only_signs, only_decimal, percent_times_hundred}
use Rattle.number_skeleton.specs.Numbers.{scale_of, increment_of}
use Rattle.number_skeleton.specs.Options.{PieceData, ended, option_at, letters_of, unit_of, system_of, integer_digits_of}
use Rattle.number_skeleton.specs.Results.{◌>>=◌, located}
use Rattle.number_skeleton.specs.Stems.{stem_of}
use Rattle.number_skeleton.specs.Tokens.{setting_of, other_setting_of, fresh, stem_and_options, with_token}
use Rattle.number_skeleton.specs.Values.{small, small_most, limits_of, fraction, significant, unlimited, both, is_w, digits_at, fraction_at, beside_of}
use Rattle.number_skeleton.specs.Values.{currency_at, unit_at, system_at, integer_at, scale_at, increment_at, value_of}
use Rattle.number_skeleton.proofs.Commuting.{clashes, or_left, or_right}
use Rattle.number_skeleton.proofs.Orders.{taken, allowed, one_value, located_ok, ended_anywhere, Elsewhere, option_anywhere, one_anywhere, SomeDigits}
use Rattle.number_skeleton.proofs.Orders.{digits_anywhere}

-- counts of a stem
small_anywhere : (s t count n : ℕ) → small s count ≡ Ok n → small t count ≡ Ok n
small_anywhere s t count n h = let c = allowed (nat_lt 999 count) (Ok count) n _ h in rw c.0 c.1

most_anywhere : (s t : ℕ) (most n : Option ℕ) → small_most s most ≡ Ok n → small_most t most ≡ Ok n
most_anywhere s t None n h = h
most_anywhere s t (Some most) n h =
    let one = taken (small s most) _ n h in
    rw (small_anywhere s t most one.0 one.1.0) one.1.1

pub limits_anywhere : (s t : ℕ) (counts : Counts) (limits : Limits) → limits_of s counts ≡ Ok limits → limits_of t counts ≡ Ok limits
unfolding limits_of
limits_anywhere s t counts limits h =
    let one = taken (small s counts.least) _ limits h in
    let two = taken (small_most s counts.most) _ limits one.1.1 in
    rw (small_anywhere s t counts.least one.0 one.1.0, most_anywhere s t counts.most two.0 two.1.0) two.1.1

-- a precision of a kind that isn't known here
pub record AnyDigits (r : Result DraftData SkeletonFault) (e : DraftData) : Type 0 where
  pub is : r ≡ Ok e
  pub precision : Precision
  pub hides : Bool
  pub sets : e ≡ only_digits precision hides

pub any_digits : (r : Result DraftData SkeletonFault) (e : DraftData) (p : Precision) → SomeDigits r e p → AnyDigits r e
any_digits r e p d = record { is = d.is; precision = p; hides = d.hides; sets = d.sets }

-- fraction digits
either_here : {A E : Type 0} (b : Bool) (x y : A) (r : Result A E) → (if b then Ok x else r) ≡ Ok y → ((b ≡ true) × (y ≡ x)) ⊎ ((b ≡ false) ×
    (r ≡ Ok y))
either_here true x y r h = inl (refl, cc)
either_here false x y r h = inr (refl, h)

either_of : {A E : Type 0} (b : Bool) (q r : Result A E) (y : A) → (if b then q else r) ≡ Ok y → ((b ≡ true) × (q ≡ Ok y)) ⊎ ((b ≡ false) × (r
    ≡ Ok y))
either_of true q r y h = inl (refl, h)
either_of false q r y h = inr (refl, h)

module _ (at bt : ℕ) (options : List ℕ) (limits : Limits) (e : DraftData) (long : (length options == 0) ≡ false) (piece : PieceData)
    (there : Elsewhere bt options piece) where
  fraction_choice : ((is_w piece ≡ true) × (ended piece.next piece.rest (only_digits (fraction limits) true) ≡ Ok e)) ⊎
      ((is_w piece ≡ false) × ((located piece.at (beside_of piece.word) >>= λ beside. digits_at piece.next piece.rest (both limits beside)) ≡ Ok e)) →
      AnyDigits (fraction_at bt options limits) e
  unfolding fraction_at
  fraction_choice (inl h) =
      let end = ended_anywhere piece.next there.piece.next piece.rest (only_digits (fraction limits) true) e h.1 in
      record { is = rw (long, there.is, there.word, h.0, there.rest) end.0; precision = fraction limits; hides = true; sets = end.1 }
  fraction_choice (inr h) =
      let one = taken (located piece.at (beside_of piece.word)) _ e h.1 in
      let is = located_ok piece.at (beside_of piece.word) one.0 one.1.0 in
      let digits = digits_anywhere piece.next there.piece.next piece.rest (both limits one.0) e one.1.1 in
      record { is = rw (long, there.is, there.word, h.0, is, there.rest) digits.is; precision = both limits one.0; hides = digits.hides; sets = digits.sets }

fraction_either : (at bt : ℕ) (options : List ℕ) (limits : Limits) (e : DraftData) →
    (((length options == 0) ≡ true) × (e ≡ only_digits (fraction limits) false)) ⊎
    (((length options == 0) ≡ false) × ((option_at at options >>= λ piece.
    if is_w piece then ended piece.next piece.rest (only_digits (fraction limits) true)
    else located piece.at (beside_of piece.word) >>= λ beside. digits_at piece.next piece.rest (both limits beside)) ≡ Ok e)) →
    AnyDigits (fraction_at bt options limits) e
unfolding fraction_at
fraction_either at bt options limits e (inl h) = record { is = rw (h.0, h.1) refl; precision = fraction limits; hides = false; sets = h.1 }
fraction_either at bt options limits e (inr h) =
    let one = taken (option_at at options) _ e h.1 in
    fraction_choice at bt options limits e h.0 one.0 (option_anywhere at bt options one.0 one.1.0)
    (either_of (is_w one.0) (ended one.0.next one.0.rest (only_digits (fraction limits) true))
    (located one.0.at (beside_of one.0.word) >>= λ beside. digits_at one.0.next one.0.rest (both limits beside)) e one.1.1)

pub fraction_anywhere : (at bt : ℕ) (options : List ℕ) (limits : Limits) (e : DraftData) → fraction_at at options limits ≡ Ok e → AnyDigits
    (fraction_at bt options limits) e
unfolding fraction_at
fraction_anywhere at bt options limits e h =
    fraction_either at bt options limits e (either_here (length options == 0) (only_digits (fraction limits) false) e _ h)

-- an increment
pub increment_anywhere : (at bt : ℕ) (options : List ℕ) (e : DraftData) → increment_at at options ≡ Ok e → AnyDigits (increment_at bt options) e
unfolding increment_at
increment_anywhere at bt options e h =
    let one = taken (option_at at options) _ e h in
    let two = taken (located one.0.at (increment_of one.0.word)) _ e one.1.1 in
    let there = option_anywhere at bt options one.0 one.1.0 in
    let is = located_ok one.0.at (increment_of one.0.word) two.0 two.1.0 in
    let digits = digits_anywhere one.0.next there.piece.next one.0.rest two.0 e two.1.1 in
    record { is = rw (there.is, there.word, is, there.rest) digits.is; precision = two.0; hides = digits.hides; sets = digits.sets }

-- a fragment has the settings of its stem, and no other
abbrev pub Marks : DraftData → Stem → Type 0
Marks e s = (d : DraftData) → clashes d e ≡ (is_set d (other_setting_of s) || is_set d (setting_of s))

alone : (b : Bool) → (b || false) ≡ (b || b)
alone true = refl
alone false = refl

last : (b : Bool) → b ≡ (b || b)
last true = refl
last false = refl

beside : (a b : Bool) → (a || (b || false)) ≡ (a || b)
beside a true = refl
beside a false = refl

-- what a stem and its options set, anywhere
pub record Value (r : Result DraftData SkeletonFault) (e : DraftData) (s : Stem) : Type 0 where
  pub is : r ≡ Ok e
  pub marks : Marks e s

plain_value : (at bt : ℕ) (options : List ℕ) (d e : DraftData) (s : Stem) → ended at options d ≡ Ok e → Marks d s → Value (ended bt options d) e s
plain_value at bt options d e s h m =
    let end = ended_anywhere at bt options d e h in
    record { is = end.0; marks = subst (λ (x : DraftData). Marks x s) (sym end.1) m }

any_value : (r : Result DraftData SkeletonFault) (e : DraftData) (s : Stem) → AnyDigits r e → ((p : Precision) (h : Bool) → Marks (only_digits p h) s)
    → Value r e s
any_value r e s d m = record { is = d.is; marks = subst (λ (x : DraftData). Marks x s) (sym d.sets) (m d.precision d.hides) }

digits_value : (at bt : ℕ) (options : List ℕ) (p : Precision) (e : DraftData) (s : Stem) → digits_at at options p ≡ Ok e → ((p : Precision) (h :
    Bool) → Marks (only_digits p h) s) →
    Value (digits_at bt options p) e s
digits_value at bt options p e s h m = any_value (digits_at bt options p) e s (any_digits (digits_at bt options p) e p (digits_anywhere at bt options p e h)) m

pub value_anywhere : (start at start_there bt : ℕ) (options : List ℕ) (s : Stem) (e : DraftData) → value_of start at options s ≡ Ok e → Value
    (value_of start_there bt options s) e s
unfolding value_of currency_at unit_at system_at integer_at scale_at
value_anywhere s at t bt options (stem.Notation n) e h = plain_value at bt options (only_notation n) e (stem.Notation n) h (λ d. alone (is_some d.notation))
value_anywhere s at t bt options stem.BaseUnit e h = plain_value at bt options (only_unit nothing) e stem.BaseUnit h (λ d. alone (is_some d.unit))
value_anywhere s at t bt options stem.Percent e h = plain_value at bt options (only_unit percent) e stem.Percent h (λ d. alone (is_some d.unit))
value_anywhere s at t bt options stem.Permille e h = plain_value at bt options (only_unit permille) e stem.Permille h (λ d. alone (is_some d.unit))
value_anywhere s at t bt options (stem.Width w) e h = plain_value at bt options (only_width w) e (stem.Width w) h (λ d. alone (is_some d.width))
value_anywhere s at t bt options (stem.Mode m) e h = plain_value at bt options (only_mode m) e (stem.Mode m) h (λ d. alone (is_some d.mode))
value_anywhere s at t bt options (stem.Grouping g) e h = plain_value at bt options (only_grouping g) e (stem.Grouping g) h (λ d. alone (is_some d.grouping))
value_anywhere s at t bt options stem.Latin e h = plain_value at bt options (only_system (codes "latn")) e stem.Latin h (λ d. alone (is_some d.system))
value_anywhere s at t bt options (stem.Sign x) e h = plain_value at bt options (only_signs x) e (stem.Sign x) h (λ d. alone (is_some d.signs))
value_anywhere s at t bt options stem.DecimalAuto e h = plain_value at bt options only_decimal e stem.DecimalAuto h (λ d. last (is_some d.decimal))
value_anywhere s at t bt options stem.PercentTimesHundred e h = plain_value at bt options percent_times_hundred e stem.PercentTimesHundred h (λ d. beside
    (is_some d.unit) (is_some d.scale))
value_anywhere s at t bt options stem.Currency e h =
    let o = one_anywhere letters_of (λ letters. only_unit (currency letters)) at bt options e h in
    record { is = o.is; marks = subst (λ (x : DraftData). Marks x stem.Currency) (sym o.sets) (λ d. alone (is_some d.unit)) }
value_anywhere s at t bt options stem.UnitName e h =
    let o = one_anywhere unit_of only_unit at bt options e h in
    record { is = o.is; marks = subst (λ (x : DraftData). Marks x stem.UnitName) (sym o.sets) (λ d. alone (is_some d.unit)) }
value_anywhere s at t bt options stem.System e h =
    let o = one_anywhere system_of only_system at bt options e h in
    record { is = o.is; marks = subst (λ (x : DraftData). Marks x stem.System) (sym o.sets) (λ d. alone (is_some d.system)) }
value_anywhere s at t bt options stem.IntegerWidth e h =
    let o = one_anywhere integer_digits_of only_integer_digits at bt options e h in
    record { is = o.is; marks = subst (λ (x : DraftData). Marks x stem.IntegerWidth) (sym o.sets) (λ d. alone (is_some d.integer_digits)) }
value_anywhere s at t bt options stem.Scale e h =
    let o = one_anywhere scale_of only_scale at bt options e h in
    record { is = o.is; marks = subst (λ (x : DraftData). Marks x stem.Scale) (sym o.sets) (λ d. alone (is_some d.scale)) }
value_anywhere s at t bt options stem.Unlimited e h = digits_value at bt options unlimited e stem.Unlimited h (λ p k d. alone (is_some d.digits))
value_anywhere s at t bt options (stem.CurrencyPrecision cash) e h =
    digits_value at bt options (precision.Currency cash) e (stem.CurrencyPrecision cash) h (λ p k d. alone (is_some d.digits))
value_anywhere s at t bt options stem.Increment e h = any_value (increment_at bt options) e stem.Increment (increment_anywhere at bt options e h) (λ p k d.
    alone (is_some d.digits))
value_anywhere s at t bt options (stem.Fraction counts) e h =
    let one = taken (limits_of s counts) (fraction_at at options) e h in
    let there = any_value (fraction_at bt options one.0) e (stem.Fraction counts) (fraction_anywhere at bt options one.0 e one.1.1) (λ p k d. alone (is_some
    d.digits)) in
    record { is = rw (limits_anywhere s t counts one.0 one.1.0) there.is; marks = there.marks }
value_anywhere s at t bt options (stem.Significant counts) e h =
    let one = taken (limits_of s counts) _ e h in
    let there = digits_value at bt options (significant one.0) e (stem.Significant counts) one.1.1 (λ p k d. alone (is_some d.digits)) in
    record { is = rw (limits_anywhere s t counts one.0 one.1.0) there.is; marks = there.marks }
value_anywhere s at t bt options (stem.IntegerZeros n) e h =
    let one = taken (small s n) _ e h in
    let there = plain_value at bt options (only_integer_digits one.0) e (stem.IntegerZeros n) one.1.1 (λ d. alone (is_some d.integer_digits)) in
    record { is = rw (small_anywhere s t n one.0 one.1.0) there.is; marks = there.marks }

-- a stem is fresh where its settings aren't set
pub record Unset (s t : Stem) (d : DraftData) : Type 0 where
  pub same : t ≡ s
  pub first : is_set d (setting_of s) ≡ false
  pub other : is_set d (other_setting_of s) ≡ false

pub fresh_unset : (at : ℕ) (s t : Stem) (d : DraftData) → fresh at s d ≡ Ok t → Unset s t d
unfolding fresh
fresh_unset at s t d h =
    let one = allowed (is_set d (setting_of s)) _ t _ h in
    let two = allowed (is_set d (other_setting_of s)) (Ok s) t _ one.1 in
    record { same = one_value s t (Ok s) refl two.1; first = one.0; other = two.0 }

unset_fresh : (at : ℕ) (s : Stem) (d : DraftData) → (is_set d (other_setting_of s) || is_set d (setting_of s)) ≡ false → fresh at s d ≡ Ok s
unfolding fresh
unset_fresh at s d h =
    rw (or_right (is_set d (other_setting_of s)) (is_set d (setting_of s)) h, or_left (is_set d (other_setting_of s)) (is_set d (setting_of s)) h) refl

located_anywhere : {A : Type 0} (at bt : ℕ) (r : Result A FaultKind) (x : A) → located at r ≡ Ok x → located bt r ≡ Ok x
located_anywhere at bt (Ok y) x h = h
located_anywhere at bt (Err k) x h = absurd cc

-- what a token says, wherever it stands and whatever else is set
pub record Says (token : List ℕ) (e : DraftData) : Type 0 where
  pub says : (at : ℕ) (d : DraftData) → clashes d e ≡ false → with_token at token d ≡ Ok (merged d e)

-- a token that was read
pub record Said (token : List ℕ) (d next : DraftData) : Type 0 where
  pub fragment : DraftData
  pub says : Says token fragment
  pub free : clashes d fragment ≡ false
  pub sets : next ≡ merged d fragment

module _ (token : List ℕ) (no_slash : (get_or token 0 0 == 47) ≡ false) (at : ℕ) (s : Stem) (e : DraftData)
    (stem_is : located at (stem_of (take (piece_len token) token)) ≡ Ok s) (value_is : value_of at (at + piece_len token) (drop (piece_len token) token) s
    ≡ Ok e) where
  there : (bt : ℕ) → Value (value_of bt (bt + piece_len token) (drop (piece_len token) token) s) e s
  there bt = value_anywhere at (at + piece_len token) bt (bt + piece_len token) (drop (piece_len token) token) s e value_is

  says_so : Says token e
  unfolding with_token
  says_so = record {
    says = λ bt d free.
        rw (
          no_slash,
          located_anywhere at bt (stem_of (take (piece_len token) token)) s stem_is,
          unset_fresh bt s d (sym ((there bt).marks d) ∙ free),
          (there
              bt).is,
        ) refl;
  }

  said_so : (d next : DraftData) → Unset s s d → next ≡ merged d e → Said token d next
  said_so d next unset sets = record {
    fragment = e;
    says = says_so;
    free = (there at).marks d ∙ rw (unset.first, unset.other) refl;
    sets = sets;
  }

pub token_said : (at : ℕ) (token : List ℕ) (d next : DraftData) → with_token at token d ≡ Ok next → Said token d next
unfolding with_token
token_said at token d next h =
    let zero = allowed (get_or token 0 0 == 47) (stem_and_options at token d) next _ h in
    let one = taken (located at (stem_of (take (piece_len token) token))) _ next zero.1 in
    let two = taken (fresh at one.0 d) _ next one.1.1 in
    let three = taken (value_of at (at + piece_len token) (drop (piece_len token) token) two.0) _ next two.1.1 in
    let unset = fresh_unset at one.0 two.0 d two.1.0 in
    said_so token zero.0 at two.0 three.0 (one.1.0 ∙ ap Ok (sym unset.same)) three.1.0 d next
    (subst (λ (x : Stem). Unset x x d) (sym unset.same) (record { same = refl; first = unset.first; other = unset.other }))
    (one_value (merged d three.0) next (Ok (merged d three.0)) refl three.1.1)

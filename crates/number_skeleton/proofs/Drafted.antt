-- Drafts that are read may be written.
use Rattle.std.proofs.Common.{◌≡◌, ℕ, ℤ, zero, ◌+◌, ◌≤◌, List, [], ◌∷◌, length, drop, take, Bool, true, false, refl, arith, subst}
use Rattle.std.proofs.Common.{sym, ◌∙◌}
use Rattle.std.proofs.lemmas.Bool.Decides.{nat_tests}
use Rattle.std.specs.Option.{option_or}
use Rattle.std.specs.Prelude.{Option, Some, None, Result, Ok, Err, IfSome, ⊤, ◌==◌, ◌&&◌, nat_lt, get_or, if◌then◌else◌, codes}
use Rattle.fixed_decimal.specs.declared.signs.SignDisplay.TheVariants as sign
use Rattle.fixed_decimal.specs.Rounding.{zeros_at, scale_at}
use Rattle.number_skeleton.specs.declared.draft.Digits.{Digits}
use Rattle.number_skeleton.specs.declared.draft.Signs.{Signs}
use Rattle.number_skeleton.specs.declared.fault.FaultKind.TheVariants.{BadOption}
use Rattle.skeleton_settings.specs.declared.settings.Precision.{Precision}
use Rattle.skeleton_settings.specs.declared.settings.Precision.TheVariants as precision
use Rattle.skeleton_settings.specs.declared.settings.Priority.TheVariants as priority
use Rattle.number_skeleton.specs.declared.stems.Stem.{Stem}
use Rattle.number_skeleton.specs.declared.stems.Stem.TheVariants as stem
use Rattle.number_skeleton.specs.declared.values.Beside.{Beside}
use Rattle.number_skeleton.specs.declared.values.Limits.{Limits}
use Rattle.number_skeleton.specs.Bytes.{run_len, is_wild, piece_len}
use Rattle.skeleton_settings.specs.Settings.{UnitData, nothing, percent, permille, currency}
use Rattle.number_skeleton.specs.Data.{DraftData}
use Rattle.number_skeleton.specs.Drafts.{merged}
use Rattle.number_skeleton.specs.Fragments.{only_notation, only_unit, only_width, only_digits, only_mode, only_integer_digits, only_scale, only_grouping}
use Rattle.number_skeleton.specs.Fragments.{only_system, only_signs, only_decimal, percent_times_hundred, nothing_data}
use Rattle.number_skeleton.specs.Laws.{IsUnit, AreCounts, IsLimited, IsPrecision, IsSystem, AreSigns}
use Rattle.number_skeleton.specs.Numbers.{scale_of, increment_of}
use Rattle.number_skeleton.specs.Options.{ended, option_at, letters_of, unit_of, system_of, integer_digits_of}
use Rattle.number_skeleton.specs.Results.{located}
use Rattle.number_skeleton.specs.Stems.{stem_of}
use Rattle.number_skeleton.specs.Tokens.{Progress, fresh, stem_and_options, with_token, with_tokens, precision_offset}
use Rattle.number_skeleton.specs.Values.{small, limits_of, fraction, significant, unlimited, both, is_w, digits_at, fraction_at, beside_counts, beside_end}
use Rattle.number_skeleton.specs.Values.{beside_of}
use Rattle.number_skeleton.specs.Values.{currency_at, unit_at, system_at, integer_at, scale_at as scale_value_at, increment_at, value_of}
use Rattle.number_skeleton.proofs.Kept.{letters_kept, unit_kept, system_kept, integer_kept, scale_kept, increment_kept, small_kept, limits_kept, IsBeside}
use Rattle.number_skeleton.proofs.Kept.{beside_counts_kept}
use Rattle.number_skeleton.proofs.Orders.{taken, allowed, one_value, located_ok, ended_anywhere, one_anywhere, digits_anywhere}
use Rattle.number_skeleton.proofs.Says.{fresh_unset}
use Rattle.number_skeleton.proofs.Within.{IsStem, stem_within}

-- what is set may be written
abbrev pub SomeUnit : Option UnitData → Type 0
SomeUnit u = IfSome u IsUnit

abbrev pub SomePrecision : Option Digits → Type 0
SomePrecision None = ⊤
SomePrecision (Some d) = IsPrecision d.precision

abbrev pub SomeInteger : Option ℕ → Type 0
SomeInteger None = ⊤
SomeInteger (Some n) = (1 ≤ n) × (n ≤ 999)

abbrev pub SomeScale : Option ℤ → Type 0
SomeScale None = ⊤
SomeScale (Some k) = (zeros_at k ≤ 999) × (scale_at k ≤ 999)

abbrev pub SomeSigns : Option Signs → Type 0
SomeSigns None = ⊤
SomeSigns (Some s) = AreSigns s.display s.is_accounting

pub record IsDraft (d : DraftData) : Type 0 where
  pub unit : SomeUnit d.unit
  pub digits : SomePrecision d.digits
  pub integer : SomeInteger d.integer_digits
  pub scale : SomeScale d.scale
  pub system : IsSystem d.system
  pub signs : SomeSigns d.signs

-- one of two that may be
either_kept : {A : Type 0} (P : Option A → Type 0) (a b : Option A) → P a → P b → P (option_or a b)
either_kept P None b h k = k
either_kept P (Some x) b h k = h

pub merged_kept : (d e : DraftData) → IsDraft d → IsDraft e → IsDraft (merged d e)
merged_kept d e h k = record {
  unit = either_kept SomeUnit e.unit d.unit k.unit h.unit;
  digits = either_kept SomePrecision e.digits d.digits k.digits h.digits;
  integer = either_kept SomeInteger e.integer_digits d.integer_digits k.integer h.integer;
  scale = either_kept SomeScale e.scale d.scale k.scale h.scale;
  system = either_kept IsSystem e.system d.system k.system h.system;
  signs = either_kept SomeSigns e.signs d.signs k.signs h.signs;
}

pub nothing_kept : IsDraft nothing_data
nothing_kept = record { unit = tt; digits = tt; integer = tt; scale = tt; system = tt; signs = tt }

-- fragments
unit_fragment : (u : UnitData) → IsUnit u → IsDraft (only_unit u)
unit_fragment u h = record { unit = h; digits = tt; integer = tt; scale = tt; system = tt; signs = tt }

digits_fragment : (p : Precision) (k : Bool) → IsPrecision p → IsDraft (only_digits p k)
digits_fragment p k h = record { unit = tt; digits = h; integer = tt; scale = tt; system = tt; signs = tt }

integer_fragment : (n : ℕ) → (1 ≤ n) × (n ≤ 999) → IsDraft (only_integer_digits n)
integer_fragment n h = record { unit = tt; digits = tt; integer = h; scale = tt; system = tt; signs = tt }

scale_fragment : (k : ℤ) → (zeros_at k ≤ 999) × (scale_at k ≤ 999) → IsDraft (only_scale k)
scale_fragment k h = record { unit = tt; digits = tt; integer = tt; scale = h; system = tt; signs = tt }

system_fragment : (y : List ℕ) → IsSystem (Some y) → IsDraft (only_system y)
system_fragment y h = record { unit = tt; digits = tt; integer = tt; scale = tt; system = h; signs = tt }

signs_fragment : (s : Signs) → AreSigns s.display s.is_accounting → IsDraft (only_signs s)
signs_fragment s h = record { unit = tt; digits = tt; integer = tt; scale = tt; system = tt; signs = h }

-- one of two choices
choose : {A E : Type 0} (P : Type 0) (b : Bool) (q r : Result A E) (y : A) → (q ≡ Ok y → P) → (r ≡ Ok y → P) → (if b then q else r) ≡ Ok y → P
choose P true q r y f g h = f h
choose P false q r y f g h = g h

-- significant digits
beside_end_kept : (few hashes : ℕ) (end : List ℕ) (b : Beside) → beside_end few hashes end ≡ Ok b → IsBeside b
beside_end_kept few hashes end b h =
    let some = allowed (few == 0) _ b _ h in
    let one : 1 ≤ few = grind (arith, nat_tests) in
    choose (IsBeside b) (length end == 0) (if few == 1 then beside_counts 1 (1 + hashes) priority.Strict true else Err BadOption)
    (if nat_lt 1 (length end) then Err BadOption
    else if is_wild (get_or end 0 0) && hashes == 0 then beside_counts 1 few priority.Relaxed true
    else if get_or end 0 0 == 114 then beside_counts few (few + hashes) priority.Relaxed false
    else if get_or end 0 0 == 115 then beside_counts few (few + hashes) priority.Strict false
    else Err BadOption) b
    (choose (IsBeside b) (few == 1) (beside_counts 1 (1 + hashes) priority.Strict true) (Err BadOption) b
    (beside_counts_kept 1 (1 + hashes) priority.Strict true b refl (omega arith)) (λ k. absurd cc))
    (λ k. choose (IsBeside b) (is_wild (get_or end 0 0) && hashes == 0) (beside_counts 1 few priority.Relaxed true)
    (if get_or end 0 0 == 114 then beside_counts few (few + hashes) priority.Relaxed false
    else if get_or end 0 0 == 115 then beside_counts few (few + hashes) priority.Strict false
    else Err BadOption) b
    (beside_counts_kept 1 few priority.Relaxed true b refl one)
    (choose (IsBeside b) (get_or end 0 0 == 114) (beside_counts few (few + hashes) priority.Relaxed false)
    (if get_or end 0 0 == 115 then beside_counts few (few + hashes) priority.Strict false else Err BadOption) b
    (beside_counts_kept few (few + hashes) priority.Relaxed false b one (omega arith))
    (choose (IsBeside b) (get_or end 0 0 == 115) (beside_counts few (few + hashes) priority.Strict false) (Err BadOption) b
    (beside_counts_kept few (few + hashes) priority.Strict false b one (omega arith)) (λ l. absurd cc)))
    (allowed (nat_lt 1 (length end)) _ b _ k).1) some.1

beside_kept : (word : List ℕ) (b : Beside) → beside_of word ≡ Ok b → IsBeside b
unfolding beside_of
beside_kept word b h =
    beside_end_kept (run_len 64 word) (run_len 35 (drop (run_len 64 word) word)) (drop (run_len 35 (drop (run_len 64 word) word)) (drop (run_len 64 word)
    word)) b h

-- a precision and its options
digits_kept : (at : ℕ) (options : List ℕ) (p : Precision) (e : DraftData) → IsPrecision p → digits_at at options p ≡ Ok e → IsDraft e
digits_kept at options p e k h = let d = digits_anywhere at at options p e h in subst IsDraft (sym d.sets) (digits_fragment p d.hides k)

fraction_kept : (at : ℕ) (options : List ℕ) (limits : Limits) (e : DraftData) → AreCounts limits.least limits.most → IsLimited limits.least
    limits.most →
    fraction_at at options limits ≡ Ok e → IsDraft e
unfolding fraction_at
fraction_kept at options limits e counts limited h =
    choose (IsDraft e) (length options == 0) (Ok (only_digits (fraction limits) false)) _ e
    (λ k. subst IsDraft (one_value e (only_digits (fraction limits) false) (Ok e) refl (sym k) ∙ refl) (digits_fragment (fraction limits) false counts))
    (λ k.
    let one = taken (option_at at options) _ e k in
    choose (IsDraft e) (is_w one.0) (ended one.0.next one.0.rest (only_digits (fraction limits) true)) _ e
    (λ l. subst IsDraft (sym (ended_anywhere one.0.next one.0.next one.0.rest (only_digits (fraction limits) true) e l).1) (digits_fragment (fraction limits)
    true counts))
    (λ l.
    let two = taken (located one.0.at (beside_of one.0.word)) _ e l in
    let b = beside_kept one.0.word two.0 (located_ok one.0.at (beside_of one.0.word) two.0 two.1.0) in
    digits_kept one.0.next one.0.rest (both limits two.0) e (counts, (limited, (b.some, (b.within, b.small)))) two.1.1) one.1.1) h

increment_at_kept : (at : ℕ) (options : List ℕ) (e : DraftData) → increment_at at options ≡ Ok e → IsDraft e
unfolding increment_at
increment_at_kept at options e h =
    let one = taken (option_at at options) _ e h in
    let two = taken (located one.0.at (increment_of one.0.word)) _ e one.1.1 in
    digits_kept one.0.next one.0.rest two.0 e (increment_kept one.0.word two.0 (located_ok one.0.at (increment_of one.0.word) two.0 two.1.0)) two.1.1

latin_kept : IsSystem (Some (codes "latn"))
unfolding system_of
latin_kept = refl

limited_kept : (at : ℕ) (options : List ℕ) (limits : Limits) (least : ℕ) (most : Option ℕ) (e : DraftData) → limits ≡ record {
  least = least;
  most
      = most;
} → AreCounts least most →
    IsLimited least most → fraction_at at options limits ≡ Ok e → IsDraft e
limited_kept at options limits least most e same counts limited h = fraction_kept at options (record { least = least; most = most }) e counts limited (rw same
    at h)

significant_kept : (at : ℕ) (options : List ℕ) (limits : Limits) (least : ℕ) (most : Option ℕ) (e : DraftData) → limits ≡ record {
  least = least;
  most = most;
} → AreCounts least most →
    1 ≤ least → digits_at at options (significant limits) ≡ Ok e → IsDraft e
significant_kept at options limits least most e same counts some h = digits_kept at options (precision.Significant least most) e (some, counts) (rw same at h)

-- a stem without options
plain_kept : (at : ℕ) (options : List ℕ) (d e : DraftData) → IsDraft d → ended at options d ≡ Ok e → IsDraft e
plain_kept at options d e k h = subst IsDraft (sym (ended_anywhere at at options d e h).1) k

-- what a stem and its options set may be written
pub value_kept : (start at : ℕ) (options : List ℕ) (s : Stem) (e : DraftData) → IsStem s → value_of start at options s ≡ Ok e → IsDraft e
unfolding value_of currency_at unit_at system_at integer_at scale_value_at
value_kept start at options (stem.Notation n) e k h = plain_kept at options (only_notation n) e (record {
  unit = tt;
  digits = tt;
  integer = tt;
  scale = tt;
  system = tt;
  signs = tt;
}) h
value_kept start at options (stem.Width w) e k h = plain_kept at options (only_width w) e (record {
  unit = tt;
  digits = tt;
  integer = tt;
  scale = tt;
  system =
      tt;
  signs = tt;
}) h
value_kept start at options (stem.Mode m) e k h = plain_kept at options (only_mode m) e (record {
  unit = tt;
  digits = tt;
  integer = tt;
  scale = tt;
  system =
      tt;
  signs = tt;
}) h
value_kept start at options (stem.Grouping g) e k h = plain_kept at options (only_grouping g) e (record {
  unit = tt;
  digits = tt;
  integer = tt;
  scale = tt;
  system = tt;
  signs = tt;
}) h
value_kept start at options stem.DecimalAuto e k h = plain_kept at options only_decimal e (record {
  unit = tt;
  digits = tt;
  integer = tt;
  scale = tt;
  system =
      tt;
  signs = tt;
}) h
value_kept start at options stem.BaseUnit e k h = plain_kept at options (only_unit nothing) e (unit_fragment nothing tt) h
value_kept start at options stem.Percent e k h = plain_kept at options (only_unit percent) e (unit_fragment percent tt) h
value_kept start at options stem.Permille e k h = plain_kept at options (only_unit permille) e (unit_fragment permille tt) h
value_kept start at options stem.PercentTimesHundred e k h =
    plain_kept at options percent_times_hundred e (record {
      unit = tt;
      digits = tt;
      integer = tt;
      scale = (omega arith, omega arith);
      system = tt;
      signs = tt;
    }) h
value_kept start at options stem.Latin e k h = plain_kept at options (only_system (codes "latn")) e (system_fragment (codes "latn") latin_kept) h
value_kept start at options (stem.Sign s) e k h = plain_kept at options (only_signs s) e (signs_fragment s k) h
value_kept start at options (stem.IntegerZeros n) e k h =
    let one = taken (small start n) _ e h in
    let same = small_kept start n one.0 one.1.0 in
    plain_kept at options (only_integer_digits one.0) e (integer_fragment one.0 (omega (arith, same.0), omega (arith, same.0, same.1))) one.1.1
value_kept start at options stem.Unlimited e k h = digits_kept at options unlimited e (omega arith) h
value_kept start at options (stem.CurrencyPrecision cash) e k h = digits_kept at options (precision.Currency cash) e tt h
value_kept start at options stem.Increment e k h = increment_at_kept at options e h
value_kept start at options (stem.Fraction counts) e k h =
    let one = taken (limits_of start counts) (fraction_at at options) e h in
    let c = limits_kept start counts one.0 k.0 one.1.0 in
    limited_kept at options one.0 counts.least counts.most e c.0 c.1 k.1 one.1.1
value_kept start at options (stem.Significant counts) e k h =
    let one = taken (limits_of start counts) _ e h in
    let c = limits_kept start counts one.0 k.1 one.1.0 in
    significant_kept at options one.0 counts.least counts.most e c.0 c.1 k.0 one.1.1
value_kept start at options stem.Currency e k h = let o = one_anywhere letters_of (λ letters. only_unit (currency letters)) at at options e h in subst
    IsDraft (sym o.sets) (unit_fragment (currency o.value) (letters_kept o.word o.value o.reads))
value_kept start at options stem.UnitName e k h = let o = one_anywhere unit_of only_unit at at options e h in subst IsDraft (sym o.sets) (unit_fragment
    o.value (unit_kept o.word o.value o.reads))
value_kept start at options stem.System e k h = let o = one_anywhere system_of only_system at at options e h in subst IsDraft (sym o.sets) (system_fragment
    o.value (system_kept o.word o.value o.reads))
value_kept start at options stem.IntegerWidth e k h = let o = one_anywhere integer_digits_of only_integer_digits at at options e h in subst IsDraft (sym
    o.sets) (integer_fragment o.value (integer_kept o.word o.value o.reads))
value_kept start at options stem.Scale e k h = let o = one_anywhere scale_of only_scale at at options e h in subst IsDraft (sym o.sets) (scale_fragment
    o.value (scale_kept o.word o.value o.reads))

-- a token that is read
pub token_kept : (at : ℕ) (token : List ℕ) (d next : DraftData) → IsDraft d → with_token at token d ≡ Ok next → IsDraft next
unfolding with_token
token_kept at token d next k h =
    let zero = allowed (get_or token 0 0 == 47) (stem_and_options at token d) next _ h in
    let one = taken (located at (stem_of (take (piece_len token) token))) _ next zero.1 in
    let two = taken (fresh at one.0 d) _ next one.1.1 in
    let three = taken (value_of at (at + piece_len token) (drop (piece_len token) token) two.0) _ next two.1.1 in
    let same = (fresh_unset at one.0 two.0 d two.1.0).same in
    let good = stem_within (take (piece_len token) token) one.0 (located_ok at (stem_of (take (piece_len token) token)) one.0 one.1.0) in
    let value = value_kept at (at + piece_len token) (drop (piece_len token) token) two.0 three.0 (subst IsStem (sym same) good) three.1.0 in
    subst IsDraft (sym (one_value (merged d three.0) next (Ok (merged d three.0)) refl three.1.1)) (merged_kept d three.0 k value)

pub tokens_kept : (ts : List (ℕ × List ℕ)) (p q : Progress) → IsDraft p.draft → with_tokens ts p ≡ Ok q → IsDraft q.draft
unfolding with_tokens
tokens_kept [] p q k h = subst (λ (x : Progress). IsDraft x.draft) (sym (one_value p q (Ok p) refl h)) k
tokens_kept ((at, token) ∷ ts) p q k h =
    let one = taken (with_token at token p.draft) _ q h in
    tokens_kept ts (record { draft = one.0; precision_at = precision_offset at p }) q (token_kept at token p.draft one.0 k one.1.0) one.1.1

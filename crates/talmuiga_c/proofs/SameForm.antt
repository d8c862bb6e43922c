-- A form depends on the names that a skeleton lends, and not on where these lie in memory; the ranges of a locale don't depend on them.
use Rattle.std.proofs.Common.{◌≡◌, ℕ, List, refl, sym, inl, inr}
use Rattle.std.specs.Prelude.{◌⊎◌, Option, Some, None, option_map, Result, Ok, Err}
use Rattle.std.specs.Borrow.{Bor}
use Rattle.number_formatters.specs.Loaded.{unit_by_notation, unit_loaded, unit_long_loaded, unit_short_loaded}
use Rattle.number_formatters.specs.Settings.{FormSettings}
use Rattle.number_formatters.specs.Skeleton.{◌>>=◌, default_precision, grouping_set, kind_set, money_set, patterns_set, percent_set, permille_set}
use Rattle.number_formatters.specs.Skeleton.{precision_set, settings_of, share_set, system_set, unit_by, unit_set}
use Rattle.number_formatters.specs.declared.settings.Kind.{Kind}
use Rattle.number_formatters.specs.declared.settings.Kind.TheVariants.{Unit as WithUnit}
use Rattle.number_formatters.specs.declared.settings.UnitName.TheVariants as unit
use Rattle.number_formatters.specs.declared.settings.UnitWidth as patterns
use Rattle.number_formatters.specs.declared.skeleton.Unsupported.{Unsupported}
use Rattle.number_forms.specs.Making.{form_of}
use Rattle.skeleton_settings.specs.Settings.{name_data, skeleton_data, unit_data}
use Rattle.skeleton_settings.specs.declared.settings.Notation.{Notation}
use Rattle.skeleton_settings.specs.declared.settings.Notation.TheVariants.{Simple, CompactShort, CompactLong}
use Rattle.skeleton_settings.specs.declared.settings.NumberUnit.{NumberUnit}
use Rattle.skeleton_settings.specs.declared.settings.NumberUnit.TheVariants as counted
use Rattle.skeleton_settings.specs.declared.settings.Precision.{Precision}
use Rattle.skeleton_settings.specs.declared.settings.Skeleton.{Skeleton}
use Rattle.talmuiga_c.specs.LocaleRanges.{ranges_asked}
use Rattle.talmuiga_c.specs.Skeletons.{form_asked, lent, lent_skeleton, lent_unit}

-- the skeleton with its names lent from elsewhere
abbrev moved : Skeleton → Skeleton
moved s = lent_skeleton (skeleton_data s)

-- the system of a name
same-system : (name : Option (Bor (List ℕ))) → system_set name ≡ system_set (option_map lent (option_map name_data name))
unfolding system_set
same-system None = refl
same-system (Some name) = refl

same-default : (u : NumberUnit) → default_precision u ≡ default_precision (lent_unit (unit_data u))
unfolding default_precision
same-default counted.None = refl
same-default counted.Percent = refl
same-default counted.Permille = refl
same-default (counted.Currency letters) = refl
same-default (counted.Named name) = refl

-- the precision
same-precision : (s : Skeleton) (n : Notation) (p : Option Precision) → precision_set s n p ≡ precision_set (moved s) n p
unfolding precision_set
same-precision s n (Some p) = refl
same-precision s Simple None = same-default s.unit
same-precision s CompactShort None = refl
same-precision s CompactLong None = refl

-- kinds that are one, or have a unit of one name, which lies elsewhere
abbrev SameKind : Result Kind Unsupported → Result Kind Unsupported → Type 0
SameKind k l = (k ≡ l) ⊎ ((name : Bor (List ℕ)) × (w : patterns.UnitWidth) × (n : Notation)
    × ((k ≡ Ok (WithUnit (unit.Named name) w n)) × (l ≡ Ok (WithUnit (unit.Named (lent name.now)) w n))))

-- numbers with a unit, by the patterns that write it
with_patterns : (s : Skeleton) (name : Bor (List ℕ)) (p : Option patterns.UnitWidth)
    → SameKind (Ok (unit_by s (unit.Named name) p)) (Ok (unit_by s (unit.Named (lent name.now)) p))
with_patterns s name None = inl refl
with_patterns s name (Some w) = inr (name, w, s.notation, (refl, refl))

-- what is written of numbers
same-kind : (s : Skeleton) (u : NumberUnit) → SameKind (kind_set s u) (kind_set (moved s) (lent_unit (unit_data u)))
unfolding kind_set unit_set percent_set permille_set share_set money_set
same-kind s counted.None = inl refl
same-kind s counted.Percent = inl refl
same-kind s counted.Permille = inl refl
same-kind s (counted.Currency letters) = inl refl
same-kind s (counted.Named name) = with_patterns s name (patterns_set s.width)

-- settings that have the same form and the same ranges by all tables
abbrev pub SameBoth : FormSettings → FormSettings → Type 0
SameBoth x y =
    ((tables : List ℕ) → form_asked x tables ≡ form_asked y tables) × ((tables : List ℕ) → ranges_asked x tables ≡ ranges_asked y tables)

-- the same, if there are settings
abbrev pub SameForms : Result FormSettings Unsupported → Result FormSettings Unsupported → Type 0
SameForms (Ok x) (Ok y) = SameBoth x y
SameForms (Ok x) (Err b) = ⊥
SameForms (Err a) (Ok y) = ⊥
SameForms (Err a) (Err b) = a ≡ b

-- settings of a system and a kind
module _ (with_kind : Option (List ℕ) → Kind → FormSettings)
    (elsewhere : (o : Option (List ℕ)) (name : Bor (List ℕ)) (w : patterns.UnitWidth) (n : Notation)
    → SameBoth (with_kind o (WithUnit (unit.Named name) w n)) (with_kind o (WithUnit (unit.Named (lent name.now)) w n))) where
  abbrev with_both : Result (Option (List ℕ)) Unsupported → Result Kind Unsupported → Result FormSettings Unsupported
  with_both system kind = do
    o ← system
    k ← kind
    Ok (with_kind o k)

  same : (o : Result (Option (List ℕ)) Unsupported) (k l : Result Kind Unsupported)
      → SameKind k l → SameForms (with_both o k) (with_both o l)
  same (Err x) k l is = refl
  same (Ok o) k l (inl e) = rw e (go l)
    where
      go : (l : Result Kind Unsupported) → SameForms (with_both (Ok o) l) (with_both (Ok o) l)
      go (Ok kind) = ((λ tables. refl), (λ tables. refl))
      go (Err x) = refl
  same (Ok o) k l (inr (name, w, n, (e, f))) = rw (e, f) (elsewhere o name w n)

-- settings with another kind
abbrev with_kind : FormSettings → Kind → FormSettings
with_kind x kind = record {
  locale = x.locale;
  system = x.system;
  grouping = x.grouping;
  precision = x.precision;
  mode = x.mode;
  hides_zeros_of_whole = x.hides_zeros_of_whole;
  integer_digits = x.integer_digits;
  scale = x.scale;
  sign = x.sign;
  kind = kind;
}

-- the form of numbers with a unit, wherever the unit's name lies
same-unit : (x : FormSettings) (name : Bor (List ℕ)) (w : patterns.UnitWidth) (n : Notation) (tables : List ℕ)
    → form_asked (with_kind x (WithUnit (unit.Named name) w n)) tables ≡ form_asked (with_kind x (WithUnit (unit.Named (lent name.now)) w n)) tables
unfolding form_asked form_of unit_by_notation unit_loaded unit_short_loaded unit_long_loaded
same-unit x name w Simple tables = refl
same-unit x name w CompactShort tables = refl
same-unit x name w CompactLong tables = refl

-- the ranges of the locale, which no unit changes
same-ranges : (x : FormSettings) (k l : Kind) (tables : List ℕ) → ranges_asked (with_kind x k) tables ≡ ranges_asked (with_kind x l) tables
unfolding ranges_asked
same-ranges x k l tables = refl

-- both
same-both : (x : FormSettings) (name : Bor (List ℕ)) (w : patterns.UnitWidth) (n : Notation)
    → SameBoth (with_kind x (WithUnit (unit.Named name) w n)) (with_kind x (WithUnit (unit.Named (lent name.now)) w n))
same-both x name w n = (same-unit x name w n, same-ranges x (WithUnit (unit.Named name) w n) (WithUnit (unit.Named (lent name.now)) w n))

-- the settings of a skeleton, wherever its names lie
pub same-settings : (locale : List ℕ) (s : Skeleton) → SameForms (settings_of locale s) (settings_of locale (moved s))
unfolding settings_of
same-settings locale s = rw (sym (same-system s.system), sym (same-precision s s.notation s.precision))
    (same (λ o k. record {
      locale = locale;
      system = o;
      grouping = grouping_set s.grouping;
      precision = precision_set s s.notation s.precision;
      mode = s.mode;
      hides_zeros_of_whole = s.hides_zeros_of_whole;
      integer_digits = s.integer_digits;
      scale = s.scale;
      sign = s.sign;
      kind = k;
    }) (λ o name w n. same-both (record {
      locale = locale;
      system = o;
      grouping = grouping_set s.grouping;
      precision = precision_set s s.notation s.precision;
      mode = s.mode;
      hides_zeros_of_whole = s.hides_zeros_of_whole;
      integer_digits = s.integer_digits;
      scale = s.scale;
      sign = s.sign;
      kind = WithUnit (unit.Named name) w n;
    }) name w n) (system_set s.system) (kind_set s s.unit) (kind_set (moved s) (moved s).unit) (same-kind s s.unit))

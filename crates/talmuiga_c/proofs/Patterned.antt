-- Calls that end where the ranges of a locale are found in tables, or aren't, and where a range is written, or isn't.
use Rattle.std.proofs.Common.{◌≡◌, ℕ, List, Ok, Err, refl, ap, inl, inr}
use Rattle.std.specs.Prelude.{Option, Result}
use Rattle.std.specs.Str.{IsUtf8}
use Rattle.writeable.specs.Events.{Event}
use Rattle.icu_provider.specs.Answer.{Refusal, Refuses}
use Rattle.icu_provider.specs.declared.error.DataErrorKind.{DataErrorKind}
use Rattle.icu_provider.specs.declared.error.DataErrorKind.TheVariants as refusal
use Rattle.icu_ranges.specs.Separator.{Separator}
use Rattle.icu_ranges.specs.declared.plural_ranges.PluralRange.{PluralRange}
use Rattle.icu_range_tables.specs.RangeTables.{RangeData}
use Rattle.icu_table_entries.specs.Reading.{Fails}
use Rattle.icu_table_entries.specs.declared.error.TableError.{TableError}
use Rattle.icu_table_entries.specs.declared.error.TableError.TheVariants as table
use Rattle.number_formatters.specs.Settings.{FormSettings}
use Rattle.number_forms.specs.Forms.{FormData}
use Rattle.number_forms.specs.Making.{StopsForm, read_then, start_error, started, table_error, form_of}
use Rattle.number_forms.specs.declared.error.StartError.{StartError}
use Rattle.number_forms.specs.declared.error.StartError.TheVariants as start
use Rattle.number_ranges.specs.WroteRange.{IsRefusal}
use Rattle.number_ranges.specs.declared.error.RangeTextError.{RangeTextError}
use Rattle.talmuiga_c.specs.Endings.{out_of_memory}
use Rattle.talmuiga_c.specs.Handle.{empty}
use Rattle.talmuiga_c.specs.LocaleRanges.{with_categories}
use Rattle.talmuiga_c.specs.Patterns.{pattern_status}
use Rattle.talmuiga_c.specs.Ranges.{OpensBoth, RangeOf, range_status}
use Rattle.talmuiga_c.specs.Skeletons.{form_asked, form_status}
use Rattle.talmuiga_c.specs.declared.held.Held.{Held}
use Rattle.talmuiga_c.specs.declared.locale_ranges.LocaleRanges.{LocaleRanges}
use Rattle.talmuiga_c.proofs.Unformed.{asked-is}

-- why there are no ranges if a text is rejected
pub read-stops : (e : TableError) (read : Result RangeData TableError) (next : RangeData → Result LocaleRanges StartError) → Fails e read
    → StopsForm (table_error e) (read_then read next)
read-stops table.NotJson read next is = ap (λ r. read_then r next) is
read-stops table.Float read next is = ap (λ r. read_then r next) is
read-stops (table.Missing key) read next is = ap (λ r. read_then r next) is
read-stops (table.WrongKind key) read next is = ap (λ r. read_then r next) is
read-stops (table.Entry key index fault) read next is = ap (λ r. read_then r next) is
read-stops table.OutOfMemory read next is = tt

-- why there is no pattern if the tables reject
pub answer-stops : (kind : DataErrorKind) (context : List ℕ) (answer : Result Separator Refusal) → Refuses kind context answer
    → StopsForm (start_error kind) (started answer)
answer-stops refusal.IdentifierNotFound context answer is = ap started is
answer-stops refusal.MarkerNotFound context answer is = ap started is
answer-stops refusal.InvalidRequest context answer is = ap started is
answer-stops refusal.Custom context answer is = ap started is
answer-stops refusal.OutOfMemory context answer is = tt

-- without a pattern there are no ranges
pub unpatterned-stops : (error : StartError) (categories : List PluralRange) (pattern : Result Separator StartError) → StopsForm error pattern
    → StopsForm error (with_categories categories pattern)
unpatterned-stops start.NotUtf8 categories pattern is = ap (with_categories categories) is
unpatterned-stops (start.Refused e) categories pattern is = ap (with_categories categories) is
unpatterned-stops start.NoData categories pattern is = ap (with_categories categories) is
unpatterned-stops start.OutOfMemory categories pattern is = tt

module _ (held : Option (Option Held)) (is_empty : held ≡ empty) where
  unopened : (form : Result FormData StartError) (ranges : Result LocaleRanges StartError) → OpensBoth form ranges held out_of_memory
  unopened (Ok form) (Ok ranges) = inr (is_empty, refl)
  unopened (Ok form) (Err error) = (is_empty, inr refl)
  unopened (Err error) ranges = (is_empty, inr refl)

  -- without ranges a formatter stays closed
  pub unranged-opens : (form : FormData) (ranges : Result LocaleRanges StartError) (error : StartError) → StopsForm error ranges
      → OpensBoth (Ok form) ranges held (pattern_status error)
  unranged-opens form ranges start.NotUtf8 is = rw is (is_empty, inl refl)
  unranged-opens form ranges (start.Refused e) is = rw is (is_empty, inl refl)
  unranged-opens form ranges start.NoData is = rw is (is_empty, inl refl)
  unranged-opens form ranges start.OutOfMemory is = unopened (Ok form) ranges

  module _ (settings : FormSettings) (tables : List ℕ) (ranges : Result LocaleRanges StartError) where
    -- nor is it opened without a form
    pub unformed-stays : (error : StartError) → (IsUtf8 tables → StopsForm error (form_of settings tables))
        → (¬ (IsUtf8 tables) → ◌≡◌ {A = Result FormData StartError} (Err error) (Err start.NotUtf8))
        → OpensBoth (form_asked settings tables) ranges held (form_status error)
    unformed-stays start.NotUtf8 text no_text = rw (asked-is settings tables (Err start.NotUtf8) text no_text) (is_empty, inl refl)
    unformed-stays (start.Refused e) text no_text = rw (asked-is settings tables (Err (start.Refused e)) text no_text) (is_empty, inl refl)
    unformed-stays start.NoData text no_text = rw (asked-is settings tables (Err start.NoData) text no_text) (is_empty, inl refl)
    unformed-stays start.OutOfMemory text no_text = unopened (form_asked settings tables) ranges

-- a range that isn't written
pub unwritten-range : (written : Result (List Event) RangeTextError) (error : RangeTextError) (old new : List ℕ) → IsRefusal written error
    → new ≡ old → RangeOf written old new 0 (range_status error)
unwritten-range written error old new (inl e) same = rw e (go written)
  where
    go : (r : Result (List Event) RangeTextError) → RangeOf r old new 0 out_of_memory
    go (Ok events) = inr (record { same = same; none = refl }, refl)
    go (Err error) = (record { same = same; none = refl }, inr refl)
unwritten-range written error old new (inr e) same = rw e (record { same = same; none = refl }, inl refl)

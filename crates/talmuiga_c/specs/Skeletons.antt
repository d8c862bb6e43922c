-- What a call with a number skeleton leaves, by its status: the formatter that locale, skeleton and tables open, or the canonical text.
use Rattle.std.specs.Prelude.{◌≡◌, ℕ, ◌<◌, ◌≤◌, ◌⊎◌, List, length, Option, Some, None, option_map, Result, Ok, Err, if◌then◌else◌}
use Rattle.std.specs.Borrow.{Bor}
use Rattle.std.specs.Str.{is_utf8}
use Rattle.std.specs.Str.Lossy.{utf8_valid_len}
use Rattle.decimal_lines.specs.SingleText.{HoldsIfRoom}
use Rattle.decimal_lines.specs.Words.{◌>>=◌, locale_named}
use Rattle.number_formatters.specs.Settings.{FormSettings}
use Rattle.number_formatters.specs.Skeleton.{settings_of}
use Rattle.number_formatters.specs.declared.skeleton.Unsupported.{Unsupported}
use Rattle.number_forms.specs.Forms.{FormData}
use Rattle.number_forms.specs.Making.{form_of}
use Rattle.number_forms.specs.declared.error.StartError.{StartError}
use Rattle.number_forms.specs.declared.error.StartError.TheVariants as start
use Rattle.number_skeleton.specs.Tokens.{skeleton_of}
use Rattle.number_skeleton.specs.declared.fault.SkeletonFault.{SkeletonFault}
use Rattle.skeleton_settings.specs.Canonical.{canonical_of}
use Rattle.skeleton_settings.specs.Settings.{SkeletonData, UnitData, nothing, percent, permille, currency, named, skeleton_data}
use Rattle.skeleton_settings.specs.declared.settings.NumberUnit.{NumberUnit}
use Rattle.skeleton_settings.specs.declared.settings.NumberUnit.TheVariants as number_unit
use Rattle.skeleton_settings.specs.declared.settings.Skeleton.{Skeleton}
use Rattle.talmuiga_c.specs.Asked.{text_in}
use Rattle.talmuiga_c.specs.Endings.{IsUntouched, done, no_data, out_of_memory, output_too_small, tables_refused, words_refused}
use Rattle.talmuiga_c.specs.Handle.{empty, holding}
use Rattle.talmuiga_c.specs.LocaleRanges.{ranges_asked}
use Rattle.talmuiga_c.specs.SkeletonFaults.{fault_of, no_fault, not_utf8_at, unsupported_fault}
use Rattle.talmuiga_c.specs.declared.fault.Fault.{Fault}
use Rattle.talmuiga_c.specs.declared.held.Held.{Held}
use Rattle.talmuiga_c.specs.declared.kept.Kept.TheVariants.{BySkeleton}
use Rattle.talmuiga_c.specs.declared.skeletons.Rejected.{Rejected}

-- a skeleton has a fault, or asks for what no form has
abbrev pub skeleton_refused : ℕ
skeleton_refused = 9

-- the locale of some bytes, where they are the text of one
unfoldable pub locale_asked : List ℕ → Option (List ℕ)
locale_asked bytes = do
  text ← text_in bytes
  locale_named text

-- the settings of a skeleton that was read
abbrev pub read_data : Result Skeleton Fault → Result SkeletonData Fault
read_data (Ok s) = Ok (skeleton_data s)
read_data (Err fault) = Err fault

-- the fault in numbers, if there is one
abbrev pub numbered_fault : Result SkeletonData SkeletonFault → Result SkeletonData Fault
numbered_fault (Ok settings) = Ok settings
numbered_fault (Err fault) = Err (fault_of fault)

-- the settings of a skeleton, or what is wrong with it; of bytes that aren't UTF-8 the first that isn't
unfoldable pub skeleton_asked : List ℕ → Result SkeletonData Fault
skeleton_asked bytes = if is_utf8 bytes then numbered_fault (skeleton_of bytes) else Err (not_utf8_at (utf8_valid_len bytes))

-- a lent name; where it lies in memory means nothing
abbrev pub lent : List ℕ → Bor (List ℕ)
lent name = record { ref_ptr = (0, 0); now = name }

-- what a number counts, with a lent name
abbrev pub lent_unit : UnitData → NumberUnit
lent_unit nothing = number_unit.None
lent_unit percent = number_unit.Percent
lent_unit permille = number_unit.Permille
lent_unit (currency letters) = number_unit.Currency letters
lent_unit (named name) = number_unit.Named (lent name)

-- a skeleton of these settings
abbrev pub lent_skeleton : SkeletonData → Skeleton
lent_skeleton settings = record {
  notation = settings.notation;
  unit = lent_unit settings.unit;
  width = settings.width;
  precision = settings.precision;
  hides_zeros_of_whole = settings.hides_zeros_of_whole;
  mode = settings.mode;
  integer_digits = settings.integer_digits;
  scale = settings.scale;
  grouping = settings.grouping;
  system = option_map lent settings.system;
  sign = settings.sign;
  is_accounting = settings.is_accounting;
}

-- what forms have of a skeleton, or the first part that they don't
abbrev pub supported : Result FormSettings Unsupported → Result FormSettings Rejected
supported (Ok settings) = Ok settings
supported (Err x) = Err (record { status = skeleton_refused; fault = unsupported_fault x })

-- what a locale and a skeleton ask for
abbrev pub settings_from : Option (List ℕ) → Result SkeletonData Fault → Result FormSettings Rejected
settings_from None read = Err (record { status = words_refused; fault = no_fault })
settings_from (Some locale) (Err fault) = Err (record { status = skeleton_refused; fault = fault })
settings_from (Some locale) (Ok settings) = supported (settings_of locale (lent_skeleton settings))

-- the same of bytes, or why nothing is asked for: the locale is judged first, then the skeleton, and then what forms have
unfoldable pub settings_asked : List ℕ → List ℕ → Result FormSettings Rejected
settings_asked locale skeleton = settings_from (locale_asked locale) (skeleton_asked skeleton)

-- the form that settings make of tables; tables that aren't UTF-8 are rejected
unfoldable pub form_asked : FormSettings → List ℕ → Result FormData StartError
form_asked settings tables = if is_utf8 tables then form_of settings tables else Err start.NotUtf8

-- settings by which all tables have the form and the ranges that are asked for; or why nothing is asked for
abbrev pub AsksFor : List ℕ → List ℕ → Result FormSettings Rejected → Type 0
AsksFor locale skeleton (Ok settings) = (asked : FormSettings) × ((settings_asked locale skeleton ≡ Ok asked)
    × (((tables : List ℕ) → form_asked settings tables ≡ form_asked asked tables)
    × ((tables : List ℕ) → ranges_asked settings tables ≡ ranges_asked asked tables)))
AsksFor locale skeleton (Err rejected) = settings_asked locale skeleton ≡ Err rejected

-- the status of a form that isn't made
abbrev pub form_status : StartError → ℕ
form_status start.NotUtf8 = tables_refused
form_status (start.Refused e) = tables_refused
form_status start.NoData = no_data
form_status start.OutOfMemory = out_of_memory

-- the formatter has the form that is asked for, or nothing
abbrev pub OpensForm : Result FormData StartError → Option (Option Held) → ℕ → Type 0
OpensForm (Ok form) held status = ((held ≡ holding (BySkeleton form)) × (status ≡ done)) ⊎ ((held ≡ empty) × (status ≡ out_of_memory))
OpensForm (Err error) held status = (held ≡ empty) × ((status ≡ form_status error) ⊎ (status ≡ out_of_memory))

-- by what is asked for: where nothing is, nothing else comes in place of its status, and else there is no fault
abbrev pub OpensAsked : Result FormSettings Rejected → List ℕ → Option (Option Held) → Fault → ℕ → Type 0
OpensAsked (Ok settings) tables held fault status = (fault ≡ no_fault) × OpensForm (form_asked settings tables) held status
OpensAsked (Err rejected) tables held fault status = (held ≡ empty) × ((fault ≡ rejected.fault) × (status ≡ rejected.status))

-- by the bytes of a locale and of a skeleton
abbrev pub OpensSkeleton : List ℕ → List ℕ → List ℕ → Option (Option Held) → Fault → ℕ → Type 0
OpensSkeleton locale skeleton tables held fault status = OpensAsked (settings_asked locale skeleton) tables held fault status

-- an output holds a text if it has room, and the length is returned
pub record IsPut (text old new : List ℕ) (n status : ℕ) : Type 0 where
  pub holds : HoldsIfRoom old new text n
  pub fits : n ≤ length old → status ≡ done
  pub too_long : length old < n → status ≡ output_too_small

-- the canonical text of settings, or why there is none; out of memory may come in place of the text
abbrev pub CanonicalOf : Result SkeletonData Fault → List ℕ → List ℕ → ℕ → Fault → ℕ → Type 0
CanonicalOf (Ok settings) old new n fault status =
    (fault ≡ no_fault) × (IsPut (canonical_of settings) old new n status ⊎ (IsUntouched old new n × (status ≡ out_of_memory)))
CanonicalOf (Err found) old new n fault status = (fault ≡ found) × (IsUntouched old new n × (status ≡ skeleton_refused))

-- that of the bytes of a skeleton
abbrev pub IsCanonical : List ℕ → List ℕ → List ℕ → ℕ → Fault → ℕ → Type 0
IsCanonical skeleton old new n fault status = CanonicalOf (skeleton_asked skeleton) old new n fault status

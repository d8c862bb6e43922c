-- What holds of all suffixes; each is the contract of a function of `laws`.
use Rattle.std.specs.Prelude.{◌≡◌, ℕ, ◌<◌, ◌≤◌, Ok}
use Rattle.scaled_units.specs.declared.scale.Scale.{Scale}
use Rattle.scaled_units.specs.declared.scale.Scale.TheVariants.{Si, Iec, IecI}
use Rattle.scaled_units.specs.declared.scale.FromScale.{FromScale}
use Rattle.scaled_units.specs.declared.scale.FromScale.TheVariants.{Si as FromSi, Iec as FromIec, IecI as FromIecI}
use Rattle.scaled_units.specs.Scales.{base_of, suffix_text}
use Rattle.scaled_units.specs.Suffixes.{suffix_unit}

-- the scale by which the suffixes of a scale are read
abbrev pub read_by : Scale → FromScale
read_by Si = FromSi
read_by Iec = FromIec
read_by IecI = FromIecI

-- the suffix that is written of a power is read as that power of the same base
abbrev pub SuffixIsReadBack : Type 0
SuffixIsReadBack = (scale : Scale) (at power : ℕ) → 0 < power → power ≤ 8 →
    suffix_unit (read_by scale) at (suffix_text scale power) ≡ Ok (record { base = base_of scale; power = power })

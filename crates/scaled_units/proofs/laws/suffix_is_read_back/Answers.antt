use Rattle.std.proofs.Common.{◌≡◌, ℕ, zero, suc, ◌<◌, ◌≤◌, Ok, refl, arith}
use Rattle.scaled_units.specs.declared.scale.Scale.{Scale}
use Rattle.scaled_units.specs.declared.scale.Scale.TheVariants.{Si, Iec, IecI}
use Rattle.scaled_units.specs.Scales.{base_of, suffix_text}
use Rattle.scaled_units.specs.Suffixes.{suffix_unit}
use Rattle.scaled_units.specs.Laws.{read_by}
use Rattle.scaled_units.proofs.laws.suffix_is_read_back.Goals as goal

-- each power with a letter, by each scale
read_back : (scale : Scale) (at power : ℕ) → 0 < power → power ≤ 8 →
    suffix_unit (read_by scale) at (suffix_text scale power) ≡ Ok (record { base = base_of scale; power = power })
read_back Si at zero some within = absurd (omega arith)
read_back Si at (suc zero) some within = refl
read_back Si at (suc (suc zero)) some within = refl
read_back Si at (suc (suc (suc zero))) some within = refl
read_back Si at (suc (suc (suc (suc zero)))) some within = refl
read_back Si at (suc (suc (suc (suc (suc zero))))) some within = refl
read_back Si at (suc (suc (suc (suc (suc (suc zero)))))) some within = refl
read_back Si at (suc (suc (suc (suc (suc (suc (suc zero))))))) some within = refl
read_back Si at (suc (suc (suc (suc (suc (suc (suc (suc zero)))))))) some within = refl
read_back Si at (suc (suc (suc (suc (suc (suc (suc (suc (suc n))))))))) some within = absurd (omega arith)
read_back Iec at zero some within = absurd (omega arith)
read_back Iec at (suc zero) some within = refl
read_back Iec at (suc (suc zero)) some within = refl
read_back Iec at (suc (suc (suc zero))) some within = refl
read_back Iec at (suc (suc (suc (suc zero)))) some within = refl
read_back Iec at (suc (suc (suc (suc (suc zero))))) some within = refl
read_back Iec at (suc (suc (suc (suc (suc (suc zero)))))) some within = refl
read_back Iec at (suc (suc (suc (suc (suc (suc (suc zero))))))) some within = refl
read_back Iec at (suc (suc (suc (suc (suc (suc (suc (suc zero)))))))) some within = refl
read_back Iec at (suc (suc (suc (suc (suc (suc (suc (suc (suc n))))))))) some within = absurd (omega arith)
read_back IecI at zero some within = absurd (omega arith)
read_back IecI at (suc zero) some within = refl
read_back IecI at (suc (suc zero)) some within = refl
read_back IecI at (suc (suc (suc zero))) some within = refl
read_back IecI at (suc (suc (suc (suc zero)))) some within = refl
read_back IecI at (suc (suc (suc (suc (suc zero))))) some within = refl
read_back IecI at (suc (suc (suc (suc (suc (suc zero)))))) some within = refl
read_back IecI at (suc (suc (suc (suc (suc (suc (suc zero))))))) some within = refl
read_back IecI at (suc (suc (suc (suc (suc (suc (suc (suc zero)))))))) some within = refl
read_back IecI at (suc (suc (suc (suc (suc (suc (suc (suc (suc n))))))))) some within = absurd (omega arith)

pub returns : goal.returns
returns c = read_back

-- A number rounded half to even to just so many fraction digits.
use Rattle.std.specs.Prelude.{◌≡◌, ℕ, ◌-◌, ◌^◌, ◌≤◌, ◌⊎◌, pos}
use Rattle.fixed_decimal.specs.declared.modes.UnsignedRoundingMode.TheVariants.{HalfEven}
use Rattle.fixed_decimal.specs.Modes.{taken_at}
use Rattle.fixed_decimal.specs.Size.{finest, size, ten_to}
use Rattle.fixed_decimal.specs.Unsigned.{Unsigned, IsUnsigned}
use Rattle.decimal_lines.specs.declared.single_text.TextError.{TextError}
use Rattle.decimal_lines.specs.declared.single_text.TextError.TheVariants.{OutOfMemory, Overflow}

-- the size nearest to x of the numbers with n fraction digits, the even one of two equally near
abbrev pub nearest_size : ℕ → ℕ → ℕ
nearest_size n x = taken_at HalfEven (10 ^ (finest - n)) x

-- y is d rounded to n fraction digits, and has just so many
pub record IsCut (n : ℕ) (d y : Unsigned) : Type 0 where
  pub valid : IsUnsigned y
  pub size_is : size y ≡ nearest_size n (size d)
  pub scale_is : y.scale ≡ n

-- why d isn't rounded to n fraction digits
abbrev pub IsCutRefusal : ℕ → Unsigned → TextError → Type 0
IsCutRefusal n d error = (error ≡ OutOfMemory) ⊎ ((error ≡ Overflow) × (ten_to (pos 32768) ≤ nearest_size n (size d)))

-- Scales: the base of a letter, and which letter stands for which power of it (coreutils `numfmt`).
use Rattle.std.specs.Prelude.{ℕ, ◌==◌, List, [], Option, Some, None, if◌then◌else◌, codes}
use Rattle.scaled_units.specs.declared.scale.Base.{Base}
use Rattle.scaled_units.specs.declared.scale.Base.TheVariants.{Thousand, Binary}
use Rattle.scaled_units.specs.declared.scale.Scale.{Scale}
use Rattle.scaled_units.specs.declared.scale.Scale.TheVariants.{Si, Iec, IecI}

-- the number of a base
abbrev pub base_value : Base → ℕ
base_value Thousand = 1000
base_value Binary = 1024

-- a base times its cofactor is ten to its places: 1000 * 1 is 10^3, and 1024 * 9765625 is 10^10
abbrev pub cofactor : Base → ℕ
cofactor Thousand = 1
cofactor Binary = 9765625

-- the places of a base
abbrev pub places : Base → ℕ
places Thousand = 3
places Binary = 10

-- the base of a scale
abbrev pub base_of : Scale → Base
base_of Si = Thousand
base_of Iec = Binary
base_of IecI = Binary

-- the byte that may stand behind a letter: `i`
abbrev pub letter_i : ℕ
letter_i = 105

-- the power of a letter: K, M, G, T, P, E, Z and Y stand for 1 to 8
abbrev pub letter_power : ℕ → Option ℕ
letter_power b =
    if b == 75 then Some 1
    else (if b == 77 then Some 2
    else (if b == 71 then Some 3
    else (if b == 84 then Some 4
    else (if b == 80 then Some 5
    else (if b == 69 then Some 6
    else (if b == 90 then Some 7
    else (if b == 89 then Some 8 else None)))))))

-- the letter of a power, none of 0 and of powers above 8
abbrev pub letter_text : ℕ → List ℕ
letter_text power =
    if power == 1 then codes "K"
    else (if power == 2 then codes "M"
    else (if power == 3 then codes "G"
    else (if power == 4 then codes "T"
    else (if power == 5 then codes "P"
    else (if power == 6 then codes "E"
    else (if power == 7 then codes "Z"
    else (if power == 8 then codes "Y" else [])))))))

-- the same with an `i`
abbrev pub letter_i_text : ℕ → List ℕ
letter_i_text power =
    if power == 1 then codes "Ki"
    else (if power == 2 then codes "Mi"
    else (if power == 3 then codes "Gi"
    else (if power == 4 then codes "Ti"
    else (if power == 5 then codes "Pi"
    else (if power == 6 then codes "Ei"
    else (if power == 7 then codes "Zi"
    else (if power == 8 then codes "Yi" else [])))))))

-- the suffix of a power by a scale
abbrev pub suffix_text : Scale → ℕ → List ℕ
suffix_text Si power = letter_text power
suffix_text Iec power = letter_text power
suffix_text IecI power = letter_i_text power

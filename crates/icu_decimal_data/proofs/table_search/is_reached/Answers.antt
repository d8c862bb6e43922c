use Rattle.std.proofs.Common.{◌≡◌, pos, to_z, of_z, w32, arith}
use Rattle.std.proofs.lemmas.Int.{ints}
use Rattle.icu_decimal_data.proofs.EntryPlaces.{int_le-place}
use Rattle.icu_decimal_data.proofs.table_search.is_reached.Goals as goal

pub returns : goal.returns
returns c =
    let t : to_z w32 c.args.log10_type ≡ pos c.args.log10_type = omega (arith, ints) in
    let m : to_z w32 (of_z w32 c.args.magnitude) ≡ c.args.magnitude = omega (arith, ints) in
    rw (t, m) (int_le-place c.args.log10_type c.args.magnitude)

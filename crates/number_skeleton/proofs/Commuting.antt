-- Drafts are merged in any order, if they set nothing twice.
use Rattle.std.proofs.Common.{◌≡◌, Bool, true, false, refl}
use Rattle.std.specs.Option.{is_some, option_or}
use Rattle.std.specs.Prelude.{Option, Some, None, ◌||◌}
use Rattle.number_skeleton.specs.Data.{DraftData}
use Rattle.number_skeleton.specs.Drafts.{merged}

-- both are set
abbrev pub both_set : {A : Type 0} → Option A → Option A → Bool
both_set None y = false
both_set (Some x) y = is_some y

-- some field is set in both drafts
abbrev pub clashes : DraftData → DraftData → Bool
clashes d e =
    both_set e.notation d.notation || (
    both_set e.unit d.unit || (
    both_set e.width d.width || (
    both_set e.digits d.digits || (
    both_set e.mode d.mode || (
    both_set e.integer_digits d.integer_digits || (
    both_set e.scale d.scale || (
    both_set e.grouping d.grouping || (
    both_set e.system d.system || (
    both_set e.signs d.signs || (
    both_set e.decimal d.decimal))))))))))

pub or_left : (x y : Bool) → (x || y) ≡ false → x ≡ false
or_left true y h = absurd cc
or_left false y h = refl

pub or_right : (x y : Bool) → (x || y) ≡ false → y ≡ false
or_right true y h = absurd cc
or_right false y h = h

-- the fields of both one by one
pub record Free (d e : DraftData) : Type 0 where
  pub notation : both_set e.notation d.notation ≡ false
  pub unit : both_set e.unit d.unit ≡ false
  pub width : both_set e.width d.width ≡ false
  pub digits : both_set e.digits d.digits ≡ false
  pub mode : both_set e.mode d.mode ≡ false
  pub integer_digits : both_set e.integer_digits d.integer_digits ≡ false
  pub scale : both_set e.scale d.scale ≡ false
  pub grouping : both_set e.grouping d.grouping ≡ false
  pub system : both_set e.system d.system ≡ false
  pub signs : both_set e.signs d.signs ≡ false
  pub decimal : both_set e.decimal d.decimal ≡ false

-- one field of three drafts
record Ordered {A : Type 0} (a b c : Option A) : Type 0 where
  pub second : both_set c a ≡ false
  pub first : both_set b (option_or c a) ≡ false
  pub same : option_or c (option_or b a) ≡ option_or b (option_or c a)

ordered : {A : Type 0} (a b c : Option A) → both_set b a ≡ false → both_set c (option_or b a) ≡ false → Ordered a b c
ordered None None None h k = record { second = refl; first = refl; same = refl }
ordered None None (Some z) h k = record { second = refl; first = refl; same = refl }
ordered None (Some y) None h k = record { second = refl; first = refl; same = refl }
ordered None (Some y) (Some z) h k = absurd cc
ordered (Some x) None None h k = record { second = refl; first = refl; same = refl }
ordered (Some x) None (Some z) h k = absurd cc
ordered (Some x) (Some y) c h k = absurd cc

-- without a clash each field is free
module _ (d e : DraftData) where
  abbrev left_10 : Bool
  left_10 = both_set e.decimal d.decimal

  abbrev left_9 : Bool
  left_9 = both_set e.signs d.signs || left_10

  abbrev left_8 : Bool
  left_8 = both_set e.system d.system || left_9

  abbrev left_7 : Bool
  left_7 = both_set e.grouping d.grouping || left_8

  abbrev left_6 : Bool
  left_6 = both_set e.scale d.scale || left_7

  abbrev left_5 : Bool
  left_5 = both_set e.integer_digits d.integer_digits || left_6

  abbrev left_4 : Bool
  left_4 = both_set e.mode d.mode || left_5

  abbrev left_3 : Bool
  left_3 = both_set e.digits d.digits || left_4

  abbrev left_2 : Bool
  left_2 = both_set e.width d.width || left_3

  abbrev left_1 : Bool
  left_1 = both_set e.unit d.unit || left_2

  pub free_from : clashes d e ≡ false → Free d e
  free_from h0 =
      let h1 = or_right (both_set e.notation d.notation) left_1 h0 in
      let h2 = or_right (both_set e.unit d.unit) left_2 h1 in
      let h3 = or_right (both_set e.width d.width) left_3 h2 in
      let h4 = or_right (both_set e.digits d.digits) left_4 h3 in
      let h5 = or_right (both_set e.mode d.mode) left_5 h4 in
      let h6 = or_right (both_set e.integer_digits d.integer_digits) left_6 h5 in
      let h7 = or_right (both_set e.scale d.scale) left_7 h6 in
      let h8 = or_right (both_set e.grouping d.grouping) left_8 h7 in
      let h9 = or_right (both_set e.system d.system) left_9 h8 in
      let h10 = or_right (both_set e.signs d.signs) left_10 h9 in
      record {
        notation = or_left (both_set e.notation d.notation) left_1 h0;
        unit = or_left (both_set e.unit d.unit) left_2 h1;
        width = or_left (both_set e.width d.width) left_3 h2;
        digits = or_left (both_set e.digits d.digits) left_4 h3;
        mode = or_left (both_set e.mode d.mode) left_5 h4;
        integer_digits = or_left (both_set e.integer_digits d.integer_digits) left_6 h5;
        scale = or_left (both_set e.scale d.scale) left_7 h6;
        grouping = or_left (both_set e.grouping d.grouping) left_8 h7;
        system = or_left (both_set e.system d.system) left_9 h8;
        signs = or_left (both_set e.signs d.signs) left_10 h9;
        decimal = h10;
      }

  pub free_to : Free d e → clashes d e ≡ false
  free_to f = rw (f.notation, f.unit, f.width, f.digits, f.mode, f.integer_digits, f.scale, f.grouping, f.system, f.signs, f.decimal) refl

-- two fragments may be merged in either order
pub record Commutes (d v w : DraftData) : Type 0 where
  pub second : clashes d w ≡ false
  pub first : clashes (merged d w) v ≡ false
  pub same : merged (merged d v) w ≡ merged (merged d w) v

pub commute : (d v w : DraftData) → clashes d v ≡ false → clashes (merged d v) w ≡ false → Commutes d v w
commute d v w h k =
    let p = free_from d v h in
    let q = free_from (merged d v) w k in
    let o_notation = ordered d.notation v.notation w.notation p.notation q.notation in
    let o_unit = ordered d.unit v.unit w.unit p.unit q.unit in
    let o_width = ordered d.width v.width w.width p.width q.width in
    let o_digits = ordered d.digits v.digits w.digits p.digits q.digits in
    let o_mode = ordered d.mode v.mode w.mode p.mode q.mode in
    let o_integer_digits = ordered d.integer_digits v.integer_digits w.integer_digits p.integer_digits q.integer_digits in
    let o_scale = ordered d.scale v.scale w.scale p.scale q.scale in
    let o_grouping = ordered d.grouping v.grouping w.grouping p.grouping q.grouping in
    let o_system = ordered d.system v.system w.system p.system q.system in
    let o_signs = ordered d.signs v.signs w.signs p.signs q.signs in
    let o_decimal = ordered d.decimal v.decimal w.decimal p.decimal q.decimal in
    record {
      second = free_to d w (record {
        notation = o_notation.second;
        unit = o_unit.second;
        width = o_width.second;
        digits = o_digits.second;
        mode =
            o_mode.second;
        integer_digits = o_integer_digits.second;
        scale = o_scale.second;
        grouping = o_grouping.second;
        system = o_system.second;
        signs =
            o_signs.second;
        decimal = o_decimal.second;
      });
      first = free_to (merged d w) v (record {
        notation = o_notation.first;
        unit = o_unit.first;
        width = o_width.first;
        digits = o_digits.first;
        mode =
            o_mode.first;
        integer_digits = o_integer_digits.first;
        scale = o_scale.first;
        grouping = o_grouping.first;
        system = o_system.first;
        signs =
            o_signs.first;
        decimal = o_decimal.first;
      });
      same = rw (
        o_notation.same,
        o_unit.same,
        o_width.same,
        o_digits.same,
        o_mode.same,
        o_integer_digits.same,
        o_scale.same,
        o_grouping.same,
        o_system.same,
        o_signs.same,
        o_decimal.same,
      ) refl;
    }

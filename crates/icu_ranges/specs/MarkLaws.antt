-- That events are marked one after another. It stands here and not in proofs/ because the impl of `EventWriter` cites it.
use Rattle.std.proofs.Common.{◌≡◌, ℕ, Bool, List, [], ◌∷◌, ◌++◌, Result, Ok, Err, refl, sym, ap, ◌∙◌, append_assoc}
use Rattle.std.specs.Prelude.{OnOk}
use Rattle.writeable.specs.Events.{Event}
use Rattle.writeable.specs.declared.sink.WriteFault.{WriteFault}
use Rattle.icu_ranges.specs.Approximately.{leaves_out, leaves_out_after, marked, marked_event}

-- of two lists of events, the second as the first leaves it
pub marked-append : (sign : List ℕ) (alone left_out : Bool) (es fs : List Event) →
    marked sign alone left_out (es ++ fs) ≡ marked sign alone left_out es ++ marked sign alone (leaves_out_after alone left_out es) fs
marked-append sign alone left_out [] fs = refl
marked-append sign alone left_out (e ∷ es) fs =
    ap (λ l. marked_event sign alone left_out e ++ l) (marked-append sign alone (leaves_out alone left_out e) es fs)
    ∙ sym (append_assoc (marked_event sign alone left_out e) (marked sign alone (leaves_out alone left_out e) es)
    (marked sign alone (leaves_out_after alone (leaves_out alone left_out e) es) fs))

-- the state behind two lists of events
pub leaves_out_after-append : (alone left_out : Bool) (es fs : List Event) →
    leaves_out_after alone left_out (es ++ fs) ≡ leaves_out_after alone (leaves_out_after alone left_out es) fs
leaves_out_after-append alone left_out [] fs = refl
leaves_out_after-append alone left_out (e ∷ es) fs = leaves_out_after-append alone (leaves_out alone left_out e) es fs

-- the same where the second state is known by equations
pub marked_then : (sign later : List ℕ) (alone also left_out next : Bool) (es fs : List Event) → later ≡ sign → also ≡ alone →
    next ≡ leaves_out_after alone left_out es →
    marked sign alone left_out es ++ marked later also next fs ≡ marked sign alone left_out (es ++ fs)
marked_then sign later alone also left_out next es fs same_sign same is =
    rw (same_sign, same, is) (sym (marked-append sign alone left_out es fs))

pub left_out_then : (r : Result (Unit {0}) WriteFault) (alone also left_out next last : Bool) (es fs : List Event) → also ≡ alone →
    next ≡ leaves_out_after alone left_out es → OnOk r (last ≡ leaves_out_after also next fs) →
    OnOk r (last ≡ leaves_out_after alone left_out (es ++ fs))
left_out_then (Ok x) alone also left_out next last es fs same is h =
    h ∙ rw (same, is) (sym (leaves_out_after-append alone left_out es fs))
left_out_then (Err e) alone also left_out next last es fs same is h = tt

-- what would be marked behind events that failed
pub marked_stop : (sign : List ℕ) (alone left_out : Bool) (es fs : List Event) →
    marked sign alone left_out es ++ marked sign alone (leaves_out_after alone left_out es) fs ≡ marked sign alone left_out (es ++ fs)
marked_stop sign alone left_out es fs = sym (marked-append sign alone left_out es fs)

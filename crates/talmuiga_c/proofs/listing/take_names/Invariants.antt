use Rattle.std.proofs.Common.{◌≡◌, map, drop}
use Rattle.serde_json.specs.View.{view}
use Rattle.talmuiga_c.specs.Listing.{with_names}
use Rattle.talmuiga_c.proofs.listing.take_names.Given as goal

-- the names so far and those of the values that are left are all
abbrev pub invariant-loop-value : goal.invariant-loop-value
invariant-loop-value l = with_names l.member (map (λ text. text.now) l.names.items) (map view (drop l.value-index l.values))
    ≡ with_names l.member (map (λ text. text.now) l.initial.names.items) (map view l.values)

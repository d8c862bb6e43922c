use Rattle.std.proofs.Common.{◌≡◌, ◌⊎◌, ◌+◌, ◌*◌, ◌<◌, ◌≤◌, ◌∷◌, ◌++◌, [], All, length, vec_len, vec_capacity}
use Rattle.writeable.specs.Counted.{IsDue}
use Rattle.writeable.specs.Groups.{cut, joined, joined_after, group_texts}
use Rattle.writeable.proofs.byte_groups.push_thousands.Given as goal

-- a group begins where nothing is left or whole groups are; with those that are left, all is there
abbrev pub invariant-groups : goal.invariant-groups
invariant-groups l = record {
  due : (l.rest ≡ []) ⊎ IsDue 3 3 (length l.rest);
  below_ten : All (λ d. d < 10) l.rest;
  room : vec_len l.out + 2 * length l.rest ≤ vec_capacity l.out;
  rest_ends : l.out.items ++ joined_after (l.separator ∷ []) (group_texts l.characters (cut 3 3 l.rest)) ≡ l.fn.out.items
      ++ joined (l.separator ∷ []) (group_texts l.characters (cut 3 3 l.digits));
}

abbrev pub decreases-groups : goal.decreases-groups
decreases-groups l = length l.rest

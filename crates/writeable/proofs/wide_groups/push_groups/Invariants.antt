use Rattle.std.proofs.Common.{◌≡◌, ◌⊎◌, ◌+◌, ◌*◌, ◌<◌, ◌≤◌, ◌++◌, [], All, length, vec_len, vec_capacity}
use Rattle.std.specs.Str.{IsUtf8}
use Rattle.writeable.specs.Counted.{IsDue}
use Rattle.writeable.specs.Groups.{cut, joined, joined_after, group_texts}
use Rattle.writeable.proofs.wide_groups.push_groups.Given as goal

-- a group begins where nothing is left or whole groups are; with those that are left, all is there
abbrev pub invariant-groups : goal.invariant-groups
invariant-groups l = record {
  due : (l.rest ≡ []) ⊎ IsDue l.primary l.secondary (length l.rest);
  below_ten : All (λ d. d < 10) l.rest;
  room : vec_len l.out + length l.rest * (l.width + length l.grouping.separator.now) ≤ vec_capacity l.out;
  is_text : IsUtf8 l.fn.out.items → IsUtf8 l.out.items;
  rest_ends : l.out.items ++ joined_after l.grouping.separator.now (group_texts l.characters (cut l.primary l.secondary l.rest)) ≡ l.fn.out.items
      ++ joined l.grouping.separator.now (group_texts l.characters (cut l.primary l.secondary l.digits));
}

abbrev pub decreases-groups : goal.decreases-groups
decreases-groups l = length l.rest

use Rattle.std.proofs.Common.{◌≡◌, ◌+◌, ◌++◌, take, vec_len, vec_capacity}
use Rattle.writeable.proofs.wide_groups.push_separator.Given as goal

abbrev pub invariant-loop-index : goal.invariant-loop-index
invariant-loop-index l = (l.out.items ≡ l.initial.out.items ++ take l.index l.bytes) × (vec_len l.out ≡ vec_len l.initial.out + l.index)
    × (vec_capacity l.out ≡ vec_capacity l.initial.out)

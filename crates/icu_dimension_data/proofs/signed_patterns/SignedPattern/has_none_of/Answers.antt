use Rattle.std.proofs.Common.{All, Contains, sym, subst}
use Rattle.icu_dimension_data.proofs.signed_patterns.SignedPattern.has_none_of.Goals as goal

pub returns-then-are_free_of : goal.returns-then-are_free_of
returns-then-are_free_of c = (
  λ e. record {
    before_free = subst (All (λ x. ¬ (Contains c.args.listed.now x))) c.before-2.ensures (c.are_free_of.ensures.0 c.if-are_free_of.true);
    after_free = subst (All (λ x. ¬ (Contains c.args.listed.now x))) c.after.ensures (c.are_free_of-then-are_free_of.ensures.0 e);
  },
  λ h. c.are_free_of-then-are_free_of.ensures.1 (subst (All (λ x. ¬ (Contains c.args.listed.now x))) (sym c.after.ensures) h.after_free),
)

pub returns-else-are_free_of : goal.returns-else-are_free_of
returns-else-are_free_of c = (
  λ e. cc,
  λ h. c.are_free_of.ensures.1 (subst (All (λ x. ¬ (Contains c.args.listed.now x))) (sym c.before-2.ensures) h.before_free),
)

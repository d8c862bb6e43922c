use Rattle.icu_ranges.proofs.laws.ends_are_shown_alone.Goals as goal

-- a number determines what is shown of it
pub returns : goal.returns
returns g c = λ f u v p both. (
  λ n shown. g.met.F.AbstractFormatter.one_shown f u n p.first shown both.0,
  λ n shown. g.met.F.AbstractFormatter.one_shown f v n p.second shown both.1,
)

-- Texts of columns.
use Rattle.std.proofs.Common.{◌≡◌, ℕ, List, [], ◌∷◌, refl}
use Rattle.locnum_lines.specs.declared.padding.Alignment.TheVariants.{Right}
use Rattle.locnum_options.specs.Fields.{positive_number_named}
use Rattle.locnum_options.specs.Padding.{columns_named, padding_named}
use Rattle.locnum_options.specs.Texts.{number_named}
use Rattle.locnum_options.proofs.Cuts.{differs}

-- a text without a hyphen in front is columns whose spaces stand in front
pub padding_named-right : (bs : List ℕ) → ((rest : List ℕ) → ¬ (bs ≡ 45 ∷ rest)) → padding_named bs ≡ columns_named Right bs
unfolding padding_named columns_named positive_number_named number_named
padding_named-right [] no_hyphen = refl
padding_named-right (b ∷ bs) no_hyphen = rw (differs b 45 (λ e. no_hyphen bs (rw e refl))) refl

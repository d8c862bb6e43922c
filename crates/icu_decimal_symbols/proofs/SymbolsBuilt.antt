-- What a builder makes of its texts.
use Rattle.std.proofs.Common.{◌≡◌, ℕ, ◌≤◌, IsTrue, Bor, List, [], ◌∷◌, All}
use Rattle.std.specs.Str.{is_utf8}
use Rattle.std.proofs.lemmas.List.Elements.{All-map}
use Rattle.icu_provider.specs.NumberingSystem.{IsNumberingSystem}
use Rattle.icu_decimal_symbols.specs.Symbols.{texts_of, total_len, IsSymbolTexts}
use Rattle.icu_decimal_symbols.specs.LentTexts.{lent_texts}
use Rattle.icu_decimal_symbols.specs.declared.symbols.DecimalSymbolStrsBuilder.{DecimalSymbolStrsBuilder}
use Rattle.icu_decimal_symbols.specs.SymbolBytes.{packed, texts_in, IsSymbolBytes}
use Rattle.icu_decimal_symbols.proofs.SymbolDamage.{are_bytes, is_only}

-- the seven texts of a builder, behind their references
abbrev pub texts_lent : DecimalSymbolStrsBuilder → List (Bor (List ℕ))
texts_lent b = b.minus_sign_prefix ∷ b.minus_sign_suffix ∷ b.plus_sign_prefix ∷ b.plus_sign_suffix ∷ b.decimal_separator ∷ b.grouping_separator ∷
    b.numsys ∷ []

-- texts that are short and name a system are symbols
pub may_be_built : (b : DecimalSymbolStrsBuilder) → total_len (lent_texts b) ≤ 255 → IsNumberingSystem b.numsys.now →
    All (λ t. IsTrue (is_utf8 t.now)) (texts_lent b) → IsSymbolTexts (lent_texts b)
may_be_built b short system texts = record {
  short = short;
  texts =
      All-map (λ t. IsTrue (is_utf8 t)) (λ (t : Bor (List ℕ)). t.now) (texts_lent b) texts;
  system = system;
}

-- what is built of symbols holds them
pub built : (items : List ℕ) (b : DecimalSymbolStrsBuilder) → items ≡ packed (texts_of (lent_texts b)) → IsSymbolTexts (lent_texts b) →
    IsSymbolBytes items
built items b e h = rw e (are_bytes (lent_texts b) h)

-- and it shows their texts
pub built_is : (items : List ℕ) (b : DecimalSymbolStrsBuilder) → items ≡ packed (texts_of (lent_texts b)) → texts_in items ≡ lent_texts b
built_is items b e = is_only items (lent_texts b) e

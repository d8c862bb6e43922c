use Rattle.std.proofs.Common.{◌≡◌, map, drop, ◌++◌, ◌∷◌, []}
use Rattle.icu_provider.specs.Identifier.{identifier_of}
use Rattle.icu_decimal_data.specs.Decided.{decided}
use Rattle.icu_decimal_data.proofs.fallback.load_with_fallback.Given as goal

-- what is left to ask decides as all do
abbrev pub invariant-loop-id : goal.invariant-loop-id
invariant-loop-id g l =
    decided (map (λ id. g.D.DataProvider.answer l.provider (identifier_of id)) (drop l.id-index l.others ++ l.last ∷ []))
    ≡ decided (map (λ id. g.D.DataProvider.answer l.provider (identifier_of id)) l.ids)

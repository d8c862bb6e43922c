-- Two texts, one after the other, against two others.
use Rattle.std.proofs.Common.{◌≡◌, ◌≢◌, ℕ, List, [], ◌∷◌, ◌++◌, refl, sym, ap, ◌∙◌, append_assoc, chars, encode_utf8_all}
use Rattle.std.proofs.Common.{◌⊎◌, inl, inr}
use Rattle.std.specs.Str.{IsUtf8}
use Rattle.std.proofs.lemmas.List.{append_cancel_left}
use Rattle.std.proofs.lemmas.Str.{chars-append, encodes-chars, IsUtf8-append}

-- of two texts with the same in front, one goes on where the other ends
lined_up : (a b c d : List ℕ) → a ++ b ≡ c ++ d → ((m : List ℕ) × (c ≡ a ++ m)) ⊎ ((m : List ℕ) × (a ≡ c ++ m))
lined_up [] b c d e = inl (c, refl)
lined_up (x ∷ a) b [] d e = inr (x ∷ a, refl)
lined_up (x ∷ a) b (y ∷ c) d e =
    let head : x ≡ y = cc in
    let rest : a ++ b ≡ c ++ d = cc in
    elim (lined_up a b c d rest) [ inl h ↦ inl (h.0, cc (h.1)) | inr h ↦ inr (h.0, cc (h.1)) ]

-- two joined texts are equal only if one front begins with the other
pub not_lined_up : (a b c d : List ℕ) → ((m : List ℕ) → c ≢ a ++ m) → ((m : List ℕ) → a ≢ c ++ m) → a ++ b ≡ c ++ d → ⊥
not_lined_up a b c d h i e = elim (lined_up a b c d e) [ inl x ↦ h x.0 x.1 | inr x ↦ i x.0 x.1 ]

-- where the second begins with the first, what the first goes on with is the rest and the end
pub joined : (a b c d m : List ℕ) → c ≡ a ++ m → b ≡ m ++ d → a ++ b ≡ c ++ d
joined a b c d m is e = ap (λ l. a ++ l) e ∙ sym (append_assoc a m d) ∙ ap (λ l. l ++ d) (sym is)

-- of equal joined texts what is behind the shorter front
pub parted : (a b c d m : List ℕ) → c ≡ a ++ m → a ++ b ≡ c ++ d → b ≡ m ++ d
parted a b c d m is e = append_cancel_left a b (m ++ d) (e ∙ ap (λ l. l ++ d) is ∙ append_assoc a m d)

-- texts have the same bytes where they have the same characters
pub same_characters : (a b c d : List ℕ) → IsUtf8 a → IsUtf8 c → a ++ b ≡ c ++ d → chars a ++ chars b ≡ chars c ++ chars d
same_characters a b c d ua uc e = sym (chars-append a b ua) ∙ ap chars e ∙ chars-append c d uc

-- joined texts with the same characters have the same bytes
pub same_bytes : (a b c d : List ℕ) → IsUtf8 a → IsUtf8 b → IsUtf8 c → IsUtf8 d → chars a ++ chars b ≡ chars c ++ chars d → a ++ b ≡ c ++ d
same_bytes a b c d ua ub uc ud e =
    sym (encodes-chars (a ++ b) (IsUtf8-append a b ua ub)) ∙ ap encode_utf8_all (chars-append a b ua ∙ e ∙ sym (chars-append c d uc))
    ∙ encodes-chars (c ++ d) (IsUtf8-append c d uc ud)

use Rattle.std.proofs.Common.{Bor, [], ◌++◌, ◌∙◌, ◌≡◌, ◌+◌, List, ℕ, ap, append_assoc, sym, map, take, get_or, IsTrue, subst}
use Rattle.std.specs.List.{concat}
use Rattle.std.specs.Str.{is_utf8, IsUtf8}
use Rattle.std.proofs.lemmas.List.Elements.{All-more}
use Rattle.std.proofs.lemmas.Slice.{pushed}
use Rattle.std.proofs.lemmas.Str.{is_utf8-from_IsUtf8}
use Rattle.icu_decimal_symbols.proofs.SymbolReading.{concat_more}
use Rattle.icu_decimal_symbols.proofs.symbol_bytes.with_texts.Goals as goal

pub loop-text-preserved : goal.loop-text-preserved
loop-text-preserved c =
    let xs = c.args.texts.now in
    let i = c.loop-text.text-index in
    let d : Bor (List ℕ) = record { ref_ptr = (0, 0); now = [] } in
    let text = get_or xs i d in
    let first = c.args.bytes.items in
    let before = concat (map (λ (t : Bor (List ℕ)). t.now) (take i xs)) in
    let value : c.as_bytes.result.now ≡ text.now = c.as_bytes.ensures.value in
    let is : c.extend_from_slice.new.self.items ≡ (first ++ before) ++ c.as_bytes.result.now =
    pushed c.as_bytes.result.now c.loop-text.invariant.0 c.in_ok-extend_from_slice.was c.extend_from_slice.ensures.items in
    let all : c.extend_from_slice.new.self.items ≡ first ++ concat (map (λ (t : Bor (List ℕ)). t.now) (take (i + 1) xs)) =
    is ∙ append_assoc first before c.as_bytes.result.now ∙ ap (λ (r : List ℕ). first ++ (before ++ r)) value
    ∙ ap (λ (r : List ℕ). first ++ r) (sym (concat_more xs i d c.loop-text-test.true)) in (
      all,
      All-more (λ (t : Bor (List ℕ)). IsTrue (is_utf8 t.now)) xs i d c.loop-text-test.true c.loop-text.invariant.1
          (is_utf8-from_IsUtf8 text.now (subst (λ (r : List ℕ). IsUtf8 r) value c.as_bytes.ensures.utf8)),
    )

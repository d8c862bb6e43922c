-- The records: what is read is written so, and what is written is read.
-- Two inductions over the records, `records_taken` (read) and `records_again` (written), stand on `record_taken` and `record_again` for one
-- record, which put type and exponent before the slots of SlotListLaws. The check compares a record with the bytes before it, and a table an entry
-- with the entry before it; both inductions carry `IsBefore`, that bytes and entry agree, and `follows_passes` and `passes_follows` go
-- between the two. The pool stays whole, as slots name places in it: `sum` is where the literals of the records that are left begin.
use Rattle.std.proofs.Common.{◌≡◌, ℕ, zero, suc, ◌+◌, ◌-◌, ◌*◌, ◌<◌, ◌≤◌, ◌^◌, Bool, true, false, ◌&&◌, ◌||◌, List}
use Rattle.std.proofs.Common.{[], ◌∷◌, ◌++◌, length, take, drop, slice_index, slice_range, Option, Some, None, Result, Ok, ltb, refl, sym, ap}
use Rattle.std.proofs.Common.{◌∙◌, arith, subst}
use Rattle.std.specs.Prelude.{⊤}
use Rattle.std.proofs.lemmas.Bool.{ltb-false, le-ltb, leb-false, lt-leb, or_parts}
use Rattle.std.proofs.lemmas.List.{length-append, append_assoc, length-take, length-drop, take_at, drop_at, drop-drop, take_all}
use Rattle.std.proofs.Math.Seq.{take-add}
use Rattle.icu_pattern.specs.Patterns.{PatternText, same_pattern}
use Rattle.icu_decimal_data.specs.PackedTable.{IsBackend}
use Rattle.icu_plurals.specs.Elements.{slots}
use Rattle.icu_decimal_data.specs.CompactTable.{TableEntry}
use Rattle.icu_decimal_data.specs.PackedTable.{Follows, IsEntry, AreEntries, ArePatterns, slot_literals, literals}
use Rattle.icu_decimal_data.specs.TableReading.{same_slots, slots_without_explicit_one}
use Rattle.icu_decimal_data.specs.Kept.{repeats}
use Rattle.icu_decimal_data.specs.TableBytes.{slots_bytes, record_bytes, records_bytes}
use Rattle.icu_decimal_data.specs.TableReading.{slots_in, entry_in, entries_in, unless, ◌>>=◌, slots_step, is_wrong_type, is_falling, is_wrong_exponent}
use Rattle.icu_decimal_data.specs.TableReading.{is_repeated, record_step, records_step}
use Rattle.icu_decimal_data.proofs.TableBasics.{IsBytes, IsBytes-drop, IsBytes-take, bind_ok, unless_ok, ok_is, range_split}
use Rattle.icu_decimal_data.proofs.SlotListLaws.{TakenSlots, slots_taken, slots_again, length-slots, slots_are, elements_are}

-- a record's bytes stand for an entry
pub record IsRecord (pool bytes : List ℕ) (e : TableEntry) : Type 0 where
  pub log10_type : slice_index bytes 0 ≡ e.log10_type
  pub exponent : slice_index bytes 1 ≡ e.exponent
  pub elements : slots_in pool 8 (drop 2 bytes) ≡ slots e.elements

-- the same of a record and an entry before, if there are any
abbrev pub IsBefore : List ℕ → Option (List ℕ) → Option TableEntry → Type 0
IsBefore pool None None = ⊤
IsBefore pool None (Some e) = ⊥
IsBefore pool (Some bytes) None = ⊥
IsBefore pool (Some bytes) (Some e) = IsRecord pool bytes e

-- a record passes the tests that compare it with the one before, if there is one
pub record Passes (pool : List ℕ) (before : Option (List ℕ)) (bytes : List ℕ) : Type 0 where
  pub rises : is_wrong_type before bytes ≡ false
  pub holds : is_falling before bytes ≡ false
  pub differs : is_repeated pool before bytes ≡ false

-- how long the records are
pub length-records : (start : ℕ) (es : List TableEntry) → length (records_bytes start es) ≡ 58 * length es
length-records start [] = refl
length-records start (e ∷ es) =
    omega (
      arith,
      length-append (record_bytes start e) (records_bytes (start + length (slot_literals (slots e.elements))) es),
      length-records (start + length (slot_literals (slots e.elements))) es,
      length-slots start (slots e.elements),
    )

and_true_is : (b : Bool) → (b && true) ≡ b
and_true_is true = refl
and_true_is false = refl

-- the slots of an entry repeat those of another just where the entry does
repeats_is : (before e : TableEntry) → same_slots (slots_without_explicit_one (slots before.elements)) (slots e.elements) ≡ repeats before e
repeats_is before e = rw (and_true_is (same_pattern before.elements.other e.elements.other)) refl

follows_passes : (pool : List ℕ) (before : Option (List ℕ)) (b : Option TableEntry) (bytes : List ℕ) (e : TableEntry) → IsBefore pool before b →
    IsRecord pool bytes e → Follows b e → Passes pool before bytes
follows_passes pool None None bytes e h r f = record { rises = refl; holds = refl; differs = refl }
follows_passes pool None (Some b) bytes e h r f = absurd h
follows_passes pool (Some before) None bytes e h r f = absurd h
follows_passes pool (Some before) (Some b) bytes e h r f = record {
  rises = lt-leb _ _ (omega (arith, h.log10_type, r.log10_type, f.0));
  holds = le-ltb _ _ (omega (arith, h.exponent, r.exponent, f.1));
  differs = ap (λ (xs : List (Option PatternText)). same_slots (slots_without_explicit_one xs) (slots_in pool 8 (drop 2 bytes))) h.elements
      ∙ ap (λ (xs : List (Option PatternText)). same_slots (slots_without_explicit_one (slots b.elements)) xs) r.elements ∙ repeats_is b e ∙ f.2;
}

passes_follows : (pool : List ℕ) (before : Option (List ℕ)) (b : Option TableEntry) (bytes : List ℕ) (e : TableEntry) → IsBefore pool before b →
    IsRecord pool bytes e → Passes pool before bytes → Follows b e
passes_follows pool None None bytes e h r p = tt
passes_follows pool None (Some b) bytes e h r p = absurd h
passes_follows pool (Some before) None bytes e h r p = absurd h
passes_follows pool (Some before) (Some b) bytes e h r p =
    let low = leb-false _ _ p.rises in
    let level = ltb-false _ _ p.holds in (
      omega (arith, h.log10_type, r.log10_type, low),
      omega (arith, h.exponent, r.exponent, level),
      sym (repeats_is b e) ∙ ap (λ (xs : List (Option PatternText)). same_slots (slots_without_explicit_one (slots b.elements)) xs) (sym r.elements)
          ∙ ap (λ (xs : List (Option PatternText)). same_slots (slots_without_explicit_one xs) (slots_in pool 8 (drop 2 bytes))) (sym h.elements)
          ∙ p.differs,
    )

-- ---- one record

-- what is known of a record that was read
pub record TakenRecord (accepts : PatternText → Bool) (pool : List ℕ) (b : Option TableEntry) (sum : ℕ) (bytes : List ℕ) (e : TableEntry)
    (next : ℕ) : Type 0 where
  pub written : record_bytes sum e ≡ bytes
  pub is_record : IsRecord pool bytes e
  pub entry : IsEntry accepts e
  pub follows : Follows b e
  pub next_is : next ≡ sum + length (slot_literals (slots e.elements))
  pub in_pool : slice_range pool sum next ≡ slot_literals (slots e.elements)
  pub inside : next ≤ length pool

front_two : (bytes : List ℕ) → length bytes ≡ 58 → bytes ≡ slice_index bytes 0 ∷ slice_index bytes 1 ∷ drop 2 bytes
front_two [] h = absurd (omega arith)
front_two (x ∷ []) h = absurd (omega arith)
front_two (x ∷ y ∷ bytes) h = refl

module _ (accepts : PatternText → Bool) (pool : List ℕ) (pool_at : ℕ) where
  pub record_taken : (before : Option (List ℕ)) (b : Option TableEntry) (at sum : ℕ) (bytes : List ℕ) (next : ℕ) → length bytes ≡ 58 →
      IsBytes bytes → IsBefore pool before b → sum ≤ length pool → record_step accepts pool pool_at before at sum bytes ≡ Ok next →
      TakenRecord accepts pool b sum bytes (entry_in pool bytes) next
  unfolding record_step
  record_taken before b at sum bytes next len fits is_before le e =
      let a = unless_ok (is_wrong_type before bytes) at _ next e in
      let c = unless_ok (is_wrong_exponent before bytes) (at + 1) _ next a.1 in
      let d = bind_ok (slots_step accepts pool pool_at 8 (at + 2) sum (drop 2 bytes)) (λ mid. unless (is_repeated pool before bytes) at (Ok mid)) next c.1 in
      let f = unless_ok (is_repeated pool before bytes) at (Ok d.0) next d.2 in
      let same : d.0 ≡ next = ok_is d.0 next f.1 in
      let t : TakenSlots accepts pool 8 sum (drop 2 bytes) d.0 =
      slots_taken accepts pool pool_at 8 (at + 2) sum (drop 2 bytes) d.0 (omega (arith, length-drop 2 bytes)) (IsBytes-drop 2 bytes fits) le d.1 in
      let entry = entry_in pool bytes in
      let ss : slots entry.elements ≡ slots_in pool 8 (drop 2 bytes) = slots_are pool (drop 2 bytes) t.last in
      let whole : take 56 (drop 2 bytes) ≡ drop 2 bytes = take_all 56 (drop 2 bytes) (omega (arith, length-drop 2 bytes)) in
      let w0 = or_parts (ltb (slice_index bytes 0) (slice_index bytes 1)) _ c.0 in
      let w1 = or_parts (ltb 15 (slice_index bytes 0 - slice_index bytes 1)) _ w0.1 in
      let below = ltb-false _ _ w0.0 in
      let few = ltb-false _ _ w1.0 in
      let r : IsRecord pool bytes entry = record { log10_type = refl; exponent = refl; elements = sym ss } in
      let inner : slots_bytes sum (slots entry.elements) ≡ drop 2 bytes = ap (slots_bytes sum) ss ∙ t.written ∙ whole in
      let P : List (Option PatternText) → Type 0 = λ xs. ArePatterns accepts xs in
      record {
        written = ap (λ (x : List ℕ). slice_index bytes 0 ∷ slice_index bytes 1 ∷ x) inner ∙ sym (front_two bytes len);
        is_record = r;
        entry = record { is_byte = fits 0; below = below; few_zeros = omega (arith, few, below); patterns = subst P (sym ss) t.patterns };
        follows = passes_follows pool before b bytes entry is_before r (record { rises = a.0; holds = w1.1; differs = f.0 });
        next_is = sym same ∙ t.next_is ∙ ap (λ (xs : List (Option PatternText)). sum + length (slot_literals xs)) (sym ss);
        in_pool = ap (λ (k : ℕ). slice_range pool sum k) (sym same) ∙ t.literals ∙ ap slot_literals (sym ss);
        inside = omega (arith, t.inside, same);
      }

  -- a record has 58 bytes
  pub length-record : (sum : ℕ) (e : TableEntry) → length (record_bytes sum e) ≡ 58
  length-record sum e = omega (arith, length-slots sum (slots e.elements))

  pub record_again : (before : Option (List ℕ)) (b : Option TableEntry) (at sum : ℕ) (e : TableEntry) (after : List ℕ) → IsBackend accepts →
      IsBefore pool before b → IsEntry accepts e → Follows b e → length pool < 2 ^ 16 → sum ≤ length pool →
      drop sum pool ≡ slot_literals (slots e.elements) ++ after
      → (record_step accepts pool pool_at before at sum (record_bytes sum e) ≡ Ok (sum + length (slot_literals (slots e.elements))))
      × IsRecord pool (record_bytes sum e) e
  unfolding record_step
  record_again before b at sum e after backend is_before entry follows small le here =
      let ss = slots e.elements in
      let nothing : slots_bytes sum ss ++ [] ≡ slots_bytes sum ss = append-nil (slots_bytes sum ss) in
      let s = slots_again accepts pool pool_at ss (at + 2) sum [] after backend entry.patterns refl small le here in
      let back : slots_in pool 8 (slots_bytes sum ss) ≡ ss = ap (slots_in pool 8) (sym nothing) ∙ s.1 in
      let step : slots_step accepts pool pool_at 8 (at + 2) sum (slots_bytes sum ss) ≡ Ok (sum + length (slot_literals ss)) =
      ap (slots_step accepts pool pool_at 8 (at + 2) sum) (sym nothing) ∙ s.0 in
      let r : IsRecord pool (record_bytes sum e) e = record { log10_type = refl; exponent = refl; elements = back } in
      let p = follows_passes pool before b (record_bytes sum e) e is_before r follows in
      let w0 : ltb e.log10_type e.exponent ≡ false = le-ltb _ _ entry.below in
      let w1 : ltb 15 (e.log10_type - e.exponent) ≡ false = le-ltb _ _ (omega (arith, entry.few_zeros)) in
      let rises = p.rises in
      let holds = p.holds in
      let differs = p.differs in
      let wrong : is_wrong_exponent before (record_bytes sum e) ≡ false = three_false _ _ _ w0 w1 holds in (
        ap (λ (x : Bool). unless x at (unless (is_wrong_exponent before (record_bytes sum e)) (at + 1)
            (slots_step accepts pool pool_at 8 (at + 2) sum (slots_bytes sum ss) >>= λ next. unless (is_repeated pool before (record_bytes sum e)) at
            (Ok next)))) rises
            ∙ ap (λ (x : Bool). unless x (at + 1) (slots_step accepts pool pool_at 8 (at + 2) sum (slots_bytes sum ss) >>= λ next. unless
            (is_repeated pool before (record_bytes sum e)) at (Ok next))) wrong
            ∙ ap (λ (x : Result ℕ ℕ). x >>= λ next. unless (is_repeated pool before (record_bytes sum e)) at (Ok next)) step
            ∙ ap (λ (x : Bool). unless x at (Ok (sum + length (slot_literals ss)))) differs,
        r,
      )
    where
      append-nil : (y : List ℕ) → y ++ [] ≡ y
      append-nil [] = refl
      append-nil (x ∷ y) = ap (λ (z : List ℕ). x ∷ z) (append-nil y)

      three_false : (x y z : Bool) → x ≡ false → y ≡ false → z ≡ false → (x || (y || z)) ≡ false
      three_false x y z a b c = rw (a, b, c) refl

  -- ---- many records

  pub record TakenRecords (b : Option TableEntry) (n sum : ℕ) (bytes : List ℕ) (next : ℕ) : Type 0 where
    pub written : records_bytes sum (entries_in pool n bytes) ≡ take (58 * n) bytes
    pub entries : AreEntries accepts b (entries_in pool n bytes)
    pub next_is : next ≡ sum + length (literals (entries_in pool n bytes))
    pub in_pool : slice_range pool sum next ≡ literals (entries_in pool n bytes)
    pub inside : next ≤ length pool
    pub shown : (i : ℕ) → i < n → IsRecord pool (take 58 (drop (58 * i) bytes)) (entry_in pool (take 58 (drop (58 * i) bytes)))

  -- the first record, and those behind it
  shown_more : (n : ℕ) (bytes : List ℕ) → IsRecord pool (take 58 bytes) (entry_in pool (take 58 bytes)) →
      ((i : ℕ) → i < n → IsRecord pool (take 58 (drop (58 * i) (drop 58 bytes))) (entry_in pool (take 58 (drop (58 * i) (drop 58 bytes)))))
      → (i : ℕ) → i < suc n → IsRecord pool (take 58 (drop (58 * i) bytes)) (entry_in pool (take 58 (drop (58 * i) bytes)))
  shown_more n bytes one rest zero h = one
  shown_more n bytes one rest (suc i) h =
      let more : 58 + 58 * i ≡ 58 * suc i = omega arith in
      subst (λ (x : List ℕ). IsRecord pool (take 58 x) (entry_in pool (take 58 x))) (drop-drop (58 * i) 58 bytes ∙ ap (λ (k : ℕ). drop k bytes) more)
      (rest i (omega arith))

  -- records that are passed are written of their entries
  pub records_taken : (n : ℕ) (before : Option (List ℕ)) (b : Option TableEntry) (at sum : ℕ) (bytes : List ℕ) (next : ℕ) →
      58 * n ≤ length bytes → IsBytes bytes → IsBefore pool before b → sum ≤ length pool →
      records_step accepts pool pool_at n before at sum bytes ≡ Ok next → TakenRecords b n sum bytes next
  unfolding records_step
  records_taken zero before b at sum bytes next long fits is_before le e =
      let same : sum ≡ next = ok_is sum next e in
      let none : sum - sum ≡ 0 = omega arith in
      let nothing : slice_range pool sum sum ≡ [] = rw none refl in
      record {
        written = refl;
        entries = tt;
        next_is = omega arith;
        in_pool = rw (← same) nothing;
        inside = omega arith;
        shown =
            λ i h. absurd (omega arith);
      }
  records_taken (suc n) before b at sum bytes next long fits is_before le e =
      let a = bind_ok (record_step accepts pool pool_at before at sum (take 58 bytes))
      (λ mid. records_step accepts pool pool_at n (Some (take 58 bytes)) (at + 58) mid (drop 58 bytes)) next e in
      let mid = a.0 in
      let entry = entry_in pool (take 58 bytes) in
      let es = entries_in pool n (drop 58 bytes) in
      let lits = slot_literals (slots entry.elements) in
      let one : TakenRecord accepts pool b sum (take 58 bytes) entry mid =
      record_taken before b at sum (take 58 bytes) mid (omega (arith, length-take 58 bytes)) (IsBytes-take 58 bytes fits) is_before le a.1 in
      let rest : TakenRecords (Some entry) n mid (drop 58 bytes) next =
      records_taken n (Some (take 58 bytes)) (Some entry) (at + 58) mid (drop 58 bytes) next (omega (arith, length-drop 58 bytes))
      (IsBytes-drop 58 bytes fits) one.is_record one.inside a.2 in
      let count : 58 * suc n ≡ 58 + 58 * n = omega arith in
      let tail : records_bytes (sum + length lits) es ≡ take (58 * n) (drop 58 bytes) =
      ap (λ (k : ℕ). records_bytes k es) (sym one.next_is) ∙ rest.written in
      let low : sum ≤ mid = omega (arith, one.next_is) in
      let high : mid ≤ next = omega (arith, rest.next_is) in
      record {
        written = ap (λ (r : List ℕ). r ++ records_bytes (sum + length lits) es) one.written ∙ ap (λ (r : List ℕ). take 58 bytes ++ r) tail
            ∙ sym (take-add 58 (58 * n) bytes) ∙ ap (λ (k : ℕ). take k bytes) (sym count);
        entries = (one.entry, one.follows, rest.entries);
        next_is = omega (arith, one.next_is, rest.next_is, length-append lits (literals es));
        in_pool = range_split pool sum mid next low high ∙ ap (λ (r : List ℕ). r ++ slice_range pool mid next) one.in_pool
            ∙ ap (λ (r : List ℕ). lits ++ r) rest.in_pool;
        inside = rest.inside;
        shown = shown_more n bytes one.is_record rest.shown;
      }

  -- what is written of entries is passed, and those entries stand in it
  pub records_again : (es : List TableEntry) (before : Option (List ℕ)) (b : Option TableEntry) (at sum : ℕ) (rest after : List ℕ) →
      IsBackend accepts → IsBefore pool before b → AreEntries accepts b es → length pool < 2 ^ 16 → sum ≤ length pool →
      drop sum pool ≡ literals es ++ after
      → (records_step accepts pool pool_at (length es) before at sum (records_bytes sum es ++ rest) ≡ Ok (sum + length (literals es)))
      × (entries_in pool (length es) (records_bytes sum es ++ rest) ≡ es)
  unfolding records_step
  records_again [] before b at sum rest after backend is_before entries small le here = (let e : sum + 0 ≡ sum = omega arith in rw e refl, refl)
  records_again (e ∷ es) before b at sum rest after backend is_before entries small le here =
      let lits = slot_literals (slots e.elements) in
      let next = sum + length lits in
      let all : records_bytes sum (e ∷ es) ++ rest ≡ record_bytes sum e ++ (records_bytes next es ++ rest) =
      append_assoc (record_bytes sum e) (records_bytes next es) rest in
      let front : take 58 (records_bytes sum (e ∷ es) ++ rest) ≡ record_bytes sum e =
      ap (λ (r : List ℕ). take 58 r) all ∙ take_at (record_bytes sum e) (records_bytes next es ++ rest) 58 (length-record sum e) in
      let back : drop 58 (records_bytes sum (e ∷ es) ++ rest) ≡ records_bytes next es ++ rest =
      ap (λ (r : List ℕ). drop 58 r) all ∙ drop_at (record_bytes sum e) (records_bytes next es ++ rest) 58 (length-record sum e) in
      let pooled : drop sum pool ≡ lits ++ (literals es ++ after) = here ∙ append_assoc lits (literals es) after in
      let room : next ≤ length pool = omega (arith, length-drop sum pool, ap length pooled, length-append lits (literals es ++ after)) in
      let after_it : drop next pool ≡ literals es ++ after =
      sym (drop-drop (length lits) sum pool) ∙ ap (λ (r : List ℕ). drop (length lits) r) pooled
      ∙ drop_at lits (literals es ++ after) (length lits) refl in
      let one = record_again before b at sum e (literals es ++ after) backend is_before entries.0 entries.1 small le pooled in
      let tail = records_again es (Some (record_bytes sum e)) (Some e) (at + 58) next rest after backend one.1 entries.2 small room after_it in
      let end : next + length (literals es) ≡ sum + length (literals (e ∷ es)) = omega (arith, length-append lits (literals es)) in
      let itself : entry_in pool (record_bytes sum e) ≡ e = same_entry (record_bytes sum e) e one.1 in
      let step : records_step accepts pool pool_at (suc (length es)) before at sum (records_bytes sum (e ∷ es) ++ rest)
      ≡ (record_step accepts pool pool_at before at sum (record_bytes sum e) >>= λ mid. records_step accepts pool pool_at (length es)
      (Some (record_bytes sum e)) (at + 58) mid (records_bytes next es ++ rest))
      = ap (λ (r : List ℕ). record_step accepts pool pool_at before at sum r >>= λ mid. records_step accepts pool pool_at (length es) (Some r) (at + 58) mid
      (drop 58 (records_bytes sum (e ∷ es) ++ rest))) front
      ∙ ap (λ (r : List ℕ). record_step accepts pool pool_at before at sum (record_bytes sum e) >>= λ mid. records_step accepts pool pool_at (length es)
      (Some (record_bytes sum e)) (at + 58) mid r) back in (
        step ∙ ap (λ (x : Result ℕ ℕ). x >>= λ mid. records_step accepts pool pool_at (length es) (Some (record_bytes sum e)) (at + 58) mid
            (records_bytes next es ++ rest)) one.0 ∙ tail.0 ∙ ap (λ (k : ℕ). Ok k) end,
        ap (λ (r : List ℕ). entry_in pool r ∷ entries_in pool (length es) (drop 58 (records_bytes sum (e ∷ es) ++ rest))) front
            ∙ ap (λ (r : List ℕ). entry_in pool (record_bytes sum e) ∷ entries_in pool (length es) r) back
            ∙ ap (λ (x : TableEntry). x ∷ entries_in pool (length es) (records_bytes next es ++ rest)) itself
            ∙ ap (λ (xs : List TableEntry). e ∷ xs) tail.1,
      )
    where
      same_entry : (bytes : List ℕ) (e : TableEntry) → IsRecord pool bytes e → entry_in pool bytes ≡ e
      same_entry bytes e r =
          let t = r.log10_type in
          let x = r.exponent in
          let y = elements_are pool (drop 2 bytes) e.elements r.elements in
          λ i. record { log10_type = t i; exponent = x i; elements = y i }

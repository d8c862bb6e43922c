-- The tables that are read for one locale.
-- The loop goes forwards, and `entries_at` recurses on what is left. So the invariant `GoesOn` is about every rest: however it
-- is read, the whole is read as what was read so far and then that; at the end the rest is empty. Of each list the entries of the
-- locale are kept, and by induction on it the first entry with an identifier of the locale is among them (`first_filed-filter`).
-- A member of a document replaces an earlier one of the same name: what is kept under its own key comes from serde_json's
-- `get_member-put`, what is kept under the other four keys from its `get_member-put_other`.
use Rattle.std.proofs.Common.{◌≡◌, ℕ, ◌+◌, ◌<◌, Bool, true, false, List, [], ◌∷◌, ◌++◌, length, Option}
use Rattle.std.proofs.Common.{Some, None, option_and_then, Result, Ok, Err, nat_eq, refl, sym, ap, ◌∙◌, cond, true≢false, arith, append_assoc}
use Rattle.std.proofs.Math.Bool.{and-false}
use Rattle.std.proofs.lemmas.Cmp.{nat_list_eq_equiv}
use Rattle.std.proofs.lemmas.List.{append-nil}
use Rattle.std.proofs.lemmas.List.Elements.{filter-append}
use Rattle.std.specs.Cmp.Lexicographic.{pointwise}
use Rattle.std.specs.Prelude.{OnOk}
use Rattle.std.specs.List.{filter}
use Rattle.json.specs.Lex.{tokens}
use Rattle.json.specs.Token.{Token}
use Rattle.json.specs.Json as json
use Rattle.json.specs.Json.{after_end_array, read_key}
use Rattle.json.proofs.Grammar.{read_key-shorter}
use Rattle.serde_json.specs.Data.{Data, array, object, Members, put}
use Rattle.serde_json.specs.Find.{get_member}
use Rattle.serde_json.specs.Read.{converted, of_json, read as read_text}
use Rattle.serde_json.specs.View.{items_of}
use Rattle.serde_json.specs.Written.{has_float, members_have_float}
use Rattle.serde_json.proofs.Views.{get_member-put, get_member-put_other}
use Rattle.icu_decimal_data.specs.declared.decimal_symbols.DecimalSymbols.{DecimalSymbols}
use Rattle.icu_decimal_data.specs.CompactTable.{TableEntry}
use Rattle.icu_plurals.specs.Rules.{Rule}
use Rattle.icu_provider.specs.Identifier.{Identifier}
use Rattle.icu_table_entries.specs.Answering.{filed_answer, optional_answer, or_not_found}
use Rattle.icu_tables.specs.ForLocale.{AddsMembers, AnswersAs, AreEntries, FoundData, Holds, HoldsAt, IsFor, IsOnce, IsServed}
use Rattle.icu_tables.specs.Compact.{compact_at}
use Rattle.icu_tables.specs.Digits.{SystemDigits, digits_at, system_answer}
use Rattle.icu_table_entries.specs.Keys.{name_of}
use Rattle.icu_table_entries.specs.Named.{NamedEntry, first_filed, is_of}
use Rattle.icu_tables.specs.Owned.{AreMembersOf, IsValue}
use Rattle.icu_table_entries.specs.Reading.{◌>>=◌, entries_at, entries_in, entries_under, list_in, member_at, object_in, ok_or, optional, optional_at}
use Rattle.icu_tables.specs.Rules.{rules_at}
use Rattle.icu_tables.specs.Symbols.{symbols_at}
use Rattle.icu_tables.specs.Tables.{tables_at, tables_in, tables_of}
use Rattle.icu_table_entries.specs.declared.error.Key.{Key}
use Rattle.icu_table_entries.specs.declared.error.Key.TheVariants.{Symbols, Digits, Rules, Short, Long, Ordinals}
use Rattle.icu_table_entries.specs.declared.error.Position.{Position}
use Rattle.icu_table_entries.specs.declared.error.TableError.{TableError}
use Rattle.icu_table_entries.specs.declared.error.TableError.TheVariants.{NotJson}
use Rattle.icu_table_entries.proofs.Lists.{list_of-items_of}
use Rattle.icu_tables.proofs.OwnedData.{IsValue-shorter, ItemsGoOn, ItemsGoOn-start, ItemsGoOn-item, ItemsGoOn-end, MembersGoOn}
use Rattle.icu_tables.proofs.OwnedData.{MembersGoOn-member, members_have_float-put, object_read, owned_list}
use Rattle.icu_tables.proofs.Turns.{converted_some}

-- ---- entries that are kept

-- an entry, if it is kept
abbrev pub kept_by : {A : Type 0} → Bool → A → List A
kept_by b x = cond b (x ∷ []) []

-- an entry that serves is kept, and one that doesn't isn't
pub kept_if : {A : Type 0} (xs : List A) (x : A) (b : Bool) → b ≡ true → xs ++ x ∷ [] ≡ xs ++ kept_by b x
kept_if xs x b serves = rw serves refl

pub kept_unless : {A : Type 0} (xs : List A) (x : A) (b : Bool) → b ≡ false → xs ≡ xs ++ kept_by b x
kept_unless xs x b serves = rw serves (sym (append-nil xs))

-- What was read and kept so far: whatever the items from the index on are, they go on with it.
abbrev pub GoesOn : {A : Type 0} → (Position → Data → Result A TableError) → (A → Bool) → Key → List Token → ℕ → List Token
    → List A → Type 0
GoesOn {A} read serves key start i ts kept =
    (before : List Data) × (front : List A) × (kept ≡ filter serves front) × ItemsGoOn 125 start ts before
    × ((ds : List Data) (xs : List A) → entries_at read key i ds ≡ Ok xs → entries_at read key 0 (before ++ ds) ≡ Ok (front ++ xs))

module _ {A : Type 0} (read : Position → Data → Result A TableError) (serves : A → Bool) (key : Key) (start : List Token) where
  -- before the first entry nothing was read
  pub begins : GoesOn read serves key start 0 start []
  begins = ([], [], refl, ItemsGoOn-start 125 start, λ ds xs are. are)

  -- an entry more in front of those that are left
  entry_first : (i : ℕ) (d : Data) (x : A) (ds : List Data) (xs : List A) → read (record { key = key; index = i }) d ≡ Ok x
      → entries_at read key (i + 1) ds ≡ Ok xs → entries_at read key i (d ∷ ds) ≡ Ok (x ∷ xs)
  unfolding entries_at
  entry_first i d x ds xs reads rest = rw (reads, rest) refl

  -- an entry is read, and kept if it serves
  pub one_more : (i : ℕ) (ts r : List Token) (kept : List A) (d : Data) (x : A) → after_end_array ts ≡ None → IsValue 125 ts d r
      → read (record { key = key; index = i }) d ≡ Ok x → GoesOn read serves key start i ts kept
      → GoesOn read serves key start (i + 1) r (kept ++ kept_by (serves x) x)
  one_more i ts r kept d x more is reads (before, front, same, items, goes_on) =
      let go : (ds : List Data) (xs : List A) → entries_at read key (i + 1) ds ≡ Ok xs
      → entries_at read key 0 ((before ++ d ∷ []) ++ ds) ≡ Ok ((front ++ x ∷ []) ++ xs) =
      λ ds xs rest. rw (
        append_assoc before (d ∷ []) ds,
        append_assoc front (x ∷ []) xs,
      ) (goes_on (d ∷ ds) (x ∷ xs) (entry_first i d x ds xs reads rest)) in
      let kept_too : kept ++ kept_by (serves x) x ≡ filter serves (front ++ x ∷ []) = rw (filter-append serves front (x ∷ []), same) refl in
      (before ++ d ∷ [], front ++ x ∷ [], kept_too, ItemsGoOn-item 125 start ts r before d more is items, go)

  -- behind the last entry the list is read
  pub all_read : (i : ℕ) (ts r : List Token) (kept : List A) → after_end_array ts ≡ Some r → GoesOn read serves key start i ts kept
      → AreEntries read serves key (Token.begin_array ∷ start) kept r
  unfolding entries_at entries_in list_in
  all_read i ts r kept closed (before, front, same, items, goes_on) =
      let are = ItemsGoOn-end 125 start ts r before closed items in
      let ended = rw (append-nil before, append-nil front) at (goes_on [] [] refl) in
      (array (items_of before), owned_list 126 start (items_of before) r (omega arith) are, (front, rw (list_of-items_of before) ended, same))

-- ---- members

-- texts that a test distinguishes
pub apart : (a b : List ℕ) → pointwise nat_eq a b ≡ false → a ≡ b → ⊥
apart a b tells same = true≢false (sym (nat_list_eq_equiv.refl a) ∙ ap (λ x. pointwise nat_eq a x) same ∙ tells)

module _ {A : Type 0} (read : Position → Data → Result A TableError) (serves : A → Bool) (key : Key) where
  -- what was kept under a key stays, where a member of another name is put
  pub HoldsAt-other : (name : List ℕ) (d : Data) (ds : Members) (kept : Option (List A)) → (name_of key ≡ name → ⊥)
      → HoldsAt read serves key (get_member (name_of key) ds) kept → HoldsAt read serves key (get_member (name_of key) (put name d ds)) kept
  HoldsAt-other name d ds kept other holds = rw (get_member-put_other (name_of key) name d ds other) holds

  -- and is what was kept of the member that was put
  pub HoldsAt-here : (d : Data) (ds : Members) (kept : List A) → IsServed read serves key d kept
      → HoldsAt read serves key (get_member (name_of key) (put (name_of key) d ds)) (Some kept)
  HoldsAt-here d ds kept served = rw (get_member-put (name_of key) d ds) served

  -- a list that was kept is that of a member
  pub HoldsAt-some : (o : Option Data) (kept : List A) → HoldsAt read serves key o (Some kept)
      → (d : Data) × (o ≡ Some d) × IsServed read serves key d kept
  HoldsAt-some None kept holds = absurd holds
  HoldsAt-some (Some d) kept holds = (d, refl, holds)

-- ---- one locale answers as before

module _ {A : Type 0} (locale : List ℕ) (id : Identifier) (same : id.locale ≡ locale) where
  -- one entry more in front, kept or not, makes no difference to which is found
  first_kept : (b : Bool) (e : NamedEntry A) (es : List (NamedEntry A)) → is_of locale e ≡ b
      → first_filed id (filter (is_of locale) es) ≡ first_filed id es
      → first_filed id (cond b (e ∷ filter (is_of locale) es) (filter (is_of locale) es)) ≡ first_filed id (e ∷ es)
  unfolding first_filed
  first_kept true e es of rest = rw rest refl
  first_kept false e es of rest =
      let other : pointwise nat_eq id.locale e.identifier.locale ≡ false = ap (λ x. pointwise nat_eq x e.identifier.locale) same ∙ of in
      rw (other, and-false) rest

  -- by an identifier of the locale the first of all entries is the first of those that are kept
  pub first_filed-filter : (es : List (NamedEntry A)) → first_filed id (filter (is_of locale) es) ≡ first_filed id es
  unfolding first_filed
  first_filed-filter [] = refl
  first_filed-filter (e ∷ es) = first_kept (is_of locale e) e es refl (first_filed-filter es)

-- ---- the whole text

-- what is read is all that there is
all_of : (o : Option (json.Json × List Token)) (d : Data) → converted of_json o ≡ Some (d, [])
    → option_and_then of_json (option_and_then (λ p. json.if_last p.0 p.1) o) ≡ Some d
all_of o d is =
    let j = converted_some of_json o d [] is in
    ap (λ p. option_and_then of_json (option_and_then (λ q. json.if_last q.0 q.1) p)) j.1 ∙ j.2

-- an object that is all that a text has
pub whole_object : (text : List ℕ) (ts : List Token) (ds : Members) → tokens text ≡ Token.begin_object ∷ ts → AreMembersOf 126 ts ds []
    → read_text text ≡ Some (object ds)
whole_object text ts ds first are =
    let opened : converted of_json (json.value 127 (tokens text)) ≡ Some (object ds, []) =
    ap (λ us. converted of_json (json.value 127 us)) first ∙ object_read 127 ts ds [] (omega arith) are in
    all_of (json.value 127 (tokens text)) (object ds) opened

-- ---- the tables of what was kept

-- a filter that keeps all leaves a list as it is
pub filter-all : {A : Type 0} (xs : List A) → filter (λ x. true) xs ≡ xs
filter-all [] = refl
filter-all {A = A} (x ∷ xs) = ap (λ (ys : List A). x ∷ ys) (filter-all xs)

-- what is kept of a list that may be absent
abbrev pub KeptOf : {A : Type 0} → (A → Bool) → Option (List A) → Option (List A) → Type 0
KeptOf serves None None = Unit {0}
KeptOf serves None (Some all) = ⊥
KeptOf serves (Some kept) None = ⊥
KeptOf serves (Some kept) (Some all) = kept ≡ filter serves all

-- a list that may be absent
pub optional_read : {A : Type 0} (read : Position → Data → Result A TableError) (serves : A
    → Bool) (key : Key) (o : Option Data) (kept : Option (List A)) → HoldsAt read serves key o kept
    → (all : Option (List A)) × (optional (entries_in read key) o ≡ Ok all) × KeptOf serves kept all
optional_read read serves key None None holds = (None, refl, tt)
optional_read read serves key None (Some kept) holds = absurd holds
optional_read read serves key (Some d) None holds = absurd holds
optional_read read serves key (Some d) (Some kept) (all, reads, same) = (Some all, rw reads refl, same)

-- such lists answer alike by each identifier of the locale
pub optional_same : {A : Type 0} (locale : List ℕ) (kept all : Option (List (NamedEntry A))) → KeptOf (is_of locale) kept all
    → (id : Identifier) → id.locale ≡ locale → optional_answer kept id ≡ optional_answer all id
optional_same locale None None is id same = refl
optional_same locale None (Some all) is id same = absurd is
optional_same locale (Some kept) None is id same = absurd is
optional_same locale (Some kept) (Some all) is id same = rw is (ap or_not_found (first_filed-filter locale id same all))

-- ---- one member more

-- what holds where a call succeeds
pub OnOk-map : {A E : Type 0} {P Q : Type 0} (r : Result A E) → (P → Q) → OnOk r P → OnOk r Q
OnOk-map (Ok x) f holds = f holds
OnOk-map (Err e) f holds = holds

-- a member that is no list of tables
pub adds_other : (locale name : List ℕ) (d : Data) (ds : Members) (f : FoundData) → has_float d ≡ false
    → (name_of Symbols ≡ name → ⊥) → (name_of Digits ≡ name → ⊥) → (name_of Rules ≡ name → ⊥) → (name_of Short ≡ name
    → ⊥) → (name_of Long ≡ name → ⊥) → (name_of Ordinals ≡ name → ⊥)
    → Holds locale ds f → Holds locale (put name d ds) f
adds_other locale name d ds f none symbols digits rules short long ordinals holds = record {
  symbols = HoldsAt-other symbols_at (is_of locale) Symbols name d ds f.symbols symbols holds.symbols;
  digits = HoldsAt-other digits_at (λ entry. true) Digits name d ds f.digits digits holds.digits;
  rules = HoldsAt-other rules_at (is_of locale) Rules name d ds f.rules rules holds.rules;
  short = HoldsAt-other compact_at (is_of locale) Short name d ds f.short short holds.short;
  long = HoldsAt-other compact_at (is_of locale) Long name d ds f.long long holds.long;
  ordinals = HoldsAt-other rules_at (is_of locale) Ordinals name d ds f.ordinals ordinals holds.ordinals;
  whole = members_have_float-put name d ds none holds.whole;
}

module _ (locale : List ℕ) (ts : List Token) (f : FoundData) (rest : List Token) where
  -- the first member with symbols
  pub adds_symbols : (name : List ℕ) (slot : Option (List (NamedEntry DecimalSymbols))) → name ≡ name_of Symbols
      → IsOnce symbols_at (is_of locale) Symbols ts f.symbols slot rest
      → AddsMembers (λ l ds f. Holds l ds f) locale name ts f (record f { symbols = slot }) rest
  adds_symbols name slot named (fresh, kept, same, (d, is, served)) = rw named (
    d,
    is,
    λ ds holds. rw same record {
      symbols = HoldsAt-here symbols_at (is_of locale) Symbols d ds kept served;
      digits = HoldsAt-other digits_at (λ entry. true) Digits _ d ds f.digits (apart _ _ refl) holds.digits;
      rules = HoldsAt-other rules_at (is_of locale) Rules _ d ds f.rules (apart _ _ refl) holds.rules;
      short = HoldsAt-other compact_at (is_of locale) Short _ d ds f.short (apart _ _ refl) holds.short;
      long = HoldsAt-other compact_at (is_of locale) Long _ d ds f.long (apart _ _ refl) holds.long;
      ordinals = HoldsAt-other rules_at (is_of locale) Ordinals _ d ds f.ordinals (apart _ _ refl) holds.ordinals;
      whole = members_have_float-put _ d ds is.1 holds.whole;
    },
  )

  -- the first member with digits
  pub adds_digits : (name : List ℕ) (slot : Option (List (SystemDigits))) → name ≡ name_of Digits
      → IsOnce digits_at (λ entry. true) Digits ts f.digits slot rest
      → AddsMembers (λ l ds f. Holds l ds f) locale name ts f (record f { digits = slot }) rest
  adds_digits name slot named (fresh, kept, same, (d, is, served)) = rw named (
    d,
    is,
    λ ds holds. rw same record {
      symbols = HoldsAt-other symbols_at (is_of locale) Symbols _ d ds f.symbols (apart _ _ refl) holds.symbols;
      digits = HoldsAt-here digits_at (λ entry. true) Digits d ds kept served;
      rules = HoldsAt-other rules_at (is_of locale) Rules _ d ds f.rules (apart _ _ refl) holds.rules;
      short = HoldsAt-other compact_at (is_of locale) Short _ d ds f.short (apart _ _ refl) holds.short;
      long = HoldsAt-other compact_at (is_of locale) Long _ d ds f.long (apart _ _ refl) holds.long;
      ordinals = HoldsAt-other rules_at (is_of locale) Ordinals _ d ds f.ordinals (apart _ _ refl) holds.ordinals;
      whole = members_have_float-put _ d ds is.1 holds.whole;
    },
  )

  -- the first member with rules
  pub adds_rules : (name : List ℕ) (slot : Option (List (NamedEntry (List Rule)))) → name ≡ name_of Rules
      → IsOnce rules_at (is_of locale) Rules ts f.rules slot rest → AddsMembers (λ l ds f. Holds l ds f) locale name ts f (record f { rules = slot }) rest
  adds_rules name slot named (fresh, kept, same, (d, is, served)) = rw named (
    d,
    is,
    λ ds holds. rw same record {
      symbols = HoldsAt-other symbols_at (is_of locale) Symbols _ d ds f.symbols (apart _ _ refl) holds.symbols;
      digits = HoldsAt-other digits_at (λ entry. true) Digits _ d ds f.digits (apart _ _ refl) holds.digits;
      rules = HoldsAt-here rules_at (is_of locale) Rules d ds kept served;
      short = HoldsAt-other compact_at (is_of locale) Short _ d ds f.short (apart _ _ refl) holds.short;
      long = HoldsAt-other compact_at (is_of locale) Long _ d ds f.long (apart _ _ refl) holds.long;
      ordinals = HoldsAt-other rules_at (is_of locale) Ordinals _ d ds f.ordinals (apart _ _ refl) holds.ordinals;
      whole = members_have_float-put _ d ds is.1 holds.whole;
    },
  )

  -- the first member with short patterns
  pub adds_short : (name : List ℕ) (slot : Option (List (NamedEntry (List TableEntry)))) → name ≡ name_of Short
      → IsOnce compact_at (is_of locale) Short ts f.short slot rest
      → AddsMembers (λ l ds f. Holds l ds f) locale name ts f (record f { short = slot }) rest
  adds_short name slot named (fresh, kept, same, (d, is, served)) = rw named (
    d,
    is,
    λ ds holds. rw same record {
      symbols = HoldsAt-other symbols_at (is_of locale) Symbols _ d ds f.symbols (apart _ _ refl) holds.symbols;
      digits = HoldsAt-other digits_at (λ entry. true) Digits _ d ds f.digits (apart _ _ refl) holds.digits;
      rules = HoldsAt-other rules_at (is_of locale) Rules _ d ds f.rules (apart _ _ refl) holds.rules;
      short = HoldsAt-here compact_at (is_of locale) Short d ds kept served;
      long = HoldsAt-other compact_at (is_of locale) Long _ d ds f.long (apart _ _ refl) holds.long;
      ordinals = HoldsAt-other rules_at (is_of locale) Ordinals _ d ds f.ordinals (apart _ _ refl) holds.ordinals;
      whole = members_have_float-put _ d ds is.1 holds.whole;
    },
  )

  -- the first member with long patterns
  pub adds_long : (name : List ℕ) (slot : Option (List (NamedEntry (List TableEntry)))) → name ≡ name_of Long
      → IsOnce compact_at (is_of locale) Long ts f.long slot rest → AddsMembers (λ l ds f. Holds l ds f) locale name ts f (record f { long = slot }) rest
  adds_long name slot named (fresh, kept, same, (d, is, served)) = rw named (
    d,
    is,
    λ ds holds. rw same record {
      symbols = HoldsAt-other symbols_at (is_of locale) Symbols _ d ds f.symbols (apart _ _ refl) holds.symbols;
      digits = HoldsAt-other digits_at (λ entry. true) Digits _ d ds f.digits (apart _ _ refl) holds.digits;
      rules = HoldsAt-other rules_at (is_of locale) Rules _ d ds f.rules (apart _ _ refl) holds.rules;
      short = HoldsAt-other compact_at (is_of locale) Short _ d ds f.short (apart _ _ refl) holds.short;
      long = HoldsAt-here compact_at (is_of locale) Long d ds kept served;
      ordinals = HoldsAt-other rules_at (is_of locale) Ordinals _ d ds f.ordinals (apart _ _ refl) holds.ordinals;
      whole = members_have_float-put _ d ds is.1 holds.whole;
    },
  )

  -- the first member with ordinal rules
  pub adds_ordinals : (name : List ℕ) (slot : Option (List (NamedEntry (List Rule)))) → name ≡ name_of Ordinals
      → IsOnce rules_at (is_of locale) Ordinals ts f.ordinals slot rest
      → AddsMembers (λ l ds f. Holds l ds f) locale name ts f (record f { ordinals = slot }) rest
  adds_ordinals name slot named (fresh, kept, same, (d, is, served)) = rw named (
    d,
    is,
    λ ds holds. rw same record {
      symbols = HoldsAt-other symbols_at (is_of locale) Symbols _ d ds f.symbols (apart _ _ refl) holds.symbols;
      digits = HoldsAt-other digits_at (λ entry. true) Digits _ d ds f.digits (apart _ _ refl) holds.digits;
      rules = HoldsAt-other rules_at (is_of locale) Rules _ d ds f.rules (apart _ _ refl) holds.rules;
      short = HoldsAt-other compact_at (is_of locale) Short _ d ds f.short (apart _ _ refl) holds.short;
      long = HoldsAt-other compact_at (is_of locale) Long _ d ds f.long (apart _ _ refl) holds.long;
      ordinals = HoldsAt-here rules_at (is_of locale) Ordinals d ds kept served;
      whole = members_have_float-put _ d ds is.1 holds.whole;
    },
  )

module _ {F : Type 0} (holds : List ℕ → Members → F → Type 0) where
  -- what is found is of one member more, and the others go on with it
  pub members_step : (locale : List ℕ) (before after : F) (ts s r start : List Token) (k : List ℕ)
      → ((ds : Members) × holds locale ds before × MembersGoOn 126 start ts ds) → read_key ts ≡ Some (Some k, s)
      → AddsMembers holds locale k s before after r → (ds : Members) × holds locale ds after × MembersGoOn 126 start r ds
  members_step locale before after ts s r start k (ds, held, on) key (d, is, adds) =
      (put k d ds, adds ds held, MembersGoOn-member 126 start ds ts s r k d key is on)

  -- a member that is added takes a token at least
  pub members_smaller : (locale : List ℕ) (before after : F) (ts s r : List Token) (k : List ℕ) → read_key ts ≡ Some (Some k, s)
      → AddsMembers holds locale k s before after r → length r < length ts
  members_smaller locale before after ts s r k key (d, is, adds) =
      omega (arith, read_key-shorter ts (Some k) s key, IsValue-shorter 126 s d r is)

-- the tables of members of which each list was read
tables_read : (ds : Members) (s g : Data) (symbols : List (NamedEntry DecimalSymbols)) (digits : List SystemDigits)
    (rules : Option (List (NamedEntry (List Rule))))
    (short long : Option (List (NamedEntry (List TableEntry)))) (ordinals : Option (List (NamedEntry (List Rule))))
    → members_have_float ds ≡ false → get_member (name_of Symbols) ds ≡ Some s → entries_in symbols_at Symbols s ≡ Ok symbols
    → get_member (name_of Digits) ds ≡ Some g → entries_in digits_at Digits g ≡ Ok digits
    → optional (entries_in rules_at Rules) (get_member (name_of Rules) ds) ≡ Ok rules
    → optional (entries_in compact_at Short) (get_member (name_of Short) ds) ≡ Ok short
    → optional (entries_in compact_at Long) (get_member (name_of Long) ds) ≡ Ok long
    → optional (entries_in rules_at Ordinals) (get_member (name_of Ordinals) ds) ≡ Ok ordinals
    → tables_in (object ds)
    ≡ Ok (record { symbols = symbols; digits = digits; rules = rules; short = short; long = long; ordinals = ordinals })
unfolding tables_in tables_at entries_under member_at optional_at object_in
tables_read ds s g symbols digits rules short long ordinals whole has_symbols reads_symbols has_digits reads_digits reads_rules reads_short
    reads_long reads_ordinals =
    rw (whole, has_symbols, reads_symbols, has_digits, reads_digits, reads_rules, reads_short, reads_long, reads_ordinals) refl

-- the tables of what was found, where the lists are that have to be
pub tables_for : (locale text : List ℕ) (ds : Members) (f : FoundData) (symbols : List (NamedEntry DecimalSymbols)) (digits : List SystemDigits)
    → Holds locale ds f → read_text text ≡ Some (object ds)
    → f.symbols ≡ Some symbols → f.digits ≡ Some digits
    → IsFor locale (record {
      symbols = symbols;
      digits = digits;
      rules = f.rules;
      short = f.short;
      long = f.long;
      ordinals = f.ordinals;
    }) (tables_of text)
unfolding tables_of
tables_for locale text ds f symbols digits holds reads has_symbols has_digits =
    let s = HoldsAt-some symbols_at (is_of locale) Symbols (get_member (name_of Symbols) ds) symbols (rw has_symbols at holds.symbols) in
    let g = HoldsAt-some digits_at (λ entry. true) Digits (get_member (name_of Digits) ds) digits (rw has_digits at holds.digits) in
    let r = optional_read rules_at (is_of locale) Rules (get_member (name_of Rules) ds) f.rules holds.rules in
    let h = optional_read compact_at (is_of locale) Short (get_member (name_of Short) ds) f.short holds.short in
    let l = optional_read compact_at (is_of locale) Long (get_member (name_of Long) ds) f.long holds.long in
    let o = optional_read rules_at (is_of locale) Ordinals (get_member (name_of Ordinals) ds) f.ordinals holds.ordinals in
    let read = tables_read ds s.0 g.0 s.2.0 g.2.0 r.0 h.0 l.0 o.0 holds.whole s.1 s.2.1 g.1 g.2.1 r.1 h.1 l.1 o.1 in
    let answers : AnswersAs locale (record {
      symbols = symbols;
      digits = digits;
      rules = f.rules;
      short = f.short;
      long = f.long;
      ordinals = f.ordinals;
    }) (record { symbols = s.2.0; digits = g.2.0; rules = r.0; short = h.0; long = l.0; ordinals = o.0 }) =
    record {
      symbols = λ id same. ap (λ xs. filed_answer xs id) s.2.2 ∙ ap or_not_found (first_filed-filter locale id same s.2.0);
      digits = λ system. ap (λ xs. system_answer xs system) (g.2.2 ∙ filter-all g.2.0);
      rules = optional_same locale f.rules r.0 r.2;
      short = optional_same locale f.short h.0 h.2;
      long = optional_same locale f.long l.0 l.2;
      ordinals = optional_same locale f.ordinals o.0 o.2;
    } in (
      record { symbols = s.2.0; digits = g.2.0; rules = r.0; short = h.0; long = l.0; ordinals = o.0 },
      ap (λ d. ok_or d NotJson >>= tables_in) reads ∙ read,
      answers,
    )

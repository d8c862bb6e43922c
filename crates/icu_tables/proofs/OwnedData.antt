-- Values that are read from tokens: each by its token, lists and objects by a loop. What the loops have read so far is what
-- the whole begins with: `ItemsGoOn` says it of items, whatever follows them, and `MembersGoOn` of members, which are put to
-- those before. Both count the steps that the grammar's bound still allows.
use Rattle.std.proofs.Common.{◌≡◌, ℕ, Bool, true, false, ◌||◌, List, [], ◌∷◌, ◌++◌, Some, None, Ordering, Less, Equal}
use Rattle.std.proofs.Common.{Greater, nat_cmp, refl, ap, ◌∙◌, ◌-◌, ◌<◌, ◌≤◌, length, append_assoc, arith}
use Rattle.std.proofs.lemmas.Bool.{or_parts}
use Rattle.std.proofs.lemmas.List.{append-nil}
use Rattle.std.specs.Cmp.Lexicographic.{slice_cmp}
use Rattle.std.specs.Ordering.{match_ordering}
use Rattle.json.specs.Token.{Token}
use Rattle.json.specs.Json as json
use Rattle.json.specs.Json.{after_end_array, parse_map, read_key}
use Rattle.json.proofs.Grammar.{left, read_key-shorter, skip_value-shorter, value_is, value-begin_array, value-begin_object}
use Rattle.serde_json.specs.Data.{Data, null, boolean, number, string, array, object, unsigned, Items, item, Members, no_members, member, put}
use Rattle.serde_json.specs.Read.{converted, number_of, of_json}
use Rattle.serde_json.specs.View.{items_of}
use Rattle.serde_json.specs.Written.{has_float, items_have_float, members_have_float}
use Rattle.icu_tables.specs.Owned.{AreItems, AreItemsWithin, AreMembers, AreMembersOf, IsValue, members_onto}
use Rattle.icu_tables.proofs.Turns.{converted-array, converted-object, converted_some, item_read, items_over, member_read, members_over}

-- ---- numbers that aren't whole

-- neither of two has
neither : (x y : Bool) → x ≡ false → y ≡ false → (x || y) ≡ false
neither true y e h = e
neither false y e h = h

put_at : (o : Ordering) (k l : List ℕ) (d e : Data) (ds : Members) → has_float d ≡ false → members_have_float (member l e ds) ≡ false
    → members_have_float (put k d ds) ≡ false
    → members_have_float (match_ordering o (member k d (member l e ds)) (member l d ds) (member l e (put k d ds))) ≡ false
put_at Less k l d e ds one all rest = neither (has_float d) (members_have_float (member l e ds)) one all
put_at Equal k l d e ds one all rest = neither (has_float d) (members_have_float ds) one (or_parts (has_float e) (members_have_float ds) all).1
put_at Greater k l d e ds one all rest = neither (has_float e) (members_have_float (put k d ds)) (or_parts (has_float e) (members_have_float ds) all).0 rest

-- members to which a value without floats is put have none either
pub members_have_float-put : (k : List ℕ) (d : Data) (ds : Members) → has_float d ≡ false → members_have_float ds ≡ false
    → members_have_float (put k d ds) ≡ false
members_have_float-put k d no_members one all = neither (has_float d) false one refl
members_have_float-put k d (member l e ds) one all =
    put_at (slice_cmp nat_cmp k l) k l d e ds one all (members_have_float-put k d ds one (or_parts (has_float e) (members_have_float ds) all).1)

-- ---- one token

-- a value is read as it is seen
pub IsValue-seen : (depth : ℕ) (ts us : List Token) (d e : Data) (rest : List Token) → ts ≡ us → e ≡ d → IsValue depth us d rest
    → IsValue depth ts e rest
IsValue-seen depth ts us d e rest same seen is = rw (same, seen) is

module _ (depth : ℕ) (ts : List Token) where
  pub owned_null : IsValue depth (Token.null ∷ ts) null ts
  owned_null = (ap (converted of_json) (value_is depth _), refl)

  pub owned_truth : (b : Bool) → IsValue depth (Token.boolean b ∷ ts) (boolean b) ts
  owned_truth b = (ap (converted of_json) (value_is depth _), refl)

  pub owned_text : (s : List ℕ) → IsValue depth (Token.string s ∷ ts) (string s) ts
  owned_text s = (ap (converted of_json) (value_is depth _), refl)

  pub owned_number : (s : List ℕ) (n : ℕ) → number_of s ≡ Some (unsigned n) → IsValue depth (Token.number s ∷ ts) (number (unsigned n)) ts
  owned_number s n is = (ap (converted of_json) (value_is depth _) ∙ rw is refl, refl)

  pub owned_list : (ds : Items) (rest : List Token) → 0 < depth → AreItems (depth - 1) ts ds rest
      → IsValue depth (Token.begin_array ∷ ts) (array ds) rest
  owned_list ds rest some are = (
    ap (converted of_json) (value-begin_array depth ts some) ∙ converted-array (json.items (json.value (depth - 1)) (length ts) ts)
        ∙ ap (parse_map array) are.0,
    are.1,
  )

  pub object_read : (ds : Members) (rest : List Token) → 0 < depth → AreMembersOf (depth - 1) ts ds rest
      → converted of_json (json.value depth (Token.begin_object ∷ ts)) ≡ Some (object ds, rest)
  object_read ds rest some are =
      ap (converted of_json) (value-begin_object depth ts some) ∙ converted-object (json.members (json.value (depth - 1)) (length ts) ts)
      ∙ ap (parse_map object) are

  pub owned_object : (ds : Members) (rest : List Token) → 0 < depth → AreMembers (depth - 1) ts ds rest
      → IsValue depth (Token.begin_object ∷ ts) (object ds) rest
  owned_object ds rest some are = (object_read ds rest some are.0, are.1)

-- a value has a token at least
pub IsValue-shorter : (depth : ℕ) (ts : List Token) (d : Data) (rest : List Token) → IsValue depth ts d rest → length rest < length ts
IsValue-shorter depth ts d rest is =
    let j = converted_some of_json (json.value depth ts) d rest is.0 in
    skip_value-shorter depth ts rest (ap left j.1)

-- ---- items

-- an item in front of those that are left
item_first : (depth n : ℕ) (ts r : List Token) (d : Data) (ds : List Data) (rest : List Token) → 0 < n → after_end_array ts ≡ None
    → IsValue depth ts d r
    → AreItemsWithin (n - 1) depth r (items_of ds) rest → AreItemsWithin n depth ts (items_of (d ∷ ds)) rest
item_first depth n ts r d ds rest some going is are =
    (item_read depth n ts r d some going is.0 ∙ ap (parse_map (item d)) are.0, neither (has_float d) (items_have_float (items_of ds)) is.1 are.1)

-- What was read so far: whatever the items are that are left, they go on with it.
abbrev pub ItemsGoOn : ℕ → List Token → List Token → List Data → Type 0
ItemsGoOn depth start ts before =
    (n : ℕ) × (length ts ≤ n)
    × ((ds : List Data) (rest : List Token) → AreItemsWithin n depth ts (items_of ds) rest → AreItems depth start (items_of (before ++ ds)) rest)

module _ (depth : ℕ) (start : List Token) where
  -- before the first item nothing was read
  pub ItemsGoOn-start : ItemsGoOn depth start start []
  ItemsGoOn-start = (length start, omega arith, λ ds rest are. are)

  -- an item is read
  pub ItemsGoOn-item : (ts r : List Token) (before : List Data) (d : Data) → after_end_array ts ≡ None → IsValue depth ts d r
      → ItemsGoOn depth start ts before → ItemsGoOn depth start r (before ++ d ∷ [])
  ItemsGoOn-item ts r before d going is (n, enough, goes_on) =
      let fewer : length r < length ts = IsValue-shorter depth ts d r is in
      let some : 0 < n = omega arith in
      let enough_left : length r ≤ n - 1 = omega arith in
      let go : (ds : List Data) (rest : List Token) → AreItemsWithin (n - 1) depth r (items_of ds) rest
      → AreItems depth start (items_of ((before ++ d ∷ []) ++ ds)) rest =
      λ ds rest are. rw (append_assoc before (d ∷ []) ds) (goes_on (d ∷ ds) rest (item_first depth n ts r d ds rest some going is are)) in
      (n - 1, enough_left, go)

  -- behind the last item all are read
  pub ItemsGoOn-end : (ts r : List Token) (before : List Data) → after_end_array ts ≡ Some r → ItemsGoOn depth start ts before
      → AreItems depth start (items_of before) r
  ItemsGoOn-end ts r before closed (n, enough, goes_on) =
      let whole : AreItems depth start (items_of (before ++ [])) r = goes_on [] r (items_over depth n ts r enough closed, refl) in
      rw (append-nil before) at whole

-- ---- members

-- the members that are left are put to those that were read so far
abbrev pub MembersGoOn : ℕ → List Token → List Token → Members → Type 0
MembersGoOn depth start ts ds = (n : ℕ) × (length ts ≤ n) × (members_onto (length start) depth start no_members ≡ members_onto n depth ts ds)

module _ (depth : ℕ) (start : List Token) where
  -- before the first member nothing was read
  pub MembersGoOn-start : MembersGoOn depth start start no_members
  MembersGoOn-start = (length start, omega arith, refl)

  -- a member is read and put
  pub MembersGoOn-member : (ds : Members) (ts s r : List Token) (k : List ℕ) (d : Data) → read_key ts ≡ Some (Some k, s) → IsValue depth s d r
      → MembersGoOn depth start ts ds → MembersGoOn depth start r (put k d ds)
  MembersGoOn-member ds ts s r k d key is (n, enough, goes_on) =
      let fewer : length s < length ts = read_key-shorter ts (Some k) s key in
      let fewer_yet : length r < length s = IsValue-shorter depth s d r is in
      let some : 0 < n = omega arith in
      let enough_left : length r ≤ n - 1 = omega arith in
      (n - 1, enough_left, goes_on ∙ member_read depth ds n k ts s r d some key is.0)

  -- behind the last member all are read
  pub MembersGoOn-end : (ds : Members) (ts r : List Token) → read_key ts ≡ Some (None, r) → MembersGoOn depth start ts ds
      → AreMembersOf depth start ds r
  MembersGoOn-end ds ts r key (n, enough, goes_on) = goes_on ∙ members_over depth ds n ts r enough key

use Rattle.std.proofs.Common.{◌≡◌, [], ◌∷◌, ◌++◌, ◌<◌, length, map, Some, sym, subst, ap, ◌∙◌, arith, rules}
use Rattle.std.proofs.lemmas.List.{map-append}
use Rattle.json.specs.Json.{read_key}
use Rattle.json.specs.Reads.{token_of}
use Rattle.json.specs.Token.{Token}
use Rattle.json.proofs.Grammar.{read_key-shorter}
use Rattle.serde_json.specs.Data.{null, boolean, number, string, array, object, unsigned, put}
use Rattle.serde_json.specs.View.{items_view, members_view, view}
use Rattle.serde_json.specs.Written.{members_have_float}
use Rattle.serde_json.specs.declared.value.Value.{Bool, Null, Number, String, the_lemmas}
use Rattle.serde_json.proofs.Views.{members_view-insert_entry, view-Array, view-Object}
use Rattle.icu_tables.proofs.OwnedData.{IsValue-seen, IsValue-shorter, members_have_float-put, owned_list, owned_null, owned_number, owned_object}
use Rattle.icu_tables.proofs.OwnedData.{owned_text, owned_truth, ItemsGoOn, ItemsGoOn-item, ItemsGoOn-end}
use Rattle.icu_tables.proofs.OwnedData.{MembersGoOn, MembersGoOn-member, MembersGoOn-end}
use Rattle.icu_tables.proofs.tokens.+owned.Goals as goal

pub owned-returns-in-Null : goal.owned-returns-in-Null
owned-returns-in-Null t c =
    let ts = c.next.new.self in
    let seen : view Null ≡ null = search (rules, the_lemmas) in
    IsValue-seen c.args.depth _ (Token.null ∷ ts) null (view Null) ts (c.in-Some.ensures.value ∙ ap (λ k. token_of k ∷ ts) c.in-Null.is) seen
    (owned_null c.args.depth ts)

pub owned-returns-in-Bool : goal.owned-returns-in-Bool
owned-returns-in-Bool t c =
    let ts = c.next.new.self in
    let b = c.in-Bool.truth in
    let seen : view (Bool b) ≡ boolean b = search (rules, the_lemmas) in
    IsValue-seen c.args.depth _ (Token.boolean b ∷ ts) (boolean b) (view (Bool b)) ts
    (c.in-Some.ensures.value ∙ ap (λ k. token_of k ∷ ts) c.in-Bool.is) seen
    (owned_truth c.args.depth ts b)

pub owned-returns-in_ok-natural-in-Number : goal.owned-returns-in_ok-natural-in-Number
owned-returns-in_ok-natural-in-Number t c =
    let ts = c.next.new.self in
    let s = c.in-Number.text.now in
    let n = c.in_ok-natural-in-Number.field-0 in
    let seen : view (Number c.from.result) ≡ number (unsigned n) = search (rules, the_lemmas) in
    IsValue-seen c.args.depth _ (Token.number s ∷ ts) (number (unsigned n)) (view (Number c.from.result)) ts
    (c.in-Some.ensures.value ∙ ap (λ k. token_of k ∷ ts) c.in-Number.is) seen (owned_number c.args.depth ts s n c.in_ok-natural-in-Number.ensures)

pub owned-returns-in_ok-from_str-in-String : goal.owned-returns-in_ok-from_str-in-String
owned-returns-in_ok-from_str-in-String t c =
    let ts = c.next.new.self in
    let s = c.in-String.text.now in
    let copy = c.in_ok-from_str-in-String.field-0 in
    let seen : view (String copy) ≡ string s = search (rules, the_lemmas) in
    IsValue-seen c.args.depth _ (Token.string s ∷ ts) (string s) (view (String copy)) ts
    (c.in-Some.ensures.value ∙ ap (λ k. token_of k ∷ ts) c.in-String.is)
    seen (owned_text c.args.depth ts s)

pub owned-returns-in_ok-owned_items-in-BeginArray : goal.owned-returns-in_ok-owned_items-in-BeginArray
owned-returns-in_ok-owned_items-in-BeginArray t c =
    let ts = c.next.new.self in
    let rest = c.owned_items.new.reader in
    let found = c.in_ok-owned_items-in-BeginArray in
    IsValue-seen c.args.depth _ (Token.begin_array ∷ ts) (array (items_view found.field-0.items)) _ rest
    (c.in-Some.ensures.value ∙ ap (λ k. token_of k ∷ ts) c.in-BeginArray.is) (view-Array found.field-0)
    (owned_list c.args.depth ts _ rest c.if-depth-gt0.true found.ensures)

pub owned-returns-in_ok-owned_members-in-BeginObject : goal.owned-returns-in_ok-owned_members-in-BeginObject
owned-returns-in_ok-owned_members-in-BeginObject t c =
    let ts = c.next.new.self in
    let rest = c.owned_members.new.reader in
    let found = c.in_ok-owned_members-in-BeginObject in
    IsValue-seen c.args.depth _ (Token.begin_object ∷ ts) (object (members_view found.field-0.entries)) _ rest
    (c.in-Some.ensures.value ∙ ap (λ k. token_of k ∷ ts) c.in-BeginObject.is) (view-Object found.field-0)
    (owned_object c.args.depth ts _ rest c.if-depth-gt0-2.true found.ensures)

pub owned_items-items-smaller : goal.owned_items-items-smaller
owned_items-items-smaller t c =
    let less : length c.owned.new.reader < length c.items.reader =
    IsValue-shorter c.args.depth c.items.reader (view c.in_ok-owned.field-0) c.owned.new.reader (rw c.items-test.ensures.1 at c.in_ok-owned.ensures) in
    less

pub owned_items-items-preserved : goal.owned_items-items-preserved
owned_items-items-preserved t c =
    let l = c.items in
    let item = c.in_ok-owned in
    let pushed : map view c.push.new.self.items ≡ map view l.found.items ++ view item.field-0 ∷ [] =
    ap (map view) c.in_ok-push.ensures.items ∙ map-append view l.found.items (item.field-0 ∷ []) in
    subst (ItemsGoOn c.args.depth c.args.reader.now c.owned.new.reader) (sym pushed) (ItemsGoOn-item c.args.depth c.args.reader.now l.reader c.owned.new.reader
    (map view l.found.items) (view item.field-0) c.items-test.ensures.0 (rw c.items-test.ensures.1 at item.ensures) l.invariant)

pub owned_items-returns : goal.owned_items-returns
owned_items-returns t c =
    ItemsGoOn-end c.args.depth c.args.reader.now c.items.reader c.take_end_array.new.self (map view c.items.found.items) c.items-test.ensures c.items.invariant

pub owned_members-members-smaller : goal.owned_members-members-smaller
owned_members-members-smaller t c =
    let key : read_key c.members.reader ≡ Some (Some c.in-Some.name.now, c.next_key.new.self) = rw c.in-Some.is at c.in_ok-name.ensures.value in
    let fewer = read_key-shorter c.members.reader (Some c.in-Some.name.now) c.next_key.new.self key in
    let fewer_yet = IsValue-shorter c.args.depth c.next_key.new.self (view c.in_ok-value.value) c.owned.new.reader c.in_ok-value.ensures in
    let less : length c.owned.new.reader < length c.members.reader = omega (arith, fewer, fewer_yet) in
    less

pub owned_members-members-preserved : goal.owned_members-members-preserved
owned_members-members-preserved t c =
    let l = c.members in
    let k = c.in-Some.name.now in
    let d = view c.in_ok-value.value in
    let before = members_view l.found.entries in
    let key : read_key l.reader ≡ Some (Some k, c.next_key.new.self) = rw c.in-Some.is at c.in_ok-name.ensures.value in
    let inserted : members_view c.insert.new.self.entries ≡ put k d before =
    ap members_view c.in_ok-insert.ensures.entries ∙ members_view-insert_entry l.found.entries c.in_ok-key.key c.in_ok-value.value
    ∙ ap (λ name. put name d before) c.in_ok-key.ensures.ok in
    let goes_on = MembersGoOn-member c.args.depth c.args.reader.now before l.reader c.next_key.new.self c.owned.new.reader k d key
    c.in_ok-value.ensures l.invariant.0 in (
      subst (MembersGoOn c.args.depth c.args.reader.now c.owned.new.reader) (sym inserted) goes_on,
      ap members_have_float inserted ∙ members_have_float-put k d before c.in_ok-value.ensures.1 l.invariant.1,
    )

pub owned_members-returns : goal.owned_members-returns
owned_members-returns t c =
    let l = c.members in
    let key = rw c.in_default.is at c.in_ok-name.ensures.value in
    (MembersGoOn-end c.args.depth c.args.reader.now (members_view l.found.entries) l.reader c.next_key.new.self key l.invariant.0, l.invariant.1)

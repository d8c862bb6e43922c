use Rattle.std.proofs.Common.{rules, ◌≡◌, ◌++◌, ◌/◌, ◌∙◌, ap, sym, arith, length, ℕ, List}
use Rattle.std.proofs.lemmas.Slice.{pushed}
use Rattle.icu_decimal_data.specs.Kept.{as_table, kept, at}
use Rattle.icu_decimal_data.specs.TableBytes.{number_bytes}
use Rattle.icu_decimal_data.proofs.TableOfMap.{few_kept}
use Rattle.icu_decimal_data.proofs.TableWriting.{count_is, whole_is}
use Rattle.icu_decimal_data.proofs.table_writing.table_of.Goals as goal

pub push_number-requires : goal.push_number-requires
push_number-requires g c =
    let table = kept (at c.args.zero_magnitude) (as_table c.args.map.now.entries) in
    let count : c.len-3.result / 58 ≡ length table = ap (λ (n : ℕ). n / 58) (c.len-3.ensures ∙ c.in_ok-records.records.ok.0)
    ∙ count_is c.in_ok-records.records.items table c.in_ok-records.ensures.records in
    let few = few_kept (at c.args.zero_magnitude) c.args.map.now.entries g.P.PatternBackend.accepted c.records_and_pool.ensures.sorted
    c.in_ok-records.ensures.writable in
    omega arith

pub returns-clause-bytes : goal.returns-clause-bytes
returns-clause-bytes g c =
    let table = kept (at c.args.zero_magnitude) (as_table c.args.map.now.entries) in
    let records = c.in_ok-records.records.items in
    let pool = c.in_ok-records.pool.items in
    let count : c.len-3.result / 58 ≡ length table = ap (λ (n : ℕ). n / 58) (c.len-3.ensures ∙ c.in_ok-records.records.ok.0)
    ∙ count_is records table c.in_ok-records.ensures.records in
    let one = c.in_ok-push_number.ensures ∙ ap (λ (x : List ℕ). x ++ number_bytes (c.len-3.result / 58)) c.in_ok-bytes.ensures.items in
    let two = c.in_ok-push_number-2.ensures ∙ ap (λ (x : List ℕ). x ++ number_bytes c.len-4.result) one in
    let three = pushed c.deref.result.now two c.in_ok-extend_from_slice.was c.extend_from_slice.ensures.items in
    let four = pushed c.deref-2.result.now three c.in_ok-extend_from_slice-2.was c.extend_from_slice-2.ensures.items in
    four ∙ whole_is table c.deref.result.now c.deref-2.result.now (c.len-3.result / 58) c.len-4.result
    (c.deref.ensures.value ∙ c.in_ok-records.ensures.records) (c.deref-2.ensures.value ∙ c.in_ok-records.ensures.pool) count
    (c.len-4.ensures ∙ c.in_ok-records.pool.ok.0 ∙ ap length (sym c.deref-2.ensures.value))

-- Goals that a search finds; it is not tried longer where one is false.
pub returns-in_err-records-clause-bytes : goal.returns-in_err-records-clause-bytes
returns-in_err-records-clause-bytes g c = search rules

pub returns-in_err-records-clause-writable : goal.returns-in_err-records-clause-writable
returns-in_err-records-clause-writable g c = search rules

pub returns-in_err-records-clause-are_bytes : goal.returns-in_err-records-clause-are_bytes
returns-in_err-records-clause-are_bytes g c = search rules

pub returns-in_err-records-clause-sorted : goal.returns-in_err-records-clause-sorted
returns-in_err-records-clause-sorted g c = search rules

pub returns-in_err-bytes-clause-bytes : goal.returns-in_err-bytes-clause-bytes
returns-in_err-bytes-clause-bytes g c = search rules

pub returns-in_err-bytes-clause-writable : goal.returns-in_err-bytes-clause-writable
returns-in_err-bytes-clause-writable g c = search rules

pub returns-in_err-bytes-clause-are_bytes : goal.returns-in_err-bytes-clause-are_bytes
returns-in_err-bytes-clause-are_bytes g c = search rules

pub returns-in_err-bytes-clause-sorted : goal.returns-in_err-bytes-clause-sorted
returns-in_err-bytes-clause-sorted g c = search rules

pub returns-in_err-push_number-clause-bytes : goal.returns-in_err-push_number-clause-bytes
returns-in_err-push_number-clause-bytes g c = search rules

pub returns-in_err-push_number-clause-writable : goal.returns-in_err-push_number-clause-writable
returns-in_err-push_number-clause-writable g c = search rules

pub returns-in_err-push_number-clause-are_bytes : goal.returns-in_err-push_number-clause-are_bytes
returns-in_err-push_number-clause-are_bytes g c = search rules

pub returns-in_err-push_number-clause-sorted : goal.returns-in_err-push_number-clause-sorted
returns-in_err-push_number-clause-sorted g c = search rules

pub returns-in_err-push_number-2-clause-bytes : goal.returns-in_err-push_number-2-clause-bytes
returns-in_err-push_number-2-clause-bytes g c = search rules

pub returns-in_err-push_number-2-clause-sorted : goal.returns-in_err-push_number-2-clause-sorted
returns-in_err-push_number-2-clause-sorted g c = search rules

pub returns-clause-writable : goal.returns-clause-writable
returns-clause-writable g c = search rules

pub returns-clause-are_bytes : goal.returns-clause-are_bytes
returns-clause-are_bytes g c = search rules

pub returns-clause-sorted : goal.returns-clause-sorted
returns-clause-sorted g c = search rules

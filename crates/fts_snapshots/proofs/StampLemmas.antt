-- The stamps of operations, and of the documents that their commit leaves.
use Rattle.std.proofs.Common.{◌≡◌, ◌<◌, ◌≤◌, ◌+◌, ◌^◌, ℕ, zero, suc, true, false, cond, List, [], ◌∷◌, ◌++◌, length, subst, sym, ap, arith, All}
use Rattle.std.specs.List.{AllByRecursion, range_with_len}
use Rattle.std.proofs.lemmas.List.Elements.{All-from_recursion, recursion_from_All}
use Rattle.fts_model.specs.declared.schema.Field.{Field}
use Rattle.fts_model.specs.declared.operation.Op.{Op}
use Rattle.fts_model.specs.declared.operation.Op.TheVariants.{Add, Delete, DeleteAll}
use Rattle.fts_model.specs.declared.operation.Stamped.{Stamped}
use Rattle.fts_model.specs.Documents.{DocumentValue}
use Rattle.fts_model.specs.Operations.{alive, adds, is_struck, left_by, stamps_of, StampsRise}
use Rattle.fts_model.proofs.OperationsAlive.{alive-pairs}
use Rattle.fts_snapshots.specs.Snapshots.{SnapshotValue, IsBehind, content_of}
use Rattle.fts_snapshots.specs.Stamps.{IsStamped}
use Rattle.fts_snapshots.proofs.OrderLemmas.{Rises, All-weaker_by, All-joined}
use Rattle.fts_snapshots.proofs.CommitLemmas.{by_stamp, stamps_rise}
use Rattle.fts_snapshots.proofs.SnapshotLemmas.{all_adds, rise_behind}

-- consecutive numbers
run_from : (k a n : ℕ) → k ≤ a → AllByRecursion (λ x. k ≤ x) (range_with_len a n)
run_from k a zero h = tt
run_from k a (suc n) h = (h, run_from k (a + 1) n (omega (arith, h)))

run_to : (k a n : ℕ) → a + n ≤ k → AllByRecursion (λ x. x < k) (range_with_len a n)
run_to k a zero h = tt
run_to k a (suc n) h = (omega (arith, h), run_to k (a + 1) n (omega (arith, h)))

run_rises : (a n : ℕ) → Rises (λ x. x) (range_with_len a n)
run_rises a zero = tt
run_rises a (suc n) = (
  All-weaker_by (λ x. a + 1 ≤ x) (λ x. a < x) (λ x h. omega (arith, h)) (range_with_len (a + 1) n) (run_from (a + 1) (a + 1) n (omega arith)),
  run_rises
      (a + 1) n,
)

-- a property of the stamps holds of the operations
all_stamped : (P : ℕ → Type 0) (ops : List (Stamped Op)) → AllByRecursion P (stamps_of ops) → AllByRecursion (λ o. P o.stamp) ops
all_stamped P [] h = tt
all_stamped P (op ∷ ops) h = (h.0, all_stamped P ops h.1)

stamped_rise : (ops : List (Stamped Op)) → Rises (λ x. x) (stamps_of ops) → Rises (λ o. o.stamp) ops
stamped_rise [] h = tt
stamped_rise (op ∷ ops) h = (all_stamped (λ s. op.stamp < s) ops h.0, stamped_rise ops h.1)

-- a batch whose first stamp is above those of documents comes after them
pub batch_behind : (ds : List (Stamped DocumentValue)) (ops : List (Stamped Op)) (stamp first : ℕ) → All (λ d. d.stamp < stamp) ds → stamp < first →
    stamps_of ops ≡ range_with_len first (length ops) → IsBehind ds ops
batch_behind ds ops stamp first below above run = record {
  first = first;
  rising = stamps_rise ops (stamped_rise ops (subst (Rises (λ x. x)) (sym run) (run_rises first (length ops))));
  before = λ k d within. omega (arith, below k d within, above);
  behind = All-from_recursion (λ (o : Stamped Op). first ≤ o.stamp) ops
      (all_stamped (λ s. first ≤ s) ops (subst (AllByRecursion (λ x. first ≤ x)) (sym run) (run_from first first (length ops) (omega arith))));
}

left_all : (P : ℕ → Type 0) (schema : List Field) (stamp : ℕ) (op : Op) (later : List (Stamped Op)) → P stamp →
    AllByRecursion (λ d. P d.stamp) (left_by schema stamp op later)
left_all P schema stamp (Add document) later h =
    elim (is_struck schema later document) as (λ b. AllByRecursion (λ (d : Stamped DocumentValue). P d.stamp)
    (cond b [] (record { stamp = stamp; value = document } ∷ [])))
    [ true ↦ tt | false ↦ (h, tt) ]
left_all P schema stamp (Delete term) later h = tt
left_all P schema stamp DeleteAll later h = tt

-- a property of the stamps of operations holds of the documents that they leave
alive_all : (P : ℕ → Type 0) (schema : List Field) (ops : List (Stamped Op)) → AllByRecursion (λ o. P o.stamp) ops →
    AllByRecursion (λ d. P d.stamp) (alive schema ops)
alive_all P schema [] h = tt
alive_all P schema (op ∷ ops) h =
    All-joined (λ (d : Stamped DocumentValue). P d.stamp) (left_by schema op.stamp op.value ops) (alive schema ops)
    (left_all P schema op.stamp op.value ops h.0) (alive_all P schema ops h.1)

-- the documents that a commit leaves have stamps below its own
pub left_below : (schema : List Field) (ds : List (Stamped DocumentValue)) (ops : List (Stamped Op)) (stamp first : ℕ) → All (λ d. d.stamp < stamp) ds →
    stamp < first →
    stamps_of ops ≡ range_with_len first (length ops) → All (λ d. d.stamp < first + length ops) (alive schema (adds ds ++ ops))
left_below schema ds ops stamp first below above run =
    let end = first + length ops in
    All-from_recursion (λ (d : Stamped DocumentValue). d.stamp < end) (alive schema (adds ds ++ ops))
    (alive_all (λ s. s < end) schema (adds ds ++ ops)
    (All-joined (λ (o : Stamped Op). o.stamp < end) (adds ds) ops
    (all_adds (λ s. s < end) ds
    (All-weaker_by (λ (d : Stamped DocumentValue). d.stamp < stamp) (λ d. d.stamp < end) (λ d h. omega (arith, h, above)) ds
    (recursion_from_All (λ (d : Stamped DocumentValue). d.stamp < stamp) ds below)))
    (all_stamped (λ s. s < end) ops (subst (AllByRecursion (λ x. x < end)) (sym run) (run_to end first (length ops) (omega arith))))))

length-between : {X : Type 0} (xs : List (Stamped X)) (low high : ℕ) → low ≤ high → Rises (λ x. x.stamp) xs → AllByRecursion (λ x. low ≤ x.stamp) xs →
    AllByRecursion (λ x. x.stamp < high) xs →
    low + length xs ≤ high
length-between [] low high l r a b = omega arith
length-between (x ∷ xs) low high l r a b =
    omega (
      arith,
      a.0,
      length-between xs (x.stamp + 1) high (omega (arith, b.0)) r.1 (All-weaker_by (λ y. x.stamp < y.stamp) (λ y. x.stamp + 1 ≤ y.stamp)
          (λ y h. omega (arith, h)) xs r.0) b.1,
    )

any_stamp : {X : Type 0} (xs : List (Stamped X)) → AllByRecursion (λ x. 0 ≤ x.stamp) xs
any_stamp [] = tt
any_stamp (x ∷ xs) = (omega arith, any_stamp xs)

-- there are no more documents than stamps below theirs
pub length-below : (ds : List (Stamped DocumentValue)) (high : ℕ) → StampsRise ds → All (λ d. d.stamp < high) ds → length ds ≤ high
length-below ds high rise below =
    omega (
      arith,
      length-between ds 0 high (omega arith) (by_stamp ds rise) (any_stamp ds) (recursion_from_All (λ (d : Stamped DocumentValue). d.stamp < high)
          ds below),
    )

-- a commit leaves no more documents than there are stamps
pub left_few : (schema : List Field) (ds : List (Stamped DocumentValue)) (ops : List (Stamped Op)) (stamp first : ℕ) → StampsRise ds →
    All (λ d. d.stamp < stamp) ds → stamp < first →
    stamps_of ops ≡ range_with_len first (length ops) → length (alive schema (adds ds ++ ops)) ≤ first + length ops
left_few schema ds ops stamp first rise below above run =
    length-below (alive schema (adds ds ++ ops)) (first + length ops)
    (alive-pairs (λ m n. m < n) schema (adds ds ++ ops) (rise_behind ds ops rise (batch_behind ds ops stamp first below above run)))
    (left_below schema ds ops stamp first below above run)

-- the documents that a commit leaves are bounded by its stamp
pub left_stamped : (snapshot : SnapshotValue) (schema : List Field) (ds : List (Stamped DocumentValue)) (ops : List (Stamped Op)) (stamp first end : ℕ) →
    content_of snapshot ≡ alive schema (adds ds ++ ops) → StampsRise ds → All (λ d. d.stamp < stamp) ds → stamp < first →
    stamps_of ops ≡ range_with_len first (length ops) → end ≡ first + length ops → end < 2 ^ 62 → IsStamped end snapshot
left_stamped snapshot schema ds ops stamp first end holds rise below above run at room = record {
  small = room;
  below = subst (λ n. All (λ (d : Stamped DocumentValue). d.stamp < n) (content_of snapshot)) (sym at)
      (subst (All (λ (d : Stamped DocumentValue). d.stamp < first + length ops)) (sym holds) (left_below schema ds ops stamp first below above run));
  few = omega (arith, ap length holds, left_few schema ds ops stamp first rise below above run, at, room);
}

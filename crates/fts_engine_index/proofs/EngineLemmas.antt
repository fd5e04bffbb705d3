-- What stays true of an engine over a writer from call to call.
use Rattle.std.proofs.Common.{◌≡◌, ◌+◌, ◌≤◌, ℕ, true, Option, None, Some, Ok, List, [], ◌∷◌, ◌++◌, length, refl, sym, ap, subst, ◌∙◌, arith}
use Rattle.std.proofs.lemmas.List.{length-append}
use Rattle.fts_model.specs.declared.operation.Op.{Op}
use Rattle.fts_model.specs.declared.operation.Stamped.{Stamped}
use Rattle.fts_model.specs.Operations.{op_fits}
use Rattle.fts_snapshots.specs.Changes.{Commits, Merges}
use Rattle.fts_index.specs.Publications.{FrontValue, Known}
use Rattle.fts_index.specs.Writers.{KeepsRounds, WriterValue}
use Rattle.fts_snapshots.specs.CountedSnapshots.{IsCounted}
use Rattle.fts_snapshots.proofs.CountedLemmas.{counted_submitted}
use Rattle.fts_engine_index.specs.declared.uncommitted.Uncommitted.{Uncommitted}
use Rattle.fts_engine_index.specs.declared.uncommitted.Uncommitted.TheVariants.{Nothing}
use Rattle.fts_engine_index.specs.UncommittedOperations.{ops_of, IsUncommittedIn, Submits}
use Rattle.fts_engine_index.specs.WriterIndexes.{IsReaderOf, IsIndexEngine}

-- a new engine
pub opened : (w : WriterValue) (reader : Option Known) → IsReaderOf w.front.seen reader → w.front.stamp ≡ 0 → w.front.snapshot.entries ≡ [] →
    w.front.snapshot.next_id ≡ 0 → w.rounds ≡ 0 → w.round ≡ None → IsIndexEngine w reader Nothing 0 0
opened w reader reads stamp entries next rounds round =
    let none : length w.front.snapshot.entries ≡ 0 = ap length entries in
    record {
      its = round;
      reads = reads;
      many = refl;
      rounds = omega arith;
      counted = record { fit = refl; stamps = omega (arith, stamp); segments = omega (arith, none, next) };
    }

-- one more uncommitted operation
pub submitted : (old new : WriterValue) (reader : Option Known) (before after : Uncommitted) (count calls stamp : ℕ) (op : Op) →
    IsIndexEngine old reader before count calls → new.front ≡ old.front → new.rounds ≤ old.rounds + 1 →
    IsUncommittedIn new after → Submits (old.front.stamp + 1) op (ops_of before) (ops_of after) (Ok stamp) → op_fits old.front.snapshot.schema op ≡ true →
    IsIndexEngine new reader after (count + 1) (calls + 1)
submitted old new reader before after count calls stamp op i front rounds uncommitted submits fits =
    let one : Stamped Op = record { stamp = stamp; value = op } in
    let more : length (ops_of after) ≡ length (ops_of before) + 1 = ap length submits.1 ∙ length-append (ops_of before) (one ∷ []) in
    let taken = counted_submitted old.front.stamp old.front.snapshot (ops_of before) one calls i.counted fits in
    record {
      its = uncommitted;
      reads = λ known is. i.reads known is ∙ ap (λ f. f.seen.of) (sym front);
      many = omega (arith, more, i.many);
      rounds = omega (arith, rounds, i.rounds);
      counted = subst (λ (f : FrontValue). IsCounted f.stamp f.snapshot (ops_of after) (calls + 1)) (sym front)
          (subst (λ ops. IsCounted old.front.stamp old.front.snapshot ops (calls + 1)) (sym submits.1) taken);
    }

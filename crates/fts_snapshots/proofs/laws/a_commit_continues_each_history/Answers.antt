-- The rest of the proof of `laws::a_commit_continues_each_history`.
use Rattle.std.proofs.Common.{◌≡◌, ◌++◌, sym, ap, ◌∙◌}
use Rattle.std.proofs.lemmas.List.Elements.{recursion_from_All}
use Rattle.fts_model.specs.Operations.{alive, adds}
use Rattle.fts_snapshots.specs.Entries.{EntryValue}
use Rattle.fts_snapshots.proofs.CommitLemmas.{content-committed}
use Rattle.fts_snapshots.proofs.laws.a_commit_continues_each_history.Goals as goal

pub returns : goal.returns
returns c = λ s cut history batch i e rise.
    content-committed cut s.schema batch s.next_id s.entries (recursion_from_All (λ (f : EntryValue). f.segment.schema ≡ s.schema) s.entries i.schemas) rise
    ∙ ap (λ ds. alive s.schema (adds ds ++ batch)) e
    ∙ sym (c.alive_stands_for_history.ensures s.schema history batch)

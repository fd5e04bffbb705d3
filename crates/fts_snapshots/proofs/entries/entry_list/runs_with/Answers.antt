-- The rest of the proof of `entries::entry_list::runs_with`.
use Rattle.std.proofs.Common.{◌++◌, ap, ◌∙◌}
use Rattle.fts_snapshots.proofs.EntryListLemmas.{runs_joined}
use Rattle.fts_snapshots.proofs.entries.entry_list.runs_with.Goals as goal

pub returns : goal.returns
returns c =
    runs_joined c.runs_kept-kept.result c.args.runs.now c.in_ok-all.all.items c.push.new.self.items c.in_ok-new.field-0 c.args.more.items
    c.in_ok-all.ensures c.in_ok-push.ensures.items
    (ap (λ v. v.items) c.in_ok-new.ensures.ok ∙ c.in_ok-last.ensures ∙ ap (λ es. es ++ c.args.more.items) c.of.ensures)

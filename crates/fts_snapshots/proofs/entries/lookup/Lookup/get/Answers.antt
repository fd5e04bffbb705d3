-- The rest of the proof of `entries::lookup::Lookup::get`.
use Rattle.std.proofs.Common.{sym, subst, List, ◌∙◌}
use Rattle.std.specs.Slice.{IsItemAt}
use Rattle.fts_snapshots.specs.Entries.{EntryValue}
use Rattle.fts_snapshots.proofs.LookupLemmas.{entry_none, found_by_place}
use Rattle.fts_snapshots.proofs.entries.lookup.Lookup.get.Goals as goal

pub returns-in_default : goal.returns-in_default
returns-in_default c = entry_none c.args.self.now c.args.id (sym c.place_in.ensures ∙ c.in_default.is)

pub returns : goal.returns
returns c =
    found_by_place c.args.self.now c.args.id c.in-Some.place c.get.result (sym c.in-Some.ensures)
    (subst (λ (es : List EntryValue). IsItemAt es c.in-Some.place c.get.result) c.self.view_is c.get.ensures.lookup)

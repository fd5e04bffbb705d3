-- The rest of the proof of `entries::lookup::Lookup::is_there`.
use Rattle.std.proofs.Common.{◌∙◌, ap}
use Rattle.std.specs.Option.{is_some}
use Rattle.fts_snapshots.proofs.LookupLemmas.{there_by_place}
use Rattle.fts_snapshots.proofs.entries.lookup.Lookup.is_there.Goals as goal

pub returns : goal.returns
returns c = c.is_some.ensures ∙ ap is_some c.place_in.ensures ∙ there_by_place c.args.self.now c.args.id

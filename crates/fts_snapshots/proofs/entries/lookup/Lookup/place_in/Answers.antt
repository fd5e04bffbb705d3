-- The rest of the proof of `entries::lookup::Lookup::place_in`.
use Rattle.std.proofs.Common.{◌∙◌, Ok, Err, ap, List}
use Rattle.fts_snapshots.specs.Entries.{EntryValue}
use Rattle.fts_snapshots.specs.Lookups.{place_in}
use Rattle.fts_snapshots.proofs.LookupLemmas.{place_searched}
use Rattle.fts_snapshots.proofs.entries.lookup.Lookup.place_in.Goals as goal

pub returns-in-Ok : goal.returns-in-Ok
returns-in-Ok c =
    let inside = c.self.inside in
    place_searched inside.entries.now c.deref.result.now c.args.id (Ok c.in-Ok.place) c.self.invariant.1 (c.deref.ensures.value ∙ c.self.invariant.0)
    c.in-Ok.ensures.position
    ∙ ap (λ (es : List EntryValue). place_in es c.args.id) c.self.view_is

pub returns-in-Err : goal.returns-in-Err
returns-in-Err c =
    let inside = c.self.inside in
    place_searched inside.entries.now c.deref.result.now c.args.id (Err c.in-Err.field-0) c.self.invariant.1 (c.deref.ensures.value ∙ c.self.invariant.0)
    c.in-Err.ensures.position
    ∙ ap (λ (es : List EntryValue). place_in es c.args.id) c.self.view_is

use Rattle.std.proofs.Common.{◌≡◌, ◌<◌, ℕ, All, ap, sym, ◌∙◌, length, subst}
use Rattle.std.specs.List.{fold}
use Rattle.fts_model.specs.Operations.{has}
use Rattle.fts_merge.specs.Internals.Deletes.{cleared}
use Rattle.fts_merge.proofs.DeletesLemmas.{postings-within, cleared_where}
use Rattle.fts_merge.proofs.live_strike.strike_by.Goals as goal

pub strike_list-requires-clause-within : goal.strike_list-requires-clause-within
strike_list-requires-clause-within c =
    let P : ℕ → Type 0 = λ n. n < length c.args.segment.now.documents in
    subst (All P) (sym c.requires.is) (postings-within c.args.segment.now c.args.delete.now.term.now)

pub returns : goal.returns
returns c =
    let s = c.args.segment.now in
    let delete = c.args.delete.now in
    c.strike_list.ensures ∙ ap (fold (cleared s.documents delete.stamp) c.args.live.now) c.requires.is
    ∙ cleared_where delete.stamp (λ d. has s.schema d.value delete.term.now) s.documents c.args.live.now c.requires.bits

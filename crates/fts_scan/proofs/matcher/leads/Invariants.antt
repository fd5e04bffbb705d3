use Rattle.std.proofs.Common.{◌≡◌, drop}
use Rattle.std.specs.List.{list_all}
use Rattle.fts_text.specs.Tokens.{tokens_of_texts}
use Rattle.fts_text.specs.Places.{token_at}
use Rattle.fts_model.specs.Queries.{stands_with}
use Rattle.fts_scan.specs.Scans.{strings}
use Rattle.fts_scan.proofs.matcher.leads.Given as goal

-- the other members are at their offsets if those that are left are
abbrev pub invariant-loop-other : goal.invariant-loop-other
invariant-loop-other l =
    let ts = tokens_of_texts 0 (strings l.fn.texts) in
    list_all (stands_with ts l.first (token_at l.text l.fn.place)) (drop l.other-index l.others)
    ≡ list_all (stands_with ts l.first (token_at l.text l.fn.place)) l.others

-- The first document of all.
use Rattle.std.proofs.Common.{◌≡◌, length, List, ℕ, IfSome, sym, subst, ◌∙◌, arith}
use Rattle.fts_postings.proofs.RemainingLemmas.{at_least_all}
use Rattle.fts_sets.proofs.CursorLemmas.{IsSetCursor-found}
use Rattle.fts_sets.proofs.set_cursor.SetCursor.new.Goals as goal

pub invariant_of-result : goal.invariant_of-result
invariant_of-result c =
    let f = c.find_at-at.ensures in
    let all = f.same ∙ at_least_all 0 0 c.args.set f.rises (omega arith) in
    IsSetCursor-found c.args.set 0 c.find_at-at.result c.args.total c.find_at-at.new.window f
    (subst (λ (xs : List ℕ). IfSome c.args.total (λ n. n ≡ length xs)) (sym all) c.requires)

pub returns : goal.returns
returns c = c.find_at-at.ensures.same ∙ at_least_all 0 0 c.args.set c.find_at-at.ensures.rises (omega arith)

use Rattle.std.proofs.Common.{◌≡◌, ap, sym, ◌∙◌, length, not, nat_lt, subst, All, Bool, List, ℕ}
use Rattle.std.proofs.lemmas.List.Sorted.{All-permutation}
use Rattle.fts_model.specs.declared.operation.Stamped.{Stamped}
use Rattle.fts_model.specs.Documents.{DocumentValue}
use Rattle.fts_merge.specs.Strikes.{bits_where}
use Rattle.fts_merge.specs.declared.term_delete.TermDelete.{TermDelete}
use Rattle.fts_merge.specs.Internals.Deletes.{IsFound, survives_terms, survives_found}
use Rattle.fts_merge.proofs.BitsLemmas.{length-bits_where}
use Rattle.fts_merge.proofs.DeletesLemmas.{bits_after-steps}
use Rattle.fts_merge.proofs.FoundLemmas.{bits_where-alike}
use Rattle.fts_merge.proofs.live_strike.strike.Goals as goal

pub strike_found-requires-clause-bits : goal.strike_found-requires-clause-bits
strike_found-requires-clause-bits c =
    let p : Stamped DocumentValue → Bool = λ d. not (nat_lt d.stamp c.bound.result) in
    let same : length c.in_ok-left.left ≡ length c.args.segment.now.documents = ap length c.in_ok-left.ensures.ok ∙ c.requires in
    ap length c.strike_all.ensures ∙ length-bits_where p c.args.segment.now.documents c.in_ok-left.left same

pub strike_found-requires-clause-are : goal.strike_found-requires-clause-are
strike_found-requires-clause-are c =
    let s = c.args.segment.now in
    let P : List TermDelete → Type 0 = All (IsFound s) in
    subst P (sym c.deref.ensures.value) (All-permutation (IsFound s) c.in_ok-deletes.deletes.items c.sort_unstable_by.new.self.items
    c.sort_unstable_by.ensures.permutation c.in_ok-deletes.ensures.are)

pub returns-clause-ok : goal.returns-clause-ok
returns-clause-ok c =
    let s = c.args.segment.now in
    let ops = c.args.ops.now in
    let left = c.strike_all.new.live in
    let p : ℕ → Stamped DocumentValue → Bool = λ bound d. not (nat_lt d.stamp bound) in
    c.strike_found.ensures
    ∙ ap (λ deletes. bits_where (survives_found s.schema deletes) s.documents left) c.deref.ensures.value
    ∙ bits_where-alike s.schema s.documents left c.in_ok-deletes.deletes.items c.sort_unstable_by.new.self.items ops c.sort_unstable_by.ensures.permutation
    c.in_ok-deletes.ensures.alike
    ∙ ap (bits_where (survives_terms s.schema ops) s.documents)
    (c.strike_all.ensures ∙ ap (λ bound. bits_where (p bound) s.documents c.in_ok-left.left) c.bound.ensures ∙ ap (bits_where (p _) s.documents)
    c.in_ok-left.ensures.ok)
    ∙ bits_after-steps s.schema ops s.documents c.args.live.now

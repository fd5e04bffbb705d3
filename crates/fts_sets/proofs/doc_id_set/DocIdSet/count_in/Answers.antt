-- The bits tell what the set has.
use Rattle.std.proofs.Common.{◌≡◌, ℕ, IfSome, length, take, sym, ap, subst, ◌∙◌}
use Rattle.fts_postings.specs.Sets.{has}
use Rattle.fts_postings.specs.Windows.{is_set}
use Rattle.fts_sets.proofs.SetLemmas.{filter-agree}
use Rattle.fts_sets.proofs.doc_id_set.DocIdSet.count_in.Goals as goal

pub returns-in-Some : goal.returns-in-Some
returns-in-Some c =
    let set = c.args.self.now in
    let same : (d : ℕ) → has set d ≡ is_set c.in-Some.bits.now d =
    subst (λ found. IfSome found (λ bits. (d : ℕ) → has set d ≡ is_set bits.now d)) c.in-Some.is c.bits.ensures in
    c.count_set.ensures ∙ sym (ap length (filter-agree (has set) (is_set c.in-Some.bits.now) (take c.args.end c.args.docs.now) same))

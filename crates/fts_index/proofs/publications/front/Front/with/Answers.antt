use Rattle.std.proofs.Common.{◌≡◌, ◌+◌, ◌==◌, ◌++◌, true, [], ◌∷◌, refl, ap, sym, ◌∙◌, subst, arith, length, eq-eqb, length-append}
use Rattle.std.specs.Prelude.{MatchBool}
use Rattle.std.specs.Arc.{arc_value}
use Rattle.fts_snapshots.specs.declared.commit_point.CommitPoint.{CommitPoint}
use Rattle.fts_index.specs.declared.publications.publication.Publication.{Publication}
use Rattle.fts_index.specs.Publications.{FrontValue, newest, publication, Follows, ArePublications}
use Rattle.fts_index.proofs.PublicationsLemmas.{published_snoc, fold_last}
use Rattle.fts_index.proofs.PublicationsStepsLemmas.{append_moves}
use Rattle.fts_index.proofs.publications.front.Front.with.Goals as goal

-- what is published by a commit
abbrev pair : CommitPoint → Publication
pair commit = publication commit.stamp commit.snapshot

pub compare_exchange-found-requires : goal.compare_exchange-found-requires
compare_exchange-found-requires c =
    let h = c.requires.head in
    let seen = c.again-seen.ensures in
    let offer = c.plain-offer.ensures in
    let pen = c.no_pen-pen.ensures in
    let book : c.again-seen.result.book ≡ c.args.head.now.book = ap (λ s. s.book) seen ∙ (ap (λ f. f.seen.of) c.self.view_is ∙ sym (ap (λ w. w.book) h)) in
    let about : c.deref-about.result.now ≡ arc_value c.args.commit = c.deref-about.ensures in
    let follows : Follows (newest c.self.inside.seen.log) (pair (arc_value c.args.commit)) =
    rw (c.self.invariant.1) (subst (λ (f : FrontValue). Follows (publication f.stamp f.snapshot) (pair (arc_value c.args.commit))) (sym c.self.view_is)
    c.requires.follows) in
    let legal : ArePublications (c.again-seen.result.log ++ pair c.deref-about.result.now ∷ []) =
    rw (seen, about) (published_snoc _ _ c.self.invariant.2 follows) in (
      ap (λ w. w.tracked) h,
      book,
      pen.0 ∙ book,
      offer.0,
      rw (ap (λ w. w.key) h, pen.1, offer.1, offer.3) (append_moves c.again-seen.result.log (pair c.deref-about.result.now) c.self.inside.count
          (c.self.inside.count + 1) refl (rw seen c.self.invariant.0) legal),
    )

pub invariant_of-result : goal.invariant_of-result
invariant_of-result c =
    let seen = c.again-seen.ensures in
    let offer = c.plain-offer.ensures in
    let about : c.deref-about.result.now ≡ arc_value c.args.commit = c.deref-about.ensures in
    let next = pair (arc_value c.args.commit) in
    let follows : Follows (newest c.self.inside.seen.log) next =
    rw (c.self.invariant.1) (subst (λ (f : FrontValue). Follows (publication f.stamp f.snapshot) next) (sym c.self.view_is) c.requires.follows) in
    let found : (c.compare_exchange-found.result == c.self.inside.count) ≡ true =
    eq-eqb c.compare_exchange-found.result c.self.inside.count c.if-found-expected.false in
    let added : c.compare_exchange-found.new.seen.log ≡ c.again-seen.result.log ++ c.plain-offer.result.ask ∷ [] =
    subst (λ b. MatchBool b (c.compare_exchange-found.new.seen.log ≡ c.again-seen.result.log ++ c.plain-offer.result.ask ∷ []) (Unit {0})) found
    c.compare_exchange-found.ensures.7 in
    let full : c.compare_exchange-found.new.seen.log ≡ c.self.inside.seen.log ++ next ∷ [] =
    added ∙ (λ i. (seen i).log ++ ((offer.1 ∙ ap pair about) i) ∷ []) in (
      omega (arith, c.self.invariant.0, ap length full, length-append c.self.inside.seen.log (next ∷ [])),
      ap newest full ∙ fold_last _ c.self.inside.seen.log next,
      subst ArePublications (sym full) (published_snoc _ _ c.self.invariant.2 follows),
      c.requires.stamped,
    )

-- One document more is asked for.
use Rattle.std.proofs.Common.{◌≡◌, ◌+◌, get_or, not, refl, ap, ◌∙◌, arith}
use Rattle.fts_postings.specs.Sets.{lacks}
use Rattle.fts_sets.proofs.KeptLemmas.{keeps_more, keeps_none}
use Rattle.fts_cursor.proofs.ExclusionLemmas.{before_low, front_all, has-narrowed, still_there}
use Rattle.fts_cursor.proofs.PartsLemmas.{TreeContinues-same, TreeContinues-trans}
use Rattle.fts_cursor.proofs.tree.exclusion.keep_lacking.Goals as goal

pub loop-index-init : goal.loop-index-init
loop-index-init c = record {
  keeps = keeps_none (lacks c.args.dropped.now.remaining) c.args.docs.now;
  later = λ d all. refl;
  continues = TreeContinues-same c.args.dropped.now;
}

pub loop-index-preserved : goal.loop-index-preserved
loop-index-preserved c =
    let l = c.loop-index in
    let docs = c.args.docs.now in
    let p = lacks c.args.dropped.now.remaining in
    let doc = get_or l.docs l.index 0 in
    let same : doc ≡ get_or docs l.index 0 = still_there p docs l.docs l.kept l.index l.invariant.keeps in
    let low = before_low docs l.index c.args.end c.requires.rises (omega arith) (omega (arith, c.requires.room)) in
    let test : not c.meets.result ≡ p doc = ap not (c.meets.ensures.met ∙ l.invariant.later doc (rw same low)) in
    record {
      keeps = keeps_more p docs l.docs l.kept l.index doc _ (not c.meets.result) l.invariant.keeps (omega arith) refl test
          (ap (λ n. l.kept + n) c.from-kept.ensures);
      later = λ d all.
          let front = front_all docs l.index c.args.end c.requires.rises (omega arith) (omega (arith, c.requires.room)) d all in
          has-narrowed doc l.dropped c.meets.new.dropped c.meets.ensures.narrowed d (omega (arith, same, front.1)) ∙ l.invariant.later d front.0;
      continues = TreeContinues-trans _ _ _ l.invariant.continues c.meets.ensures.narrowed.continues;
    }

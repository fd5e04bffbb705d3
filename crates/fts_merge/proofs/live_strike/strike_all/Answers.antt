use Rattle.std.proofs.Common.{◌≡◌, ap, sym, ◌∙◌, arith, length, not, nat_lt, false}
use Rattle.std.specs.List.{fold, range_with_len}
use Rattle.std.proofs.lemmas.Bool.Decides.{nat_tests}
use Rattle.std.proofs.lemmas.List.Sums.{fold_push}
use Rattle.fts_merge.specs.Internals.Deletes.{cleared}
use Rattle.fts_merge.proofs.BitsLemmas.{bits_where-all}
use Rattle.fts_merge.proofs.DeletesLemmas.{length-cleared, range_more, cleared_all}
use Rattle.fts_merge.proofs.live_strike.strike_all.Goals as goal

pub loop-document-preserved : goal.loop-document-preserved
loop-document-preserved c =
    let f = cleared c.args.segment.now.documents c.args.stamp in
    let n = c.loop-document.document in
    record {
      bits = omega (
        arith,
        ap length c.strike_document.ensures,
        length-cleared c.args.segment.now.documents c.args.stamp c.loop-document.live n,
        c.loop-document.invariant.bits,
      );
      struck = c.strike_document.ensures ∙ ap (λ bs. f bs n) c.loop-document.invariant.struck ∙ sym (fold_push f c.args.live.now (range_with_len 0 n) n)
          ∙ ap (fold f c.args.live.now) (sym (range_more n));
    }

pub returns-after-loop-document : goal.returns-after-loop-document
returns-after-loop-document c =
    let all : c.loop-document.document ≡ length c.args.segment.now.documents = omega (arith, c.docs-document-end.ensures, c.loop-document.auto.document-end) in
    c.loop-document.invariant.struck
    ∙ ap (λ n. fold (cleared c.args.segment.now.documents c.args.stamp) c.args.live.now (range_with_len 0 n)) all
    ∙ cleared_all c.args.stamp c.args.segment.now.documents c.args.live.now c.requires

pub returns-else-stamp-gt0 : goal.returns-else-stamp-gt0
returns-else-stamp-gt0 c =
    sym (bits_where-all (λ d. not (nat_lt d.stamp c.args.stamp)) (λ d. let none : nat_lt d.stamp c.args.stamp ≡ false =
    grind (arith, nat_tests, c.if-stamp-gt0.false) in ap not none) c.args.segment.now.documents c.args.live.now c.requires)

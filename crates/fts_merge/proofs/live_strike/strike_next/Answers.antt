use Rattle.std.proofs.Common.{◌≡◌, ◌+◌, ap, sym, ◌∙◌, length, not, take, subst, Bool}
use Rattle.std.proofs.lemmas.List.Elements.{All-get_or}
use Rattle.fts_model.specs.declared.operation.Stamped.{Stamped}
use Rattle.fts_model.specs.Documents.{DocumentValue}
use Rattle.fts_merge.specs.Strikes.{bits_where}
use Rattle.fts_merge.specs.declared.term_delete.TermDelete.{TermDelete}
use Rattle.fts_merge.specs.Internals.Deletes.{IsFound, strikes_found, survives_found}
use Rattle.fts_merge.proofs.BitsLemmas.{length-bits_where, bits_where-same}
use Rattle.fts_merge.proofs.FoundLemmas.{survives_found-more}
use Rattle.fts_merge.proofs.live_strike.strike_next.Goals as goal

pub strike_by-requires-clause-is : goal.strike_by-requires-clause-is
strike_by-requires-clause-is c =
    let P : TermDelete → Type 0 = IsFound c.args.segment.now in
    subst P (sym c.index-deletes-number.is) (All-get_or P c.args.deletes.now c.args.number c.index-deletes-number.result c.requires.within c.requires.are)

pub returns-then-is_covered : goal.returns-then-is_covered
returns-then-is_covered c =
    let s = c.args.segment.now in
    let n = c.args.number in
    let deletes = c.args.deletes.now in
    record {
      bits = c.requires.bits;
      struck = λ before e. e ∙ bits_where-same (survives_found s.schema (take n deletes)) (survives_found s.schema (take (n + 1) deletes))
          (λ d. c.is_covered.ensures c.if-is_covered.true s.schema d) s.documents before;
    }

pub returns : goal.returns
returns c =
    let s = c.args.segment.now in
    let n = c.args.number in
    let deletes = c.args.deletes.now in
    let delete = c.index-deletes-number.result in
    let q : Stamped DocumentValue → Bool = λ d. not (strikes_found s.schema delete d) in
    record {
      bits = ap length c.strike_by.ensures ∙ length-bits_where q s.documents c.args.live.now c.requires.bits;
      struck = λ before e. c.strike_by.ensures ∙ ap (bits_where q s.documents) e ∙ survives_found-more s.schema s.documents before deletes n delete
          c.requires.within c.index-deletes-number.is;
    }

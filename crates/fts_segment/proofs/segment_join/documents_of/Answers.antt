use Rattle.std.proofs.Common.{◌≤◌, All, length, subst, arith, ◌∙◌, sym, ap, append-nil, ◌++◌}
use Rattle.std.proofs.lemmas.List.{drop_all, take_all}
use Rattle.std.proofs.lemmas.List.Elements.{All-more}
use Rattle.fts_model.specs.Documents.{IsDocument}
use Rattle.fts_segment.specs.Segments.{AllFit, AreDocuments}
use Rattle.fts_segment.specs.Sources.{SourceValue, contents, schema_of}
use Rattle.fts_segment.proofs.SourceLemmas.{All-contents, contents-taken, fit-contents, length-contents}
use Rattle.fts_segment.proofs.segment_join.documents_of.Goals as goal

pub loop-source-preserved : goal.loop-source-preserved
loop-source-preserved c =
    let ss = c.args.sources.now in
    let i = c.loop-source.source-index in
    let s = c.source-item.result in
    let Fit : SourceValue → Type 0 = λ s. AllFit s.segment.schema s.segment.documents in
    let Are : SourceValue → Type 0 = λ s. AreDocuments s.segment.documents in
    record {
      taken = contents-taken c.take_live.new.documents.items c.loop-source.documents.items ss i s (contents ss) c.loop-source-test.true c.source-item.is
          c.in_ok-take_live.ensures.documents c.loop-source.invariant.taken;
      fit = All-more Fit ss i s c.loop-source-test.true c.loop-source.invariant.fit (subst Fit c.source-item.is c.take_live.ensures.fit);
      are = All-more Are ss i s c.loop-source-test.true c.loop-source.invariant.are (subst Are c.source-item.is c.take_live.ensures.are);
    }

pub returns-clause-documents : goal.returns-clause-documents
returns-clause-documents c =
    let ss = c.args.sources.now in
    let i = c.loop-source.source-index in
    let past : length ss ≤ i = omega (arith, c.loop-source-test.false) in
    c.shrink_to_fit.ensures.items ∙ sym (append-nil c.loop-source.documents.items) ∙ ap (λ xs. c.loop-source.documents.items ++ contents xs)
    (sym (drop_all i ss past)) ∙ c.loop-source.invariant.taken

pub returns-clause-fit : goal.returns-clause-fit
returns-clause-fit c =
    let ss = c.args.sources.now in
    let i = c.loop-source.source-index in
    let Fit : SourceValue → Type 0 = λ s. AllFit s.segment.schema s.segment.documents in
    fit-contents (schema_of ss) ss c.requires (subst (All Fit) (take_all i ss (omega (arith, c.loop-source-test.false))) c.loop-source.invariant.fit)

pub returns-clause-are : goal.returns-clause-are
returns-clause-are c =
    let ss = c.args.sources.now in
    let i = c.loop-source.source-index in
    let Are : SourceValue → Type 0 = λ s. AreDocuments s.segment.documents in
    All-contents (λ d. IsDocument d.value) ss (subst (All Are) (take_all i ss (omega (arith, c.loop-source-test.false))) c.loop-source.invariant.are)

pub returns-clause-few : goal.returns-clause-few
returns-clause-few c = length-contents c.args.sources.now

pub returns-in_err-take_live-clause-few : goal.returns-in_err-take_live-clause-few
returns-in_err-take_live-clause-few c = length-contents c.args.sources.now

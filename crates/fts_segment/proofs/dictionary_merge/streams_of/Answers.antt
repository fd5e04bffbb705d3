use Rattle.std.proofs.Common.{◌≡◌, ◌+◌, All, Some, List, take, drop, subst, arith, ◌∙◌, sym, ap, count_by, ◌++◌, ◌∷◌, []}
use Rattle.std.proofs.lemmas.List.{take_all, take_more}
use Rattle.std.proofs.lemmas.List.Elements.{All-more}
use Rattle.fts_model.specs.Operations.{kind_at}
use Rattle.fts_segment.specs.Occurrences.{values_in, HasFewTokens}
use Rattle.fts_segment.specs.Parts.{AreParts, IsPart}
use Rattle.fts_segment.specs.Sources.{SourceValue, HasBits, live_count}
use Rattle.fts_segment.proofs.SourceLemmas.{AreParts-push, dropped, live_count-cons, live_count-push, live_in}
use Rattle.fts_segment.proofs.dictionary_merge.streams_of.Goals as goal

pub stream_of-requires-clause-kind : goal.stream_of-requires-clause-kind
stream_of-requires-clause-kind c =
    let Q : SourceValue → Type 0 = λ s. kind_at s.segment.schema c.args.field ≡ Some c.args.kind in
    subst Q (sym c.source-item.is) (c.requires.kinds c.loop-source.source-index c.source-item.result c.loop-source-test.true)

pub stream_of-requires-clause-room : goal.stream_of-requires-clause-room
stream_of-requires-clause-room c =
    let ss = c.args.sources.now in
    let i = c.loop-source.source-index in
    let s = c.source-item.result in
    omega (
      arith,
      c.requires.few,
      c.loop-source.invariant.left,
      ap live_count (dropped ss i s c.loop-source-test.true c.source-item.is),
      live_count-cons s
          (drop (i + 1) ss),
    )

pub loop-source-preserved : goal.loop-source-preserved
loop-source-preserved c =
    let ss = c.args.sources.now in
    let i = c.loop-source.source-index in
    let s = c.source-item.result in
    let kind = c.args.kind in
    let field = c.args.field in
    let more : take (i + 1) ss ≡ take i ss ++ s ∷ [] =
    take_more ss i s c.loop-source-test.true ∙ ap (λ (t : SourceValue). take i ss ++ t ∷ []) (sym c.source-item.is) in
    let count : c.count_ones.result ≡ live_in s = c.count_ones.ensures ∙ ap (count_by (λ bit. bit)) c.live.ensures.live in
    let next : c.loop-source.next + c.count_ones.result ≡ live_count (take (i + 1) ss) =
    omega (arith, count, c.loop-source.invariant.next, ap live_count more, live_count-push (take i ss) s) in
    let Few : SourceValue → Type 0 = λ s. All (HasFewTokens kind) (values_in field s.segment.documents) in
    let there : IsPart kind field (0 + live_count (take i ss)) s c.in_ok-stream_of.field-0 =
    subst (λ n. IsPart kind field n s c.in_ok-stream_of.field-0) (let at : c.loop-source.next ≡ 0 + live_count (take i ss) =
    omega (arith, c.loop-source.invariant.next) in at) c.in_ok-stream_of.ensures.is in
    record {
      next = next;
      left = omega (
        arith,
        count,
        c.loop-source.invariant.left,
        ap live_count (dropped ss i s c.loop-source-test.true c.source-item.is),
        live_count-cons s
            (drop (i + 1) ss),
      );
      are = rw (c.in_ok-push.ensures.items, more) (AreParts-push kind field 0 (take i ss) c.loop-source.parts.items s c.in_ok-stream_of.field-0
          c.loop-source.invariant.are there);
      few = All-more Few ss i s c.loop-source-test.true c.loop-source.invariant.few (subst Few c.source-item.is c.in_ok-stream_of.ensures.few);
      bits = All-more HasBits ss i s c.loop-source-test.true c.loop-source.invariant.bits (subst HasBits c.source-item.is c.stream_of.ensures.bits);
    }

pub returns-clause-are : goal.returns-clause-are
returns-clause-are c =
    let ss = c.args.sources.now in
    subst (λ (xs : List SourceValue). AreParts c.args.kind c.args.field 0 xs c.loop-source.parts.items)
    (take_all c.loop-source.source-index ss (omega (arith, c.loop-source-test.false))) c.loop-source.invariant.are

pub returns-clause-few : goal.returns-clause-few
returns-clause-few c =
    let Few : SourceValue → Type 0 = λ s. All (HasFewTokens c.args.kind) (values_in c.args.field s.segment.documents) in
    subst (All Few) (take_all c.loop-source.source-index c.args.sources.now (omega (arith, c.loop-source-test.false))) c.loop-source.invariant.few

pub returns-clause-bits : goal.returns-clause-bits
returns-clause-bits c =
    subst (All HasBits) (take_all c.loop-source.source-index c.args.sources.now (omega (arith, c.loop-source-test.false))) c.loop-source.invariant.bits

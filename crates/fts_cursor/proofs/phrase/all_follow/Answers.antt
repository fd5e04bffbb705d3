-- The positions of each of the other members lie where its posting does.
use Rattle.std.proofs.Common.{◌≡◌, ℕ, ◌+◌, ◌==◌, ◌&&◌, List, [], Some, drop, get_or, ap, sym, ◌∙◌, arith}
use Rattle.std.specs.List.{list_all, list_any, slice_get}
use Rattle.fts_cursor.specs.declared.phrase.Member.{Member}
use Rattle.fts_postings.specs.Conjoined.{common_of}
use Rattle.fts_cursor.specs.Phrases.{is_behind}
use Rattle.fts_cursor.proofs.PhraseLemmas.{all_drop, as_many, other_positions, others_few, put_back}
use Rattle.fts_cursor.proofs.phrase.all_follow.Goals as goal
use Rattle.fts_cursor.proofs.phrase.all_follow.Goals.{After-follows}

pub other_posting-requires-clause-inside : goal.other_posting-requires-clause-inside
other_posting-requires-clause-inside c = omega (arith, as_many c.args.terms.now c.requires.members.0 c.args.others.now c.requires.members.1, c.loop-k-test.true)

pub other_posting-requires-clause-few : goal.other_posting-requires-clause-few
other_posting-requires-clause-few c = others_few c.args.terms.now c.requires.members.0 c.args.others.now c.requires.members.1

-- the next of the members that are left
next : (c : After-follows) (doc : ℕ) → slice_get (common_of c.args.terms.now) 0 ≡ Some doc →
    list_all (is_behind c.args.offset c.args.position doc) (drop c.loop-k.k c.args.others.now)
    ≡ (c.follows.result && list_all (is_behind c.args.offset c.args.position doc) (drop (c.loop-k.k + 1) c.args.others.now))
next c doc here =
    let f = is_behind c.args.offset c.args.position doc in
    let m = c.index-others-k.result in
    let is : m ≡ get_or c.args.others.now c.loop-k.k m = c.index-others-k.is ∙ ap (λ (ms : List Member). get_or ms c.loop-k.k m) c.loop-k.invariant.same in
    let at = other_positions c.args.terms.now c.requires.members.0 c.args.others.now c.loop-k.k c.other_posting.result doc m c.requires.members.1 is
    c.loop-k-test.true c.other_posting.ensures here in
    let stands = ap (λ (x : Member). list_any (λ q. q + c.args.offset == c.args.position + x.offset) (get_or x.positions c.other_posting.result []))
    (sym c.index-others-k.is) in
    let behind : f m ≡ c.follows.result = sym (c.follows.ensures.follows ∙ stands ∙ ap (list_any (λ q. q + c.args.offset == c.args.position + m.offset)) at) in
    all_drop f c.args.others.now c.loop-k.k m c.loop-k-test.true is ∙ ap (λ b. b && list_all f (drop (c.loop-k.k + 1) c.args.others.now)) behind

pub loop-k-preserved : goal.loop-k-preserved
loop-k-preserved c = record {
  follow = λ doc here.
      let f = is_behind c.args.offset c.args.position doc in
      sym (next (goal.at.loop-k-preserved c).After-follows doc here ∙ ap (λ b. b && list_all f (drop (c.loop-k.k + 1) c.args.others.now))
      c.if-not-follows.false)
      ∙ c.loop-k.invariant.follow doc here;
  same = put_back c.loop-k.others c.loop-k.k c.index-others-k.result c.follows.new.member c.follows.ensures.same ∙ c.loop-k.invariant.same;
}

pub returns-then-not-follows-clause-follow : goal.returns-then-not-follows-clause-follow
returns-then-not-follows-clause-follow c = λ doc here.
    let f = is_behind c.args.offset c.args.position doc in
    sym (sym (c.loop-k.invariant.follow doc here) ∙ next (goal.at.returns-then-not-follows-clause-follow c).After-follows doc here
    ∙ ap (λ b. b && list_all f (drop (c.loop-k.k + 1) c.args.others.now)) c.if-not-follows.true)

pub returns-then-not-follows-clause-same : goal.returns-then-not-follows-clause-same
returns-then-not-follows-clause-same c = put_back c.loop-k.others c.loop-k.k c.index-others-k.result c.follows.new.member c.follows.ensures.same
    ∙ c.loop-k.invariant.same

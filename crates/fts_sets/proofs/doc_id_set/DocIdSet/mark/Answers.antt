-- The words of a row are marked.
use Rattle.std.proofs.Common.{◌≡◌, ◌&&◌, ◌||◌, ◌+◌, ◌*◌, ◌/◌, ◌==◌, length, nat_le, refl, sym, take, ap, ◌∙◌, arith, rules}
use Rattle.std.specs.Int.{bit_at}
use Rattle.std.proofs.lemmas.List.{get_or-take, length-take}
use Rattle.fts_postings.specs.Sets.{has}
use Rattle.fts_postings.specs.Windows.{found_in, is_found}
use Rattle.fts_sets.proofs.MarkLemmas.{MarkedBelow, MarkedBelow-all, MarkedBelow-more, MarkedBelow-none, found_marked}
use Rattle.fts_sets.proofs.doc_id_set.DocIdSet.mark.Goals as goal

pub loop-index-init : goal.loop-index-init
loop-index-init c =
    let w = c.args.window.now in
    record {
      low = omega arith;
      base_is = refl;
      from_is = refl;
      last_is = refl;
      marked = MarkedBelow-none (has c.args.self.now) w.base w.last c.args.first w.words (64 * (c.args.first / 64)) (omega arith);
    }

pub loop-index-preserved : goal.loop-index-preserved
loop-index-preserved c =
    let l = c.loop-index in
    let w = c.args.window.now in
    let n = c.mark_words.new.self in
    let test = has c.args.self.now in
    let row = c.row-row.result in
    let words = c.min-words.result in
    let told = take words row in
    let long : length row ≡ 16 = search rules in
    let size : length told ≡ words = omega (arith, length-take words row, long, c.min-words.ensures) in
    let base : n.base ≡ w.base = c.mark_words.ensures.base ∙ l.invariant.base_is in
    let next : 64 * l.index + 64 * length told ≡ 64 * (l.index + words) = omega (arith, size) in
    let marked : MarkedBelow test w.base w.last c.args.first w.words n.words (64 * l.index + 64 * length told) =
    MarkedBelow-more test w.base w.last c.args.first w.words l.window.words n.words told (64 * l.index) l.invariant.marked
    (λ k j inside low.
    let at : 64 * (l.index + k) + j ≡ 64 * l.index + 64 * k + j = omega arith in
    ap (λ m. bit_at m j == 1) (get_or-take words row k 0 (omega (arith, inside, size)))
    ∙ c.row-row.ensures k (omega (arith, inside, size)) j low ∙ ap (λ d. nat_le c.args.first d && test d) at)
    (λ d up down. ap (λ b. is_found b n.words d) (sym base) ∙ c.mark_words.ensures.marked d (omega (arith, up, l.invariant.base_is))
    (omega (arith, down, l.invariant.last_is))
    ∙ ap (λ b. is_found b l.window.words d || (nat_le (64 * l.index) d && is_found (64 * l.index) told d)) l.invariant.base_is) in
    record {
      low = omega (arith, l.invariant.low);
      base_is = base;
      from_is = c.mark_words.ensures.place.0 ∙ l.invariant.from_is;
      last_is = c.mark_words.ensures.place.1 ∙ l.invariant.last_is;
      marked = rw (← next) marked;
    }

pub returns-clause-marked : goal.returns-clause-marked
returns-clause-marked c d =
    let w = c.args.window.now in
    let n = c.loop-index.window in
    let same = c.loop-index.invariant in
    let test = has c.args.self.now in
    ap (λ xs. has xs d) (ap (λ b. found_in b n.from n.last n.words) same.base_is ∙ ap (λ f. found_in w.base f n.last n.words) same.from_is
    ∙ ap (λ l. found_in w.base w.from l n.words) same.last_is)
    ∙ found_marked w.base w.from w.last w.words n.words test c.args.first w.order c.requires
    (MarkedBelow-all test w.base w.last c.args.first w.words n.words (64 * c.loop-index.index) (omega (arith, same.last_is)) same.marked) d

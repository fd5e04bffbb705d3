use Rattle.std.proofs.Common.{◌≡◌, ◌∙◌, ◌++◌, [], List, sym, ap, subst, arith, length, length-append}
use Rattle.std.specs.List.Sorted.{IsPermutation}
use Rattle.std.proofs.lemmas.List.{nil_from_length}
use Rattle.fts_model.specs.declared.answer.Hit.{Hit}
use Rattle.fts_parts.specs.Parts.{PartValue}
use Rattle.fts_parts.specs.Internals.Joins.{all_hits, hits_in}
use Rattle.fts_parts.proofs.ApartLemmas.{once-permuted}
use Rattle.fts_parts.proofs.FirstLemmas.{first_of-permuted}
use Rattle.fts_parts.proofs.PartsLemmas.{all_hits-push, all_hits-moved}
use Rattle.fts_parts.proofs.top.joined_top.Goals as goal

pub loop-part-preserved : goal.loop-part-preserved
loop-part-preserved c =
    let all = all_hits c.args.parts.items in
    let rest = c.pop.new.self.items in
    let part = c.in-Some.part in
    let P : List PartValue → Type 0 = λ parts. IsPermutation all (all_hits parts ++ c.loop-part.list.items) in
    let Q : List Hit → Type 0 = λ hits. IsPermutation all (all_hits rest ++ hits) in
    record {
      moved = subst Q (sym c.move_hits.ensures.items)
          (all_hits-moved all rest part c.loop-part.list.items (subst P c.in-Some.ensures.items c.loop-part.invariant.moved));
      room = omega (
        arith,
        c.move_hits.ensures.len,
        c.move_hits.ensures.room,
        c.loop-part.invariant.room,
        ap (λ parts. length (all_hits parts))
            c.in-Some.ensures.items,
        ap length (all_hits-push rest part),
        length-append (all_hits rest) (hits_in part),
      );
    }

pub returns : goal.returns
returns c = λ apart.
    let all = all_hits c.args.parts.items in
    let list = c.loop-part.list.items in
    let none : c.loop-part.parts.items ≡ [] = nil_from_length c.loop-part.parts.items (omega (arith, c.loop-part.parts.ok.0, c.in_default.ensures.cases.0)) in
    let P : List PartValue → Type 0 = λ parts. IsPermutation all (all_hits parts ++ list) in
    let moved : IsPermutation all list = subst P none c.loop-part.invariant.moved in
    c.keep_first.ensures (once-permuted (λ (h : Hit). h.stamp) all list moved apart)
    ∙ sym (first_of-permuted c.args.wanted.k c.args.wanted.order all list apart moved)

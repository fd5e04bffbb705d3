-- What lies open of a list alone, or the first document that all have.
use Rattle.std.proofs.Common.{◌≡◌, [], length, rules, ap, arith, sym, ◌∙◌}
use Rattle.std.proofs.lemmas.Bool.{eqb-true}
use Rattle.std.proofs.lemmas.List.{nil_from_length}
use Rattle.fts_postings.specs.Conjoined.{common_of}
use Rattle.fts_postings.proofs.TakesLemmas.{no_first, no_stretch, stretch_of_one}
use Rattle.fts_postings.proofs.ConjoinedLemmas.{AllFollow-same, IsConjoined-alone, common_alone}
use Rattle.fts_postings.proofs.conjunction.Conjunction.take_stretch.Goals as goal

pub invariant_of-self : goal.invariant_of-self
invariant_of-self g c =
    let others = c.self.inside.others.items in
    let size : length others ≡ 0 = search (rules, eqb-true) in
    let none : others ≡ [] = nil_from_length others size in
    IsConjoined-alone c.take_block.new.self others none

pub returns-then-is_empty-clause-taken : goal.returns-then-is_empty-clause-taken
returns-then-is_empty-clause-taken g c =
    let others = c.self.inside.others.items in
    let size : length others ≡ 0 = search (rules, eqb-true) in
    let none : others ≡ [] = nil_from_length others size in
    let before = ap common_of (sym c.self.view_is) ∙ common_alone c.self.inside.lead others none in
    rw (before, common_alone c.take_block.new.self others none) c.take_block.ensures.taken

pub returns-in_default-clause-taken : goal.returns-in_default-clause-taken
returns-in_default-clause-taken g c =
    no_stretch (common_of c.args.self.now) c.args.out.now c.args.filled (no_first (common_of c.args.self.now) (sym c.in_default.is ∙ c.doc.ensures.first))
    c.requires

pub returns-in_default-clause-follows : goal.returns-in_default-clause-follows
returns-in_default-clause-follows g c = AllFollow-same c.args.self.now

pub returns-clause-taken : goal.returns-clause-taken
returns-clause-taken g c = stretch_of_one (common_of c.args.self.now) (common_of c.advance.new.self) c.args.out.now c.args.filled c.in-Some.doc
    c.in-Some.ensures.first c.requires (omega arith) c.advance.ensures.remaining

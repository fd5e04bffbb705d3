-- A document in which the phrase isn't is passed over.
use Rattle.std.proofs.Common.{◌≡◌, ◌∷◌, List, Some, false, refl, sym, ap, ap₂, ◌∙◌}
use Rattle.std.specs.List.{slice_get}
use Rattle.fts_cursor.specs.declared.phrase.Member.{Member}
use Rattle.fts_postings.specs.Conjoined.{common_of}
use Rattle.fts_cursor.specs.Phrases.{phrase_at}
use Rattle.fts_postings.proofs.ConjoinedLemmas.{AllFollow-same, AllFollow-trans}
use Rattle.fts_postings.proofs.SetLemmas.{dead_passed}
use Rattle.fts_cursor.proofs.PhraseLemmas.{members-follow}
use Rattle.fts_cursor.proofs.phrase.settle.Goals as goal

pub loop-doc-init : goal.loop-doc-init
loop-doc-init c = record { same = refl; follows = AllFollow-same c.args.terms.now; first = refl; others = refl }

pub stands-requires-clause-members : goal.stands-requires-clause-members
stands-requires-clause-members c =
    rw (c.loop-doc.invariant.first, c.loop-doc.invariant.others) (members-follow c.args.terms.now c.loop-doc.terms (c.args.first.now ∷ c.args.others.now)
    c.loop-doc.invariant.follows c.requires)

pub loop-doc-preserved : goal.loop-doc-preserved
loop-doc-preserved c =
    let test = phrase_at (c.args.first.now ∷ c.args.others.now) in
    let first : Some c.in-Some._doc ≡ slice_get (common_of c.loop-doc.terms) 0 = sym c.in-Some.is ∙ c.doc.ensures.first in
    let members : (c.loop-doc.first ∷ c.loop-doc.others) ≡ (c.args.first.now ∷ c.args.others.now) =
    ap₂ (λ (m : Member) (ms : List Member). m ∷ ms) c.loop-doc.invariant.first c.loop-doc.invariant.others in
    let passed : test c.in-Some._doc ≡ false = ap (λ (ms : List Member). phrase_at ms c.in-Some._doc) (sym members)
    ∙ sym (c.stands.ensures.stands c.in-Some._doc (sym first)) ∙ c.if-stands.false in
    record {
      same = dead_passed test (common_of c.loop-doc.terms) (common_of c.advance.new.self) c.in-Some._doc first passed c.advance.ensures.remaining
          ∙ c.loop-doc.invariant.same;
      follows = AllFollow-trans c.args.terms.now c.loop-doc.terms c.advance.new.self c.loop-doc.invariant.follows c.advance.ensures.follows;
      first = c.stands.ensures.first ∙ c.loop-doc.invariant.first;
      others = c.stands.ensures.others ∙ c.loop-doc.invariant.others;
    }

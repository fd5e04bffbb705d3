-- The phrase is in the documents that match.
use Rattle.std.proofs.Common.{◌≡◌, ℕ, ◌^◌, ◌<◌, ◌≤◌, None, List, [], ◌∷◌, length, ap, subst, sym, ◌∙◌, arith, rules}
use Rattle.std.proofs.lemmas.Result.{IfOk-weaker}
use Rattle.std.specs.List.{AllZip, filter}
use Rattle.fts_model.specs.QueryValues.{phrase}
use Rattle.fts_cursor.specs.Hits.{segment_hits}
use Rattle.fts_cursor.specs.Most.{most_for}
use Rattle.fts_postings.specs.Bounds.{Bound, most_at}
use Rattle.fts_cursor.specs.TreeValues.{TreeValue}
use Rattle.fts_cursor.specs.declared.phrase.Member.{Member}
use Rattle.fts_postings.specs.Conjoined.{Conjoined, each_remaining}
use Rattle.fts_postings.specs.Sets.{common}
use Rattle.fts_cursor.specs.Phrases.{phrase_at}
use Rattle.fts_postings.specs.Posting.{remaining_of}
use Rattle.fts_cursor.proofs.LeadingLemmas.{length_zip}
use Rattle.fts_cursor.proofs.MostLemmas.{HasLength, phrase_most}
use Rattle.fts_cursor.proofs.PhraseHits.{cursors_many, fresh_rest, lacking, made, some_members}
use Rattle.fts_cursor.proofs.PhraseLemmas.{members-follow}
use Rattle.fts_cursor.proofs.TermsLemmas.{terms-continue}
use Rattle.fts_cursor.proofs.query_tree.of_phrase.Goals.{After-place_of_least-shortest}
use Rattle.fts_cursor.proofs.query_tree.of_phrase.Goals as goal

pub returns-in_default-clause-remaining : goal.returns-in_default-clause-remaining
returns-in_default-clause-remaining c = c.nothing.ensures.remaining ∙ lacking c.args.segment.now c.args.field c.args.pattern.now c.requires
    (rw c.in_default.is at c.in_ok-members.ensures)

-- there is a number for each member
many : (lengths : List ℕ) (ms : List Member) → AllZip HasLength lengths ms → length lengths ≡ length ms
many lengths ms h = length_zip HasLength lengths ms h

pub place_of_least-shortest-requires : goal.place_of_least-shortest-requires
place_of_least-shortest-requires c =
    let zip = rw c.in-Some.is at c.in_ok-members.ensures in
    let lengths = rw c.deref-2.ensures.value at c.in_ok-lengths.ensures in
    omega (
      arith,
      some_members c.args.segment.now c.args.field c.args.pattern.now c.in-Some.members.items c.requires zip,
      many c.in_ok-lengths.lengths.items
          c.in-Some.members.items lengths,
      ap length c.deref-3.ensures.value,
    )

-- the place is that of a member
within : (c : After-place_of_least-shortest) → c.place_of_least-shortest.result < length c.in-Some.members.items
within c =
    let lengths = rw c.deref-2.ensures.value at c.in_ok-lengths.ensures in
    omega (
      arith,
      c.place_of_least-shortest.ensures.inside,
      many c.in_ok-lengths.lengths.items c.in-Some.members.items lengths,
      ap length
          c.deref-3.ensures.value,
    )

pub remove-lead-requires : goal.remove-lead-requires
remove-lead-requires c =
    let cursors = rw c.deref.ensures.value at c.in_ok-cursors.ensures in
    omega (
      arith,
      cursors_many c.in_ok-cursors.cursors.items c.in-Some.members.items cursors,
      within
          (goal.at.remove-lead-requires c).After-place_of_least-shortest,
    )

pub remove-first-requires : goal.remove-first-requires
remove-first-requires c =
    omega (arith, within (goal.at.remove-first-requires c).After-place_of_least-shortest, c.deref.ensures.len, ap length c.deref.ensures.value)

pub new-terms-requires : goal.new-terms-requires
new-terms-requires c =
    let cursors = rw c.deref.ensures.value at c.in_ok-cursors.ensures in
    record {
      fresh = fresh_rest c.in_ok-cursors.cursors.items c.in-Some.members.items c.place_of_least-shortest.result c.remove-lead.new.self.items cursors
          c.remove-lead.ensures.items;
    }

pub new-requires-2-clause-tied : goal.new-requires-2-clause-tied
new-requires-2-clause-tied c =
    let few : length c.args.segment.now.documents ≤ 2 ^ 32 = omega (arith, c.docs.ensures.few, c.docs.ensures.len) in
    let zip = rw c.in-Some.is at c.in_ok-members.ensures in
    let cursors = rw c.deref.ensures.value at c.in_ok-cursors.ensures in
    let whole = made c.args.segment.now c.args.field c.args.pattern.now c.in_ok-cursors.cursors.items c.in-Some.members.items c.place_of_least-shortest.result
    c.remove-lead.result c.remove-lead.new.self.items c.remove-first.result c.remove-first.new.self.items c.requires few zip cursors
    (within (goal.at.new-requires-2-clause-tied c).After-place_of_least-shortest) c.remove-lead.ensures.value c.remove-lead.ensures.items
    c.remove-first.ensures.value c.remove-first.ensures.items in
    (terms-continue (record { lead = c.remove-lead.result; others = c.remove-lead.new.self.items }) c.new-terms.result c.new-terms.ensures.follows whole.tied).1

pub new-requires-2-clause-members : goal.new-requires-2-clause-members
new-requires-2-clause-members c =
    let few : length c.args.segment.now.documents ≤ 2 ^ 32 = omega (arith, c.docs.ensures.few, c.docs.ensures.len) in
    let zip = rw c.in-Some.is at c.in_ok-members.ensures in
    let cursors = rw c.deref.ensures.value at c.in_ok-cursors.ensures in
    let whole = made c.args.segment.now c.args.field c.args.pattern.now c.in_ok-cursors.cursors.items c.in-Some.members.items c.place_of_least-shortest.result
    c.remove-lead.result c.remove-lead.new.self.items c.remove-first.result c.remove-first.new.self.items c.requires few zip cursors
    (within (goal.at.new-requires-2-clause-members c).After-place_of_least-shortest) c.remove-lead.ensures.value c.remove-lead.ensures.items
    c.remove-first.ensures.value c.remove-first.ensures.items in
    let first_is : c.in_ok-first.first.value ≡ c.remove-first.result = search rules in
    rw first_is (members-follow (record { lead = c.remove-lead.result; others = c.remove-lead.new.self.items }) c.new-terms.result
    (c.remove-first.result ∷ c.remove-first.new.self.items) c.new-terms.ensures.follows whole.members)

pub returns-clause-remaining : goal.returns-clause-remaining
returns-clause-remaining c =
    let few : length c.args.segment.now.documents ≤ 2 ^ 32 = omega (arith, c.docs.ensures.few, c.docs.ensures.len) in
    let zip = rw c.in-Some.is at c.in_ok-members.ensures in
    let cursors = rw c.deref.ensures.value at c.in_ok-cursors.ensures in
    let whole = made c.args.segment.now c.args.field c.args.pattern.now c.in_ok-cursors.cursors.items c.in-Some.members.items c.place_of_least-shortest.result
    c.remove-lead.result c.remove-lead.new.self.items c.remove-first.result c.remove-first.new.self.items c.requires few zip cursors
    (within (goal.at.returns-clause-remaining c).After-place_of_least-shortest) c.remove-lead.ensures.value c.remove-lead.ensures.items
    c.remove-first.ensures.value c.remove-first.ensures.items in
    let first_is : c.in_ok-first.first.value ≡ c.remove-first.result = search rules in
    IfOk-weaker c.phrase.result (λ (t : TreeValue). t.remaining ≡ c.new-2.result.remaining)
    (λ t. t.remaining ≡ segment_hits c.args.segment.now (phrase c.args.field c.args.pattern.now))
    (λ t is. is ∙ c.new-2.ensures.remaining ∙ ap (filter (phrase_at (c.in_ok-first.first.value ∷ c.remove-first.new.self.items))) c.new-terms.ensures.remaining
    ∙ ap (λ (m : Member). filter (phrase_at (m ∷ c.remove-first.new.self.items))
    (common (remaining_of c.remove-lead.result) (each_remaining c.remove-lead.new.self.items))) first_is ∙ whole.hits) c.phrase.ensures.remaining

pub returns-clause-most : goal.returns-clause-most
returns-clause-most c =
    let few : length c.args.segment.now.documents ≤ 2 ^ 32 = omega (arith, c.docs.ensures.few, c.docs.ensures.len) in
    let zip = rw c.in-Some.is at c.in_ok-members.ensures in
    let cursors = rw c.deref.ensures.value at c.in_ok-cursors.ensures in
    let lengths = rw c.deref-2.ensures.value at c.in_ok-lengths.ensures in
    let within_members = within (goal.at.returns-clause-most c).After-place_of_least-shortest in
    let whole = made c.args.segment.now c.args.field c.args.pattern.now c.in_ok-cursors.cursors.items c.in-Some.members.items c.place_of_least-shortest.result
    c.remove-lead.result c.remove-lead.new.self.items c.remove-first.result c.remove-first.new.self.items c.requires few zip cursors
    within_members c.remove-lead.ensures.value c.remove-lead.ensures.items c.remove-first.ensures.value c.remove-first.ensures.items in
    let terms : Conjoined = record { lead = c.remove-lead.result; others = c.remove-lead.new.self.items } in
    let follows = (terms-continue terms c.new-terms.result c.new-terms.ensures.follows whole.tied).0 [] [] in
    let least = rw c.deref-3.ensures.value at c.place_of_least-shortest.ensures.least in
    let less = phrase_most c.args.segment.now c.args.field c.args.pattern.now c.in_ok-lengths.lengths.items c.in_ok-cursors.cursors.items
    c.in-Some.members.items c.place_of_least-shortest.result c.remove-lead.result c.remove-lead.new.self.items c.remove-first.result zip lengths cursors
    within_members least c.remove-lead.ensures.value c.remove-lead.ensures.items in
    IfOk-weaker c.phrase.result (λ (t : TreeValue). t.bound ≡ c.new-2.result.bound) (λ t. most_at t.bound None ≤ most_for c.args.segment.now
    (phrase c.args.field c.args.pattern.now))
    (λ t is. subst (λ (b : Bound). most_at b None ≤ most_for c.args.segment.now (phrase c.args.field c.args.pattern.now))
    (sym (is ∙ c.new-2.ensures.bound ∙ follows.bound)) less) c.phrase.ensures.bound

-- Where a phrase stands.
use Rattle.std.proofs.Common.{◌≡◌, ℕ, zero, suc, ◌+◌, ◌^◌, ◌<◌, ◌≤◌, ◌==◌, nat_lt, cond, Bool, false, ◌&&◌, ◌||◌, Some, None, List, [], ◌∷◌, All, length, get_or, set, drop, refl}
use Rattle.std.proofs.Common.{sym, subst, ap, ap₂, ◌∙◌, arith}
use Rattle.std.specs.List.{AllZip, filter, list_all, list_any, slice_get}
use Rattle.std.specs.List.Sorted.{IsStrictlyIncreasing}
use Rattle.std.proofs.lemmas.Bool.{le-ltb, lt-ltb}
use Rattle.std.proofs.lemmas.Bool.Decides.{nat_tests}
use Rattle.std.proofs.lemmas.List.{get_or-drop, length-drop, set-get_or}
use Rattle.std.proofs.lemmas.List.Elements.{All-cons, All-head, All-nil, All-tail}
use Rattle.std.proofs.lemmas.Option.{get_or_from_slice_get, slice_get_within}
use Rattle.fts_pack.specs.Documents.{Rises, blocks_of}
use Rattle.fts_pack.specs.SourceLaws.{length-blocks_of}
use Rattle.fts_segment.specs.ListIds.{documents_in}
use Rattle.fts_cursor.specs.declared.phrase.Member.{Member}
use Rattle.fts_postings.specs.Conjoined.{AllFollow, Conjoined, common_of}
use Rattle.fts_postings.specs.Sets.{FirstPasses}
use Rattle.fts_cursor.specs.Phrases.{AreMembersOf, IsPhrase, phrase_at, positions_at, rank}
use Rattle.fts_postings.specs.Posting.{Follows, Posting}
use Rattle.fts_cursor.specs.Standing.{Continues}
use Rattle.fts_cursor.specs.Terms.{AreTied, of_terms}
use Rattle.fts_postings.proofs.RemainingLemmas.{Rises-get_or}
use Rattle.fts_postings.proofs.ConjoinedLemmas.{AllFollow-trans}
use Rattle.fts_cursor.proofs.TermsLemmas.{terms-continue}
use Rattle.fts_pack.proofs.DocumentsLemmas.{Rises-from_increasing}

pub none_below : (doc next : ℕ) (xs : List ℕ) → Rises next xs → doc ≤ next → filter (λ d. nat_lt d doc) xs ≡ []
none_below doc next [] h low = refl
none_below doc next (x ∷ xs) h low =
    ap (λ b. cond b (x ∷ filter (λ d. nat_lt d doc) xs) (filter (λ d. nat_lt d doc) xs)) (le-ltb x doc (omega (arith, low, h.0)))
    ∙ none_below doc (suc x) xs h.1 (omega (arith, low, h.0))

-- as many are before a document as its place tells
pub rank-drop : (documents : List ℕ) (next k doc : ℕ) → Rises next documents → slice_get (drop k documents) 0 ≡ Some doc → rank documents doc ≡ k
rank-drop [] next zero doc h is = absurd (let e : None ≡ Some doc = is in cc)
rank-drop [] next (suc k) doc h is = absurd (let e : None ≡ Some doc = is in cc)
rank-drop (x ∷ xs) next zero doc h is =
    let same : x ≡ doc = cc in
    ap length (none_below doc x (x ∷ xs) (omega arith, h.1) (omega (arith, same)))
rank-drop (x ∷ xs) next (suc k) doc h is =
    let there : get_or (drop k xs) 0 0 ≡ doc = get_or_from_slice_get (drop k xs) 0 doc 0 is in
    let start : k + 0 ≡ k = omega arith in
    let at : get_or xs k 0 ≡ doc = ap (λ n. get_or xs n 0) (sym start) ∙ sym (get_or-drop k xs 0 0) ∙ there in
    let inside : k < length xs = omega (arith, slice_get_within (drop k xs) 0 doc is, length-drop k xs) in
    let above : x < doc = omega (arith, Rises-get_or (suc x) xs k h.1 inside, at) in
    ap (λ b. length (cond b (x ∷ filter (λ d. nat_lt d doc) xs) (filter (λ d. nat_lt d doc) xs))) (lt-ltb x doc above)
    ∙ ap suc (rank-drop xs (suc x) k doc h.1 is)

pub rank_is : (documents : List ℕ) (k doc : ℕ) → IsStrictlyIncreasing documents → slice_get (drop k documents) 0 ≡ Some doc → rank documents doc ≡ k
rank_is documents k doc rise is = rank-drop documents 0 k doc (Rises-from_increasing documents rise) is

-- the cursor of a member
abbrev pub IsPaired : Posting → Member → Type 0
IsPaired p m = p.blocks ≡ blocks_of (documents_in m.list)

paired-follow : (ps qs : List Posting) (ms : List Member) → AllZip Follows ps qs → AllZip IsPaired ps ms → AllZip IsPaired qs ms
paired-follow [] [] ms h paired = paired
paired-follow [] (q ∷ qs) ms h paired = absurd h
paired-follow (p ∷ ps) [] ms h paired = absurd h
paired-follow (p ∷ ps) (q ∷ qs) [] h paired = absurd paired
paired-follow (p ∷ ps) (q ∷ qs) (m ∷ ms) h paired = (h.0.blocks ∙ paired.0, paired-follow ps qs ms h.1 paired.1)

pub members-follow : (c d : Conjoined) (ms : List Member) → AllFollow c d → AreMembersOf c ms → AreMembersOf d ms
members-follow c d ms h are = record {
  paired = paired-follow (c.lead ∷ c.others) (d.lead ∷ d.others) ms (h.lead, h.others) are.paired;
  rise = are.rise;
  few = are.few;
}

-- the terms of a phrase went on to a document where it stands
pub record PhraseMoved (old between new : Conjoined) (members after : List Member) : Type 0 where
  pub is : IsPhrase new after
  pub same : filter (phrase_at after) (common_of new) ≡ filter (phrase_at members) (common_of between)
  pub continues : (before now : List ℕ) → Continues (of_terms old before) (of_terms new now)

-- its members are lent, and come back as they were
pub phrase-moved : (old between new : Conjoined) (first lent back : Member) (others lent_others back_others : List Member) → lent ≡ first →
    lent_others ≡ others → back ≡ lent → back_others ≡ lent_others →
    AllFollow old between → AllFollow between new → AreMembersOf old (first ∷ others) → AreTied old →
    FirstPasses (phrase_at (lent ∷ lent_others)) (common_of new) →
    filter (phrase_at (lent ∷ lent_others)) (common_of new) ≡ filter (phrase_at (lent ∷ lent_others)) (common_of between) →
    PhraseMoved old between new (first ∷ others) (back ∷ back_others)
phrase-moved old between new first lent back others lent_others back_others lent_is lent_are back_is back_are follows on are tied passes is =
    let P : List Member → Type 0 = IsPhrase new in
    let here = ap₂ (λ (m : Member) (ms : List Member). m ∷ ms) lent_is lent_are in
    let after = ap₂ (λ (m : Member) (ms : List Member). m ∷ ms) back_is back_are in
    let all = AllFollow-trans old between new follows on in
    let moved = terms-continue old new all tied in
    record {
      is = subst P (sym (after ∙ here)) (record {
        members_are = members-follow old new (first ∷ others) all are;
        settled = subst (λ (ms : List Member). FirstPasses (phrase_at ms) (common_of new)) here passes;
        tied = moved.1;
      });
      same = ap (λ (ms : List Member). filter (phrase_at ms) (common_of new)) after ∙ is ∙ ap (λ (ms : List Member). filter (phrase_at ms) (common_of between))
          here;
      continues = moved.0;
    }

-- a member that is put back as it was
pub put_back : (ms : List Member) (k : ℕ) (d back : Member) → back ≡ get_or ms k d → set ms k back ≡ ms
put_back ms k d back same = ap (set ms k) same ∙ set-get_or ms k d

-- lists of few documents have few blocks
few_blocks : (p : Posting) (m : Member) → IsPaired p m → length (documents_in m.list) ≤ 2 ^ 32 → length p.blocks ≤ 2 ^ 32
few_blocks p m is few = omega (arith, ap length is, length-blocks_of (documents_in m.list), few)

pub blocks_few : (ps : List Posting) (ms : List Member) → AllZip IsPaired ps ms → All (λ m. length (documents_in m.list) ≤ 2 ^ 32) ms →
    All (λ p. length p.blocks ≤ 2 ^ 32) ps
blocks_few [] [] paired few = All-nil (λ p. length p.blocks ≤ 2 ^ 32)
blocks_few [] (m ∷ ms) paired few = absurd paired
blocks_few (p ∷ ps) [] paired few = absurd paired
blocks_few (p ∷ ps) (m ∷ ms) paired few =
    All-cons (λ q. length q.blocks ≤ 2 ^ 32) p ps (few_blocks p m paired.0 (All-head (λ n. length (documents_in n.list) ≤ 2 ^ 32) m ms few))
    (blocks_few ps ms paired.1 (All-tail (λ n. length (documents_in n.list) ≤ 2 ^ 32) m ms few))

paired_length : (ps : List Posting) (ms : List Member) → AllZip IsPaired ps ms → length ps ≡ length ms
paired_length [] [] h = refl
paired_length [] (m ∷ ms) h = absurd h
paired_length (p ∷ ps) [] h = absurd h
paired_length (p ∷ ps) (m ∷ ms) h = ap suc (paired_length ps ms h.1)

paired_at : (ps : List Posting) (ms : List Member) (k : ℕ) (p : Posting) (m : Member) → AllZip IsPaired ps ms → k < length ps →
    IsPaired (get_or ps k p) (get_or ms k m)
paired_at [] ms k p m h inside = absurd (omega (arith, inside))
paired_at (q ∷ qs) [] k p m h inside = absurd h
paired_at (q ∷ qs) (n ∷ ns) zero p m h inside = h.0
paired_at (q ∷ qs) (n ∷ ns) (suc k) p m h inside = paired_at qs ns k p m h.1 (omega (arith, inside))

-- there is a cursor for each of the other members
pub as_many : (c : Conjoined) (first : Member) (ms : List Member) → AreMembersOf c (first ∷ ms) → length c.others ≡ length ms
as_many c first ms h = paired_length c.others ms h.paired.1

pub others_few : (c : Conjoined) (first : Member) (ms : List Member) → AreMembersOf c (first ∷ ms) → All (λ p. length p.blocks ≤ 2 ^ 32) c.others
others_few c first ms h = blocks_few c.others ms h.paired.1 (All-tail (λ n. length (documents_in n.list) ≤ 2 ^ 32) first ms h.few)

pub lead_few : (c : Conjoined) (first : Member) (ms : List Member) → AreMembersOf c (first ∷ ms) → length c.lead.blocks ≤ 2 ^ 32
lead_few c first ms h = few_blocks c.lead first h.paired.0 (All-head (λ n. length (documents_in n.list) ≤ 2 ^ 32) first ms h.few)

-- the positions of the first member where all stand
pub first_positions : (c : Conjoined) (first : Member) (ms : List Member) (n doc : ℕ) → AreMembersOf c (first ∷ ms) →
    ((documents : List ℕ) → c.lead.blocks ≡ blocks_of documents → slice_get (drop n documents) 0 ≡ slice_get (common_of c) 0) →
    slice_get (common_of c) 0 ≡ Some doc →
    get_or (first.positions) n [] ≡ positions_at first doc
first_positions c first ms n doc h at here =
    let rise = All-head (λ m. IsStrictlyIncreasing (documents_in m.list)) first ms h.rise in
    ap (λ r. get_or (first.positions) r []) (sym (rank_is (documents_in first.list) n doc rise (at (documents_in first.list) h.paired.0 ∙ here)))

-- those of another one
pub other_positions : (c : Conjoined) (first : Member) (ms : List Member) (k n doc : ℕ) (m : Member) → AreMembersOf c (first ∷ ms) → m ≡ get_or ms k m →
    k < length ms →
    ((documents : List ℕ) (p : Posting) → (get_or c.others k p).blocks ≡ blocks_of documents → slice_get (drop n documents) 0 ≡ slice_get (common_of c) 0) →
    slice_get (common_of c) 0 ≡ Some doc →
    get_or (m.positions) n [] ≡ positions_at m doc
other_positions c first ms k n doc m h is inside at here =
    let within : k < length c.others = omega (arith, as_many c first ms h, inside) in
    let paired : IsPaired (get_or c.others k c.lead) (get_or ms k m) = paired_at c.others ms k c.lead m h.paired.1 within in
    let blocks : (get_or c.others k c.lead).blocks ≡ blocks_of (documents_in m.list) = paired ∙ ap (λ (x : Member). blocks_of (documents_in x.list)) (sym is) in
    let rises : IsStrictlyIncreasing (documents_in (get_or ms k m).list) =
    All-tail (λ x. IsStrictlyIncreasing (documents_in x.list)) first ms h.rise k m inside in
    let rise : IsStrictlyIncreasing (documents_in m.list) = subst (λ (x : Member). IsStrictlyIncreasing (documents_in x.list)) (sym is) rises in
    ap (λ r. get_or (m.positions) r []) (sym (rank_is (documents_in m.list) n doc rise (at (documents_in m.list) c.lead blocks ∙ here)))

all_dropped : {X : Type 0} (f : X → Bool) (xs : List X) (k : ℕ) (x : X) → k < length xs → x ≡ get_or xs k x →
    list_all f (drop k xs) ≡ (f x && list_all f (drop (suc k) xs))
all_dropped f [] k x inside is = absurd (omega (arith, inside))
all_dropped f (y ∷ ys) zero x inside is = ap (λ z. f z && list_all f ys) (sym is)
all_dropped f (y ∷ ys) (suc k) x inside is = all_dropped f ys k x (omega (arith, inside)) is

-- a test of all members from one on
pub all_drop : {X : Type 0} (f : X → Bool) (xs : List X) (k : ℕ) (x : X) → k < length xs → x ≡ get_or xs k x →
    list_all f (drop k xs) ≡ (f x && list_all f (drop (k + 1) xs))
all_drop f xs k x inside is = let on : suc k ≡ k + 1 = omega arith in all_dropped f xs k x inside is ∙ ap (λ n. f x && list_all f (drop n xs)) on

no_sum : (q offset sum : ℕ) → sum < offset → (q + offset == sum) ≡ false
no_sum q offset sum below = grind (arith, nat_tests)

-- a sum below the offset is none
pub none-sum : (offset sum : ℕ) (qs : List ℕ) → sum < offset → list_any (λ q. q + offset == sum) qs ≡ false
none-sum offset sum [] below = refl
none-sum offset sum (q ∷ qs) below = ap₂ (λ a b. a || b) (no_sum q offset sum below) (none-sum offset sum qs below)

-- A posting cursor's steps: from one place of its blocks to another.
use Rattle.std.proofs.Common.{◌≡◌, ℕ, zero, suc, ◌+◌, ◌-◌, ◌*◌, ◌<◌, ◌≤◌, List, [], ◌∷◌, ◌++◌, All, length, get_or, take, drop, refl, sym, ap, ap₂, subst, ◌∙◌}
use Rattle.std.proofs.Common.{inl, inr, arith, append_assoc}
use Rattle.std.specs.List.{flat_map}
use Rattle.std.specs.List.Sorted.{IsStrictlyIncreasing}
use Rattle.std.proofs.lemmas.Grind.{flat_map-append}
use Rattle.std.proofs.lemmas.Bool.{cases_lt}
use Rattle.std.proofs.lemmas.List.{take-append-drop, drop-drop, drop-append-le, drop_all, length-drop, length-append, append-nil, take_more, get_or-append-add}
use Rattle.std.proofs.lemmas.List.{get_or-drop, get_or-take, get_or_append_left, get_or_past}
use Rattle.fts_pack.specs.Documents.{Rises, block_count, blocks_of, last_of}
use Rattle.fts_pack.specs.SourceLaws.{blocks_joined, get_or-blocks_of, length-blocks_of}
use Rattle.fts_postings.specs.Remaining.{at_least, IsPlaceOf}
use Rattle.fts_postings.specs.Posting.{Follows, IsPosting, Posting, Walks, blocks_reached, here, members_of, remaining_of}
use Rattle.fts_postings.proofs.RemainingLemmas.{Rises-tail, Rises-front, increasing-from_Rises, at_least_place, at_least-append}
use Rattle.fts_pack.proofs.DocumentsLemmas.{Rises-from_increasing}

abbrev flat : List (List ℕ) → List ℕ
flat blocks = flat_map (λ block. block) blocks

pub split_block : (blocks : List (List ℕ)) (k : ℕ) → flat (drop k blocks) ≡ get_or blocks k [] ++ flat (drop (suc k) blocks)
split_block [] zero = refl
split_block [] (suc k) = refl
split_block (b ∷ bs) zero = refl
split_block (b ∷ bs) (suc k) = split_block bs k

pub split_at : (blocks : List (List ℕ)) (k : ℕ) → flat blocks ≡ flat (take k blocks) ++ flat (drop k blocks)
split_at blocks k = ap flat (sym (take-append-drop k blocks)) ∙ flat_map-append (λ block. block) (take k blocks) (drop k blocks)

-- lists taken by their place and themselves
abbrev get_first : ℕ → List ℕ → ℕ
get_first i xs = get_or xs i 0

-- if the last of some blocks has a number, the blocks have one
front_some : (blocks rest : List (List ℕ)) (k n : ℕ) → n ≡ k + 1 → k < length rest → 0 < length (get_or rest k []) → 0 < length (flat (take n rest))
front_some blocks rest k n more inside some =
    let e : flat (take n rest) ≡ flat (take k rest) ++ get_or rest k [] = ap (λ m. flat (take m rest)) more ∙ ap flat (take_more rest k [] inside)
    ∙ flat_map-append (λ block. block) (take k rest) (get_or rest k [] ∷ []) ∙ ap (λ xs. flat (take k rest) ++ xs) (append-nil (get_or rest k [])) in
    omega (arith, ap length e, length-append (flat (take k rest)) (get_or rest k []), some)

-- what remains at a place rises
pub Rises-place : (blocks : List (List ℕ)) (block at : ℕ) → IsStrictlyIncreasing (flat blocks) →
    (from : ℕ) × Rises from (drop at (get_or blocks block []) ++ flat (drop (suc block) blocks))
Rises-place blocks block at h =
    let here = get_or blocks block [] in
    let rest = flat (drop (suc block) blocks) in
    let whole = Rises-from_increasing (flat blocks) h in
    let back = Rises-tail 0 (flat (take block blocks)) (flat (drop block blocks)) (subst (Rises 0) (split_at blocks block) whole) in
    let e : here ++ rest ≡ take at here ++ (drop at here ++ rest) = ap (λ xs. xs ++ rest) (sym (take-append-drop at here))
    ∙ append_assoc (take at here) (drop at here) rest in
    Rises-tail back.0 (take at here) (drop at here ++ rest) (subst (Rises back.0) (split_block blocks block ∙ e) back.1)

pub remaining_rises : (p : Posting) (blocks : List (List ℕ)) → blocks ≡ p.blocks → IsStrictlyIncreasing (flat blocks) → IsStrictlyIncreasing (remaining_of p)
remaining_rises p blocks same h =
    let r = Rises-place p.blocks p.block p.at (subst (λ bs. IsStrictlyIncreasing (flat bs)) same h) in
    increasing-from_Rises r.0 (remaining_of p) r.1

-- steps within the open block
pub leave_within : (here rest : List ℕ) (at count : ℕ) → at + count ≤ length here → drop (at + count) here ++ rest ≡ drop count (drop at here ++ rest)
leave_within here rest at count inside =
    ap (λ xs. xs ++ rest) (sym (drop-drop count at here)) ∙ sym (drop-append-le count (drop at here) rest (omega (arith, length-drop at here, inside)))

pub step_within : (here rest : List ℕ) (at : ℕ) → at < length here → drop (at + 1) here ++ rest ≡ drop 1 (drop at here ++ rest)
step_within here rest at inside = leave_within here rest at 1 (omega (arith, inside))

-- steps to its end
pub leave_over : (p q : Posting) (count : ℕ) → q.blocks ≡ p.blocks → q.block ≡ p.block + 1 → q.at ≡ 0 → length (here p) ≡ p.at + count →
    remaining_of q ≡ drop count (remaining_of p)
leave_over p q count blocks block at end =
    let rest = flat (drop (suc p.block) p.blocks) in
    let next : q.block ≡ suc p.block = omega (arith, block) in
    ap (λ n. drop n (here q) ++ flat (drop (suc q.block) q.blocks)) at
    ∙ sym (split_block q.blocks q.block)
    ∙ ap₂ (λ n bs. flat (drop n bs)) next blocks
    ∙ sym (ap (λ xs. xs ++ rest) (drop_all (p.at + count) (here p) (omega (arith, end))))
    ∙ leave_within (here p) rest p.at count (omega (arith, end))

pub step_over : (p q : Posting) → q.blocks ≡ p.blocks → q.block ≡ p.block + 1 → q.at ≡ 0 → length (here p) ≡ p.at + 1 → remaining_of q ≡ drop 1 (remaining_of p)
step_over p q blocks block at end = leave_over p q 1 blocks block at end

last_of-append : (xs ys : List ℕ) → 0 < length ys → last_of (xs ++ ys) ≡ last_of ys
last_of-append xs ys some =
    ap (λ n. get_or (xs ++ ys) n 0) (let e : length (xs ++ ys) - 1 ≡ length xs + (length ys - 1) = omega (arith, length-append xs ys) in e)
    ∙ get_or-append-add xs ys (length ys - 1) 0

-- if the last number is below the target, all are
pub all_below : (target next : ℕ) (xs : List ℕ) → Rises next xs → (0 < length xs → last_of xs < target) → at_least target xs ≡ []
all_below target next xs h last =
    at_least_place target next xs (length xs) h (omega arith) (λ some. last some) (λ some. absurd (omega arith)) ∙ drop_all (length xs) xs (omega arith)

-- the last number of the first blocks is that of the last of them
last_of-flat : (blocks : List (List ℕ)) (k : ℕ) → k < length blocks → 0 < length (get_or blocks k []) →
    last_of (flat (take (k + 1) blocks)) ≡ last_of (get_or blocks k [])
last_of-flat blocks k inside some =
    ap last_of (ap flat (take_more blocks k [] inside) ∙ flat_map-append (λ block. block) (take k blocks) (get_or blocks k [] ∷ [])
    ∙ ap (λ xs. flat (take k blocks) ++ xs) (append-nil (get_or blocks k [])))
    ∙ last_of-append (flat (take k blocks)) (get_or blocks k []) some

abbrev Sized : List (List ℕ) → Type 0
Sized blocks = All (λ block. (0 < length block) × (length block ≤ 128)) blocks

-- blocks that end below the target are passed over
pub skipped : (blocks : List (List ℕ)) (block at to target : ℕ) → IsStrictlyIncreasing (flat blocks) → Sized blocks →
    last_of (get_or blocks block []) < target → at < length (get_or blocks block []) →
    IsPlaceOf (λ k. last_of (get_or blocks k [])) (block + 1) (length blocks) target to →
    at_least target (drop at (get_or blocks block []) ++ flat (drop (suc block) blocks)) ≡ at_least target (flat (drop to blocks))
skipped blocks block at to target rises sized low inside place =
    let here = drop at (get_or blocks block []) in
    let rest = drop (suc block) blocks in
    let n = to - suc block in
    let front = flat (take n rest) in
    let whole : here ++ flat rest ≡ (here ++ front) ++ flat (drop to blocks) =
    ap (λ xs. here ++ xs)
    (split_at rest n ∙ ap (λ bs. front ++ flat bs) (drop-drop n (suc block) blocks ∙ ap (λ k. drop k blocks)
    (let e : suc block + n ≡ to = omega (arith, place.low_within) in e)))
    ∙ sym (append_assoc here front (flat (drop to blocks))) in
    let up = Rises-place blocks block at rises in
    let front_rises = Rises-front up.0 (here ++ front) (flat (drop to blocks)) (subst (Rises up.0) whole up.1) in
    let here_some : 0 < length here = omega (arith, inside, length-drop at (get_or blocks block [])) in
    let here_last : last_of here ≡ last_of (get_or blocks block []) =
    ap (λ k. get_or here k 0) (let e : length here - 1 ≡ length (get_or blocks block []) - 1 - at = omega (arith, length-drop at (get_or blocks block [])) in e)
    ∙ get_or-drop at (get_or blocks block []) (length (get_or blocks block []) - 1 - at) 0
    ∙ ap (λ k. get_or (get_or blocks block []) k 0) (let e : at + (length (get_or blocks block []) - 1 - at) ≡ length (get_or blocks block []) - 1 =
    omega (arith, inside) in e) in
    let last_low : last_of (here ++ front) < target = elim (cases_lt (suc block) to) [
      | inl far ↦
          let k = n - 1 in
          let more : n ≡ k + 1 = omega (arith, far) in
          let at_k : suc block + k ≡ to - 1 = omega (arith, far) in
          let long : k < length rest = omega (arith, length-drop (suc block) blocks, far, place.high_within) in
          let is : get_or rest k [] ≡ get_or blocks (to - 1) [] = get_or-drop (suc block) blocks k [] ∙ ap (λ i. get_or blocks i []) at_k in
          let full : 0 < length (get_or rest k []) = subst (λ b. 0 < length b) (sym is) (sized (to - 1) [] (omega (arith, far, place.high_within))).0 in
          let end : last_of front ≡ last_of (get_or blocks (to - 1) []) = ap (λ m. last_of (flat (take m rest))) more ∙ last_of-flat rest k long full
          ∙ ap last_of is in
          let some : 0 < length front = front_some blocks rest k n more long full in
          subst (λ x. x < target) (sym (last_of-append here front some ∙ end)) (place.before (omega (arith, far)))
      | inr near ↦
          let none : n ≡ 0 = omega (arith, near) in
          subst (λ x. x < target) (sym (ap (λ m. last_of (here ++ flat (take m rest))) none ∙ ap last_of (append-nil here) ∙ here_last)) low
    ] in
    ap (at_least target) whole ∙ at_least-append target (here ++ front) (flat (drop to blocks)) ∙ ap (λ xs. xs ++ at_least target (flat (drop to blocks)))
    (all_below target up.0 (here ++ front) front_rises (λ _. last_low))

-- the target's place in the open block is that of what remains
pub found : (blocks : List (List ℕ)) (block at len place target : ℕ) (numbers : List ℕ) → IsStrictlyIncreasing (flat blocks) →
    len ≡ length (get_or blocks block []) → take len numbers ≡ get_or blocks block [] → (block < length blocks → at < len) →
    (block < length blocks → target ≤ last_of (get_or blocks block [])) → IsPlaceOf (λ k. get_or numbers k 0) at len target place →
    drop place (get_or blocks block []) ++ flat (drop (suc block) blocks) ≡ at_least target (drop at (get_or blocks block []) ++ flat (drop (suc block) blocks))
found blocks block at len place target numbers rises size is stands reaches h =
    let here = get_or blocks block [] in
    let rest = flat (drop (suc block) blocks) in
    let up = Rises-place blocks block at rises in
    let k = place - at in
    let long = length-drop at here in
    let whole = length-append (drop at here) rest in
    let same : (i : ℕ) → at + i < len → get_or (drop at here ++ rest) i 0 ≡ get_or numbers (at + i) 0 = λ i inside.
    get_or_append_left (drop at here) rest 0 i (omega (arith, long, size, inside)) ∙ get_or-drop at here i 0 ∙ ap (λ xs. get_or xs (at + i) 0) (sym is)
    ∙ get_or-take len numbers (at + i) 0 inside in
    let fits : k ≤ length (drop at here ++ rest) = omega (arith, long, whole, size, h.high_within) in
    let before : 0 < k → get_or (drop at here ++ rest) (k - 1) 0 < target = λ some.
    let e : at + (k - 1) ≡ place - 1 = omega (arith, some, h.low_within) in
    subst (λ x. x < target) (sym (same (k - 1) (omega (arith, some, h.high_within)) ∙ ap (λ i. get_or numbers i 0) e)) (h.before (omega (arith, some))) in
    let there : k < length (drop at here ++ rest) → target ≤ get_or (drop at here ++ rest) k 0 = λ some. elim (cases_lt place len) [
      | inl inside ↦
          let e : at + k ≡ place = omega (arith, h.low_within) in
          subst (λ x. target ≤ x) (sym (same k (omega (arith, e, inside)) ∙ ap (λ i. get_or numbers i 0) e)) (h.here inside)
      | inr past ↦ elim (cases_lt block (length blocks)) [
        | inl stood ↦
            let e : length here - 1 ≡ place - 1 = omega (arith, size, past, h.high_within) in
            let last : last_of here ≡ get_or numbers (place - 1) 0 =
            ap₂ get_first e (sym is) ∙ get_or-take len numbers (place - 1) 0 (omega (arith, stands stood, past, h.high_within)) in
            absurd (omega (arith, reaches stood, last, h.before (omega (arith, stands stood, past))))
        | inr over ↦
            let none : rest ≡ [] = ap flat (drop_all (suc block) blocks (omega (arith, over))) in
            let nothing : here ≡ [] = get_or_past blocks block [] over in
            absurd (omega (arith, some, whole, long, ap length none, ap length nothing))
      ]
    ] in
    let e : at + k ≡ place = omega (arith, h.low_within) in
    sym (at_least_place target up.0 (drop at here ++ rest) k up.1 fits before there
    ∙ drop-append-le k (drop at here) rest (omega (arith, long, size, h.high_within))
    ∙ ap (λ xs. xs ++ rest) (drop-drop k at here ∙ ap (λ i. drop i here) e))

-- the block of the target is reached, and nothing of the target or more was passed over
pub record Nearer (p q : Posting) (target : ℕ) : Type 0 where
  pub blocks : q.blocks ≡ p.blocks
  pub same : at_least target (remaining_of p) ≡ at_least target (remaining_of q)
  pub reaches : q.block < length q.blocks → target ≤ last_of (here q)

-- the open block's last number lies at the end of what was unpacked
last_unpacked : (blocks : List (List ℕ)) (block at len opened : ℕ) (numbers : List ℕ) → IsPosting blocks block at len opened numbers → 0 < len →
    last_of (get_or blocks block []) ≡ get_or numbers (len - 1) 0
last_unpacked blocks block at len opened numbers h some =
    ap₂ get_first (let e : length (get_or blocks block []) - 1 ≡ len - 1 = omega (arith, h.size) in e) (sym h.numbers_are)
    ∙ get_or-take len numbers (len - 1) 0 (omega arith)

pub Nearer-here : (p : Posting) (len target : ℕ) (numbers : List ℕ) → IsPosting p.blocks p.block p.at len p.opened numbers → p.at < len →
    target ≤ get_or numbers (len - 1) 0 → Nearer p p target
Nearer-here p len target numbers h inside reached = record {
  blocks = refl;
  same = refl;
  reaches = λ _. omega (arith, reached, last_unpacked p.blocks p.block p.at len p.opened numbers h (omega arith));
}

pub Nearer-there : (p q : Posting) (len to target : ℕ) (numbers : List ℕ) → IsPosting p.blocks p.block p.at len p.opened numbers → p.at < len →
    IsStrictlyIncreasing (flat p.blocks) → Sized p.blocks → get_or numbers (len - 1) 0 < target →
    IsPlaceOf (λ k. last_of (get_or p.blocks k [])) (p.block + 1) (length p.blocks) target to → q.blocks ≡ p.blocks → q.block ≡ to → q.at ≡ 0 →
    Nearer p q target
Nearer-there p q len to target numbers h inside rises sized low place blocks block at =
    let last = last_unpacked p.blocks p.block p.at len p.opened numbers h (omega arith) in
    record {
      blocks = blocks;
      same =
          skipped p.blocks p.block p.at to target rises sized (omega (arith, low, last)) (omega (arith, inside, h.size)) place
          ∙ ap (at_least target) (ap₂ (λ bs n. flat (drop n bs)) (sym blocks) (sym block) ∙ split_block q.blocks q.block
          ∙ ap (λ n. drop n (here q) ++ flat (drop (suc q.block) q.blocks)) (sym at));
      reaches = λ some. rw (blocks, block) (place.here (omega (arith, some, ap length blocks, block)));
    }

-- the target's place in the block that was reached
pub found_near : (p : Posting) (len place target : ℕ) (numbers : List ℕ) → IsPosting p.blocks p.block p.at len p.opened numbers →
    IsStrictlyIncreasing (flat p.blocks) → (p.block < length p.blocks → target ≤ last_of (here p)) → IsPlaceOf (λ k. get_or numbers k 0) p.at len target place →
    drop place (here p) ++ flat (drop (suc p.block) p.blocks) ≡ at_least target (remaining_of p)
found_near p len place target numbers h rises reaches at =
    found p.blocks p.block p.at len place target numbers rises h.size h.numbers_are h.stands reaches at

-- what remains is the end of the list
pub members-split : (p : Posting) → (front : List ℕ) × (members_of p ≡ front ++ remaining_of p)
members-split p =
    let before = flat (take p.block p.blocks) in
    let rest = flat (drop (suc p.block) p.blocks) in (
      before ++ take p.at (here p),
      split_at p.blocks p.block
          ∙ ap (λ xs. before ++ xs) (split_block p.blocks p.block ∙ ap (λ xs. xs ++ rest) (sym (take-append-drop p.at (here p))) ∙ append_assoc
          (take p.at (here p)) (drop p.at (here p)) rest)
          ∙ sym (append_assoc before (take p.at (here p)) (remaining_of p)),
    )

-- no more remains than there is
pub remaining_within : (p : Posting) → length (remaining_of p) ≤ length (flat p.blocks)
remaining_within p = let split = members-split p in omega (arith, ap length split.1, length-append split.0 (remaining_of p))

pub Follows-same : (p : Posting) → Follows p p
Follows-same p = record { blocks = refl; more = omega arith; counted = omega arith }

pub Follows-trans : (p q r : Posting) → Follows p q → Follows q r → Follows p r
Follows-trans p q r h k = record { blocks = k.blocks ∙ h.blocks; more = omega (arith, h.more, k.more); counted = omega (arith, h.counted, k.counted) }

pub Walks-trans : (p q r : Posting) → Walks p q → Walks q r → Walks p r
Walks-trans p q r h k = record { follows = Follows-trans p q r h.follows k.follows; each = omega (arith, h.each, k.each) }

-- if nothing remains, all blocks were reached
pub reached_all : (p : Posting) → p.block ≤ length p.blocks → (p.block < length p.blocks → p.at < length (here p)) → remaining_of p ≡ [] →
    blocks_reached p ≡ length p.blocks
reached_all p within stands none = elim (cases_lt p.block (length p.blocks)) [
  | inl inside ↦ absurd (omega (
    arith,
    stands inside,
    length-drop p.at (here p),
    length-append (drop p.at (here p)) (flat (drop (suc p.block) p.blocks)),
    ap
        length none,
  ))
  | inr past ↦ omega (arith, within, past)
]

-- the blocks of a list from one on are its documents from there on
blocks_behind : (documents : List ℕ) (more k : ℕ) → more + k ≡ block_count (length documents) → flat (drop k (blocks_of documents)) ≡ drop (k * 128) documents
blocks_behind documents zero k all =
    let end : length (blocks_of documents) ≤ k = omega (arith, all, length-blocks_of documents) in
    ap flat (drop_all k (blocks_of documents) end) ∙ sym (drop_all (k * 128) documents (omega (arith, all)))
blocks_behind documents (suc more) k all =
    let rest = drop (k * 128) documents in
    let next : k * 128 + 128 ≡ suc k * 128 = omega arith in
    split_block (blocks_of documents) k
    ∙ ap₂ (λ xs ys. xs ++ ys) (get_or-blocks_of documents k [] (omega (arith, all))) (blocks_behind documents more (suc k) (omega (arith, all))
    ∙ ap (λ n. drop n documents) (sym next) ∙ sym (drop-drop 128 (k * 128) documents))
    ∙ take-append-drop 128 rest

-- a place in a block is one in the list
pub place_in_list : (documents : List ℕ) (block at : ℕ) → block < block_count (length documents) → at ≤ length (get_or (blocks_of documents) block []) →
    drop (block * 128 + at) documents ≡ drop at (get_or (blocks_of documents) block []) ++ flat (drop (suc block) (blocks_of documents))
place_in_list documents block at inside within =
    let all : (block_count (length documents) - block) + block ≡ block_count (length documents) = omega (arith, inside) in
    sym (sym (drop-append-le at (get_or (blocks_of documents) block []) (flat (drop (suc block) (blocks_of documents))) within)
    ∙ ap (drop at) (sym (split_block (blocks_of documents) block) ∙ blocks_behind documents (block_count (length documents) - block) block all)
    ∙ drop-drop at (block * 128) documents)

-- if something remains, a block is open
pub stands_within : (p : Posting) → 0 < length (remaining_of p) → p.block < length p.blocks
stands_within p some = elim (cases_lt p.block (length p.blocks)) [
  | inl inside ↦ inside
  | inr past ↦
      let rest : flat (drop (suc p.block) p.blocks) ≡ [] = ap flat (drop_all (suc p.block) p.blocks (omega (arith, past))) in
      let none : here p ≡ [] = get_or_past p.blocks p.block [] past in
      absurd (omega (
        arith,
        some,
        length-append (drop p.at (here p)) (flat (drop (suc p.block) p.blocks)),
        length-drop p.at (here p),
        ap length rest,
        ap length
            none,
      ))
]

pub posting_place : (p : Posting) (documents : List ℕ) → 0 < length (remaining_of p) → p.at ≤ length (here p) → p.blocks ≡ blocks_of documents →
    drop (p.block * 128 + p.at) documents ≡ remaining_of p
posting_place p documents some within is =
    place_in_list documents p.block p.at (omega (arith, stands_within p some, ap length is, length-blocks_of documents))
    (omega (arith, within, ap (λ bs. length (get_or bs p.block [])) is))
    ∙ ap (λ bs. drop p.at (get_or bs p.block []) ++ flat (drop (suc p.block) bs)) (sym is)

-- a cursor as it was made
pub posting_new : (p : Posting) (documents : List ℕ) → p.blocks ≡ blocks_of documents → p.block ≡ 0 → p.at ≡ 0 → remaining_of p ≡ documents
posting_new p documents is block at =
    ap₂ (λ (n : ℕ) (k : ℕ). drop n (get_or p.blocks k []) ++ flat (drop (suc k) p.blocks)) at block ∙ sym (split_block p.blocks 0) ∙ ap flat is
    ∙ blocks_joined documents

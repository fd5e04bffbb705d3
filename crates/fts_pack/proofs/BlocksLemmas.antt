-- The offset ranges of blocks: the bounds that they give, and that they fit.
use Rattle.std.proofs.Common.{◌≡◌, ℕ, ◌+◌, ◌-◌, ◌*◌, ◌/◌, ◌%◌, ◌^◌, ◌<◌, ◌≤◌, inl, inr, List, [], ◌∷◌, ◌++◌, true, false, Option, Some, None, IfSome}
use Rattle.std.proofs.Common.{length, get_or, take, drop, min, nat_le, cond, sym, ap, ◌∙◌, subst, arith}
use Rattle.std.specs.Option.{option_map_or}
use Rattle.std.proofs.lemmas.Bool.{cases_lt}
use Rattle.std.proofs.lemmas.List.{get_or-drop, get_or-take, get_or_default, get_or_past, length-append, length-drop, length-take, get_or_append_left}
use Rattle.std.proofs.lemmas.List.{get_or-append_right, take_all}
use Rattle.std.proofs.Math.Pow.{pow_mono}
use Rattle.fts_pack.specs.column.BlockRanges.{AreEnds, AreEndsOf, block_of, no_ends, range_above}
use Rattle.fts_pack.specs.column.Column.{HaveOffsets, IsRangeOf, offsets}
use Rattle.fts_pack.proofs.ColumnLemmas.{length-offsets, none_in, offset_at, value_fits}

-- an element of a block is an element of the values
pub in_block : (values : List (Option ℕ)) (block k : ℕ) (d : Option ℕ) → k < 128 → get_or (block_of block values) k d ≡ get_or values (128 * block + k) d
in_block values block k d small = get_or-take 128 (drop (128 * block) values) k d small ∙ get_or-drop (128 * block) values k d

length-block : (values : List (Option ℕ)) (block : ℕ) → length (block_of block values) ≡ min 128 (length values - 128 * block)
length-block values block = length-take 128 (drop (128 * block) values) ∙ ap (min 128) (length-drop (128 * block) values)

-- a document's value is an element of its block
doc_place : (values : List (Option ℕ)) (block doc : ℕ) → doc / 128 ≡ block → get_or (block_of block values) (doc % 128) None ≡ get_or values doc None
doc_place values block doc here =
    in_block values block (doc % 128) None (omega arith) ∙ ap (λ i. get_or values i None) (let e : 128 * block + doc % 128 ≡ doc = omega arith in e)

-- a document of a block without values has none
pub block_none : (values : List (Option ℕ)) (block doc : ℕ) → IsRangeOf (block_of block values) None → doc / 128 ≡ block → get_or values doc None ≡ None
block_none values block doc h here = sym (doc_place values block doc here) ∙ none_in (block_of block values) (doc % 128) h

-- the value of a document of a block is within its range
pub block_within : (values : List (Option ℕ)) (block doc : ℕ) (range : ℕ × ℕ) → IsRangeOf (block_of block values) (Some range) → doc / 128 ≡ block →
    IfSome (get_or values doc None) (λ x. (range.0 ≤ x) × (x ≤ range.1))
block_within values block doc range h here =
    let P : Option ℕ → Type 0 = λ v. IfSome v (λ x. (range.0 ≤ x) × (x ≤ range.1)) in
    let k = doc % 128 in
    subst P (doc_place values block doc here) (elim (cases_lt k (length (block_of block values))) [
      | inl inside ↦ h.2 k None inside
      | inr past ↦ (subst P (sym (get_or_past (block_of block values) k None past)) tt)
    ])

-- a block of a column without values has none
pub block_of_none : (values : List (Option ℕ)) (block : ℕ) → IsRangeOf values None → IsRangeOf (block_of block values) None
block_of_none values block h = λ k d inside.
    let small : k < 128 = omega (arith, length-block values block) in
    let there : 128 * block + k < length values = omega (arith, length-block values block) in
    in_block values block k d small ∙ h (128 * block + k) d there

-- past the last block there is no value
pub block_past : (values : List (Option ℕ)) (block : ℕ) → length values ≤ 128 * block → IsRangeOf (block_of block values) None
block_past values block past = λ k d inside. absurd (omega (arith, length-block values block))

-- a bound of a block's range is the value of some document
end_at : (values : List (Option ℕ)) (block k x : ℕ) → k < length (block_of block values) → get_or (block_of block values) k (Some x) ≡ Some x →
    (128 * block + k < length values) × (get_or values (128 * block + k) None ≡ Some x)
end_at values block k x inside at =
    let small : k < 128 = omega (arith, length-block values block) in
    let there : 128 * block + k < length values = omega (arith, length-block values block) in
    (there, get_or_default values (128 * block + k) None (Some x) there ∙ sym (in_block values block k (Some x) small) ∙ at)

-- the offset of a bound has as many bits as the offset of a value
end_fits : (values : List (Option ℕ)) (least width block k far : ℕ) → HaveOffsets least width values → k < length (block_of block values) →
    get_or (block_of block values) k (Some (least + far)) ≡ Some (least + far) → far < 2 ^ width
end_fits values least width block k far h inside at =
    let there = end_at values block k (least + far) inside at in
    let i = 128 * block + k in
    let offset : get_or (offsets least values) i 0 ≡ far = offset_at least i 0 values there.0 ∙ ap (λ v. option_map_or (λ x. x - least) v 0) there.1
    ∙ (let e : (least + far) - least ≡ far = omega arith in e) in
    omega (arith, offset, h.fits i 0 (omega (arith, there.0, length-offsets least values)))

-- the range of an offset range whose first is not above its second
pub told_range : (least : ℕ) (values : List (Option ℕ)) (ends : ℕ × ℕ) → IsRangeOf values (range_above least ends) → ends.0 ≤ ends.1 →
    IsRangeOf values (Some (least + ends.0, least + ends.1))
told_range least values ends is order =
    let yes : nat_le ends.0 ends.1 ≡ true = grind arith in
    subst (λ b. IsRangeOf values (cond b (Some (least + ends.0, least + ends.1)) None)) yes is

pub told_none : (least : ℕ) (values : List (Option ℕ)) (ends : ℕ × ℕ) → IsRangeOf values (range_above least ends) → ends.1 < ends.0 → IsRangeOf values None
told_none least values ends is order =
    let no : nat_le ends.0 ends.1 ≡ false = grind arith in
    subst (λ b. IsRangeOf values (cond b (Some (least + ends.0, least + ends.1)) None)) no is

-- offset ranges fit their integers
pub ends_fit : (values : List (Option ℕ)) (least width bits block : ℕ) (ends : ℕ × ℕ) → HaveOffsets least width values →
    AreEnds least (block_of block values) ends → width ≤ bits → 1 ≤ bits → (ends.0 < 2 ^ bits) × (ends.1 < 2 ^ bits)
ends_fit values least width bits block ends h is narrow some =
    let power : 2 ^ width ≤ 2 ^ bits = pow_mono narrow in
    let two : 2 ^ 1 ≤ 2 ^ bits = pow_mono some in
    elim (cases_lt ends.1 ends.0) [
      | inl lt ↦ (let none = is.none lt in
          let first : ends.0 ≡ 1 = ap (λ e. e.0) none in
          let last : ends.1 ≡ 0 = ap (λ e. e.1) none in
          (omega (arith, two, first), omega (arith, two, last)))
      | inr order ↦ (let range = told_range least (block_of block values) ends is.range_is order in
          let first = end_fits values least width block range.0.0 ends.0 h range.0.1 range.0.2 in
          let last = end_fits values least width block range.1.0 ends.1 h range.1.1 range.1.2 in
          (omega (arith, first, power), omega (arith, last, power)))
    ]

-- the values from a block's first to its last are those of the block
pub block_taken : (values : List (Option ℕ)) (block end : ℕ) → end ≡ min (block * 128 + 128) (length values) →
    take (end - block * 128) (drop (block * 128) values) ≡ block_of block values
block_taken values block end is =
    let from : block * 128 ≡ 128 * block = omega arith in
    let rest = drop (128 * block) values in
    let size = length-drop (128 * block) values in
    ap (λ n. take (end - n) (drop n values)) from ∙ elim (cases_lt (length rest) 128) [
      | inl short ↦ take_all (end - 128 * block) rest (omega (arith, is, size)) ∙ sym (take_all 128 rest (omega (arith, short)))
      | inr long ↦ ap (λ n. take n rest) (let e : end - 128 * block ≡ 128 = omega (arith, is, size, long) in e)
    ]

-- the offset ranges of the first blocks
pub record AreFirstEnds (least : ℕ) (values : List (Option ℕ)) (count : ℕ) (ends : List (ℕ × ℕ)) : Type 0 where
  pub count_is : length ends ≡ count
  pub range_is : (block : ℕ) → block < count → IsRangeOf (block_of block values) (range_above least (get_or ends block no_ends))

pub first_more : (least : ℕ) (values : List (Option ℕ)) (count : ℕ) (list : List (ℕ × ℕ)) (ends : ℕ × ℕ) → AreFirstEnds least values count list →
    IsRangeOf (block_of count values) (range_above least ends) → AreFirstEnds least values (count + 1) (list ++ ends ∷ [])
first_more least values count list ends h is =
    let P : ℕ → ℕ × ℕ → Type 0 = λ block x. IsRangeOf (block_of block values) (range_above least x) in
    record {
      count_is = omega (arith, length-append list (ends ∷ []), h.count_is);
      range_is = λ block lt. elim (cases_lt block count) [
        | inl before ↦ (subst (P block) (sym (get_or_append_left list (ends ∷ []) no_ends block (omega (arith, before, h.count_is)))) (h.range_is block before))
        | inr after ↦ (
            let here : block ≡ count = omega (arith, after, lt) in
            subst (λ b. P b (get_or (list ++ ends ∷ []) b no_ends)) (sym here)
            (subst (P count) (sym (get_or-append_right list (ends ∷ []) count count no_ends h.count_is (omega arith) ∙ ap (λ n. get_or (ends ∷ []) n no_ends)
            (let e : count - count ≡ 0 = omega arith in e))) is))
      ];
    }

pub first_all : (least : ℕ) (values : List (Option ℕ)) (count : ℕ) (list : List (ℕ × ℕ)) → AreFirstEnds least values count list → length values ≤ 128 * count →
    AreEndsOf least values list
first_all least values count list h all = record {
  range_is = λ block. elim (cases_lt block count) [
    | inl before ↦ h.range_is block before
    | inr past ↦ (
        let none : get_or list block no_ends ≡ no_ends = get_or_past list block no_ends (omega (arith, past, h.count_is)) in
        subst (λ x. IsRangeOf (block_of block values) (range_above least x)) (sym none) (block_past values block (omega (arith, past, all))))
  ];
}

-- a block's range from its offset range, above the least of all values
pub block_told : (values : List (Option ℕ)) (whole least : ℕ) (list : List (ℕ × ℕ)) (block : ℕ) (ends : ℕ × ℕ) → AreEndsOf whole values list → whole ≡ least →
    ends ≡ get_or list block no_ends → IsRangeOf (block_of block values) (range_above least ends)
block_told values whole least list block ends h same at =
    subst (λ n. IsRangeOf (block_of block values) (range_above n ends)) same (subst (λ x. IsRangeOf (block_of block values) (range_above whole x)) (sym at)
    (h.range_is block))

-- the bounds of a block's range have 64 bits
pub block_fits : (values : List (Option ℕ)) (range : Option (ℕ × ℕ)) (least greatest block : ℕ) (ends : ℕ × ℕ) → IsRangeOf values range →
    IfSome range (λ r. r.1 < 2 ^ 64) → range ≡ Some (least, greatest) → IsRangeOf (block_of block values) (Some ends) → (ends.0 < 2 ^ 64) × (ends.1 < 2 ^ 64)
block_fits values range least greatest block ends h fits known is =
    let first = end_at values block is.0.0 ends.0 is.0.1 is.0.2 in
    let last = end_at values block is.1.0 ends.1 is.1.1 is.1.2 in
    (value_fits values range _ least greatest ends.0 h fits known first.0 first.1, value_fits values range _ least greatest ends.1 h fits known last.0 last.1)

-- How large an index is.
use Rattle.std.proofs.Common.{◌≡◌, ◌^◌, ◌<◌, ◌≤◌, ℕ, true, cond, nat_lt, List, [], ◌∷◌, length, sum_by, ap, ◌∙◌, arith, inl, inr}
use Rattle.std.proofs.lemmas.Bool.{cases_Bool, ltb-true, ltb-false, le-ltb}
use Rattle.std.specs.List.{AllByRecursion}
use Rattle.std.proofs.lemmas.List.Elements.{recursion_from_All}
use Rattle.std.proofs.lemmas.List.Sums.{sum_by-cons, count_by-le-length}
use Rattle.fts_snapshots.specs.Entries.{EntryValue, IsEntry, has_live, live_count}
use Rattle.fts_snapshots.specs.Snapshots.{SnapshotValue, IsSnapshot, content_of}
use Rattle.fts_snapshots.proofs.CountLemmas.{live_documents}
use Rattle.fts_snapshots.proofs.EntryLemmas.{some_counted}
use Rattle.fts_engine_local.specs.Stats.{capped, documents_in, stats_of}

abbrev greatest : ℕ
greatest = 18446744073709551615

capped_within : (n : ℕ) → n ≤ greatest → capped n ≡ n
capped_within n h = ap (λ b. cond b greatest n) (le-ltb greatest n h)

capped_above : (n : ℕ) → greatest ≤ n → capped n ≡ greatest
capped_above n h =
    elim (cases_Bool (nat_lt greatest n)) [
      | inl k ↦ ap (λ b. cond b greatest n) k
      | inr k ↦ capped_within n (ltb-false greatest n k) ∙ omega (arith, h, ltb-false greatest n k)
    ]

capped_rises : (a b : ℕ) → a ≤ b → capped a ≤ capped b
capped_rises a b h =
    elim (cases_Bool (nat_lt greatest b)) [
      | inl k ↦
          let high : capped b ≡ greatest = capped_above b (omega (arith, ltb-true greatest b k)) in
          elim (cases_Bool (nat_lt greatest a)) [
            | inl j ↦ let low = capped_above a (omega (arith, ltb-true greatest a j)) in omega (arith, low, high)
            | inr j ↦ let low = capped_within a (ltb-false greatest a j) in omega (arith, low, high, ltb-false greatest a j)
          ]
      | inr k ↦
          let high = capped_within b (ltb-false greatest b k) in
          let low = capped_within a (omega (arith, h, ltb-false greatest b k)) in
          omega (arith, low, high, h)
    ]

live_or_not : (es : List EntryValue) → AllByRecursion IsEntry es → sum_by live_count es ≤ sum_by documents_in es
live_or_not [] a = omega arith
live_or_not (e ∷ es) a =
    omega (arith, live_or_not es a.1, sum_by-cons live_count e es, sum_by-cons documents_in e es, count_by-le-length (λ bit. bit) e.live, a.0.bits)

each_has_one : (es : List EntryValue) → AllByRecursion (λ e. has_live e ≡ true) es → length es ≤ sum_by live_count es
each_has_one [] a = omega arith
each_has_one (e ∷ es) a = omega (arith, each_has_one es a.1, sum_by-cons live_count e es, ltb-true 0 (live_count e) (some_counted e.live ∙ a.0))

module _ (s : SnapshotValue) (i : IsSnapshot s) (few : length (content_of s) < 2 ^ 64) where
  counted : sum_by live_count s.entries ≡ length (content_of s)
  counted = live_documents s i

  pub live_are_documents : (stats_of s.entries).live ≡ length (content_of s)
  live_are_documents = capped_within (sum_by live_count s.entries) (omega (arith, counted, few)) ∙ counted

  pub segments_have_live : (stats_of s.entries).segments ≤ (stats_of s.entries).live
  segments_have_live = omega (
    arith,
    live_are_documents,
    counted,
    each_has_one s.entries (recursion_from_All (λ (e : EntryValue). has_live e ≡ true) s.entries
        i.live),
  )

  pub live_are_within : (stats_of s.entries).live ≤ (stats_of s.entries).documents
  live_are_within = capped_rises (sum_by live_count s.entries) (sum_by documents_in s.entries)
      (live_or_not s.entries (recursion_from_All IsEntry s.entries i.each))

-- A list more, with bits or without.
use Rattle.std.proofs.Common.{◌≡◌, ◌+◌, ◌^◌, ◌++◌, ◌∷◌, ◌<◌, ◌≤◌, Bool, [], List, ℕ, map, take, get_or, length, refl, ap, sym, subst, ◌∙◌, arith}
use Rattle.std.specs.Prelude.{All}
use Rattle.std.specs.Borrow.{Bor}
use Rattle.std.proofs.lemmas.List.{map-append, take_more}
use Rattle.std.proofs.lemmas.List.Elements.{All-append, All-cons, All-nil}
use Rattle.fts_pack.specs.declared.list_ref.ListRef.{ListRef}
use Rattle.fts_pack.specs.ListRef.{listed}
use Rattle.fts_cursor.specs.Splits.{IsSplit}
use Rattle.fts_cursor.proofs.LeadingLemmas.{lists_of}
use Rattle.fts_cursor.proofs.SplitLemmas.{IsSplit-rest, IsSplit-told}
use Rattle.fts_cursor.proofs.term_lists.split_of.Goals as goal
use Rattle.fts_cursor.proofs.term_lists.split_of.Goals.{in-Some+in_ok-push-in-Some, in-None+in_ok-push-in-None}

-- the lists so far with one more
more : (ls : List (ListRef)) (i : ℕ) (l : ListRef) → i < length ls → l ≡ get_or ls i l →
    lists_of (take i ls) ++ listed l ∷ [] ≡ lists_of (take (i + 1) ls)
more ls i l inside is = ap (λ (m : ListRef). lists_of (take i ls) ++ listed m ∷ []) is
    ∙ sym (map-append listed (take i ls) (get_or ls i l ∷ [])) ∙ ap (map listed) (sym (take_more ls i l inside))

pub overflow_add-opened : goal.overflow_add-opened
overflow_add-opened c =
    omega (
      arith,
      c.loop-list.invariant.split.few,
      c.loop-list.bits.small,
      c.loop-list.bits.ok,
      c.openings-opened.ensures.opened,
      c.cursor_over.ensures.opened,
      c.cursor_over.ensures.tied,
    )

few_more : (bits : List (Bor (List Bool))) (b : Bor (List Bool)) → All (λ c. length c.now ≤ 2 ^ 32) bits → length b.now ≤ 2 ^ 32 →
    All (λ c. length c.now ≤ 2 ^ 32) (bits ++ b ∷ [])
few_more bits b all one =
    let few : Bor (List Bool) → Type 0 = λ c. length c.now ≤ 2 ^ 32 in
    All-append few bits (b ∷ []) all (All-cons few b [] one (All-nil few))

pub loop-list-preserved : goal.loop-list-preserved
loop-list-preserved c =
    let i = c.loop-list.list-index in
    let all = more c.args.lists.now i c.list-item.result c.loop-list-test.true c.list-item.is in
    elim c.match-bits.branch [
      | in-Some+in_ok-push-in-Some w ↦ rw (w.bits-is, w.rest-is, w.opened-is, w.in_ok-push-in-Some.ensures.items) (record {
        split = subst (λ ls. IsSplit ls (c.loop-list.bits.items ++ w.in-Some.told ∷ []) (lists_of c.loop-list.rest.items)
            (c.loop-list.opened + w.openings-opened.result)) all
            (IsSplit-told (lists_of (take i c.args.lists.now)) c.loop-list.bits.items (lists_of c.loop-list.rest.items) c.loop-list.opened
            (listed c.list-item.result) w.in-Some.told w.openings-opened.result _ c.loop-list.invariant.split w.in-Some.ensures.tells
            (omega (arith, w.openings-opened.ensures.opened, w.cursor_over.ensures.opened, w.cursor_over.ensures.tied))
            (λ some. omega (arith, w.openings-opened.ensures.opened, w.cursor_over.ensures.enters some)) refl);
        few = few_more c.loop-list.bits.items w.in-Some.told c.loop-list.invariant.few w.in-Some.ensures.few;
      })
      | in-None+in_ok-push-in-None w ↦ rw (w.bits-is, w.rest-is, w.opened-is, w.in_ok-push-in-None.ensures.items, map-append) (record {
        split = subst (λ ls. IsSplit ls c.loop-list.bits.items (lists_of c.loop-list.rest.items ++ (listed c.list-item.result) ∷ []) c.loop-list.opened) all
            (IsSplit-rest (lists_of (take i c.args.lists.now)) c.loop-list.bits.items (lists_of c.loop-list.rest.items) c.loop-list.opened
            (listed c.list-item.result) c.loop-list.invariant.split);
        few = c.loop-list.invariant.few;
      })
    ]

pub returns-clause-few : goal.returns-clause-few
returns-clause-few c = c.loop-list.invariant.few

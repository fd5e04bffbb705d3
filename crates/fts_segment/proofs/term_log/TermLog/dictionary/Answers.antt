use Rattle.std.proofs.Common.{◌≡◌, ◌∙◌, ℕ, List, map, length, All, ap, ap₂, sym, subst, arith}
use Rattle.std.specs.List.Sorted.{IsStrictlyIncreasing}
use Rattle.std.proofs.lemmas.List.{length-map, take_at}
use Rattle.fts_segment.specs.declared.term_log.Occurrence.{Occurrence}
use Rattle.fts_segment.specs.declared.term_groups.DocPosition.{DocPosition}
use Rattle.fts_segment.specs.Dictionaries.{docs_in}
use Rattle.fts_segment.specs.Occurrences.{OccurrenceValue, docs_with}
use Rattle.fts_segment.specs.Positions.{position_lists_of, position_lists_with}
use Rattle.fts_positions.specs.PositionLists.{IsPositionList}
use Rattle.fts_segment.specs.TermLogs.{AreNamed, by_ordinal}
use Rattle.fts_segment.proofs.DictionaryLemmas.{IsGrouped, IsGrouped-sorted, lists_rise, groups_have_position_lists}
use Rattle.fts_segment.proofs.TermLogsLemmas.{Stand, AreNamed-by_ordinal}
use Rattle.fts_segment.proofs.term_log.TermLog.dictionary.Goals as goal
use Rattle.fts_segment.proofs.term_log.TermLog.dictionary.Goals.{After-len, After-groups-2-1}

-- the distinct names in order
abbrev sorted_in : After-len → List (List ℕ)
sorted_in c = map (λ n. n.now) c.in_ok-names.field-0.names.items

stand_of : (c : After-len) → Stand c.self.inside.terms (sorted_in c) c.in_ok-names.field-0.ordinals.items
stand_of c = subst (λ (ns : List (List ℕ)). Stand ns (sorted_in c) c.in_ok-names.field-0.ordinals.items) c.into_names-terms.ensures
    c.in_ok-names.ensures.ordinals

-- the occurrences with the ranks of their terms
after_of : (c : After-len) → c.deref-2.result.now ≡ map (by_ordinal c.in_ok-names.field-0.ordinals.items) c.self.inside.log.items
after_of c =
    let long : length c.put_in_order.new.log ≡ c.self.inside.log.len =
    ap length c.put_in_order.ensures ∙ length-map c.deref_mut.result.now (by_ordinal c.deref.result.now) ∙ c.deref_mut.ensures.len in
    c.deref-2.ensures.value ∙ take_at c.put_in_order.new.log _ c.self.inside.log.len long
    ∙ c.put_in_order.ensures ∙ ap₂ (λ (os : List ℕ) (es : List Occurrence). map (by_ordinal os) es) c.deref.ensures.value c.deref_mut.ensures.value

count_of : (c : After-len) → c.len.result ≡ length (sorted_in c)
count_of c = omega (arith, c.len.ensures, c.in_ok-names.field-0.names.ok.0, length-map c.in_ok-names.field-0.names.items (λ n. n.now))

grouped_of : (c : After-groups-2-1) → IsGrouped c.self.inside.terms (sorted_in (goal.at.write_terms-requires-clause-rise c).After-len) c.self.inside.log.items
    c.in_ok-groups.groups
grouped_of c = let a = (goal.at.write_terms-requires-clause-rise c).After-len in
    IsGrouped-sorted c.self.inside.terms (sorted_in a) c.in_ok-names.field-0.ordinals.items c.self.inside.log.items c.deref-2.result.now c.in_ok-groups.groups
    c.len.result
    c.in_ok-names.ensures.ascends (stand_of a) c.self.invariant (after_of a) (count_of a) c.in_ok-groups.ensures.count c.in_ok-groups.ensures.groups

pub new-requires : goal.new-requires
new-requires c =
    let named = subst (AreNamed (sorted_in c)) (sym (after_of c)) (AreNamed-by_ordinal c.self.inside.terms (sorted_in c) c.in_ok-names.field-0.ordinals.items
    c.self.inside.log.items (stand_of c) c.self.invariant) in
    λ k d within. omega (arith, named k d within, count_of c)

pub write_terms-requires-clause-rise : goal.write_terms-requires-clause-rise
write_terms-requires-clause-rise c =
    let P : List (List DocPosition) → Type 0 = All (λ places. IsStrictlyIncreasing (docs_in places)) in
    let Q : List OccurrenceValue → Type 0 = λ os. (q : List ℕ) → IsStrictlyIncreasing (docs_with q os) in
    subst P (sym (grouped_of c).groups_are) (lists_rise (sorted_in (goal.at.write_terms-requires-clause-rise c).After-len) _
    (subst Q (sym c.self.view_is) c.requires.rise))

pub write_terms-requires-clause-positions : goal.write_terms-requires-clause-positions
write_terms-requires-clause-positions c =
    let P : List (List DocPosition) → Type 0 = All (λ places. All IsPositionList (position_lists_of places)) in
    let Q : List OccurrenceValue → Type 0 = λ os. (q : List ℕ) → All IsPositionList (position_lists_with q os) in
    subst P (sym (grouped_of c).groups_are) (groups_have_position_lists (sorted_in (goal.at.write_terms-requires-clause-positions c).After-len) _
    (subst Q (sym c.self.view_is) c.requires.positions))

pub returns : goal.returns
returns c =
    rw (
      c.in_ok-dictionary.ensures.names,
      c.in_ok-dictionary.ensures.lists,
      c.in_ok-dictionary.ensures.positions,
      c.in_ok-writer.ensures.names,
      c.in_ok-writer.ensures.lists,
      c.in_ok-writer.ensures.positions,
      c.deref-3.ensures.value,
      ← c.self.view_is,
    )
    (grouped_of (goal.at.returns c).After-groups-2-1).dictionary_is

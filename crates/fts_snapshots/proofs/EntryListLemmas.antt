-- The segments of runs, the first of which are shared and the others merged.
use Rattle.std.proofs.Common.{◌≡◌, ◌-◌, ℕ, List, [], ◌∷◌, ◌++◌, Vec, Bor, All, length, map, take, drop, subst, sym, ap, ◌∙◌, append_assoc, arith}
use Rattle.std.specs.declared.sync.Arc.{Arc}
use Rattle.std.specs.Arc.{arc_value}
use Rattle.std.specs.List.{AllByRecursion}
use Rattle.std.proofs.lemmas.Grind.{flat_map-append}
use Rattle.std.proofs.lemmas.List.{append-nil, take-append-drop, take_all, length-drop, map-append}
use Rattle.std.proofs.lemmas.List.Elements.{recursion_from_All}
use Rattle.fts_snapshots.specs.Entries.{EntryValue}
use Rattle.fts_snapshots.specs.EntryLists.{entries_of}

module _ {Z : Type 0} where
  -- the segments of a run
  abbrev pub items_of : Arc (Vec EntryValue Z) Z → List EntryValue
  items_of run = (arc_value run).items

  -- the first runs, and one that has the segments of the others and more
  pub runs_joined : (k : ℕ) (runs first all : List (Arc (Vec EntryValue Z) Z)) (last : Arc (Vec EntryValue Z) Z) (more : List EntryValue) →
      entries_of first ≡ entries_of (take k runs) → all ≡ first ++ last ∷ [] →
      items_of last ≡ entries_of (take (length runs - k) (drop k runs)) ++ more → entries_of all ≡ entries_of runs ++ more
  runs_joined k runs first all last more kept made joined =
      let rest = drop k runs in
      let whole : take (length runs - k) rest ≡ rest = take_all (length runs - k) rest (omega (arith, length-drop k runs)) in
      ap entries_of made
      ∙ flat_map-append items_of first (last ∷ [])
      ∙ ap (λ es. es ++ (items_of last ++ [])) kept
      ∙ ap (λ es. entries_of (take k runs) ++ es) (append-nil (items_of last) ∙ joined ∙ ap (λ rs. entries_of rs ++ more) whole)
      ∙ sym (append_assoc (entries_of (take k runs)) (entries_of rest) more)
      ∙ ap (λ es. es ++ more) (sym (flat_map-append items_of (take k runs) rest) ∙ ap entries_of (take-append-drop k runs))

-- the segments that an iterator gave
abbrev pub passed : List (Bor EntryValue) → List EntryValue
passed entries = map (λ entry. entry.now) entries

-- a property of all segments holds of the next one
pub next_has : (P : EntryValue → Type 0) (before rest entries : List EntryValue) (entry : EntryValue) → before ++ entry ∷ rest ≡ entries → All P entries →
    P entry
next_has P before rest entries entry same all =
    at before (recursion_from_All P (before ++ entry ∷ rest) (subst (All P) (sym same) all)) where
      at : (before : List EntryValue) → AllByRecursion P (before ++ entry ∷ rest) → P entry
      at [] a = a.0
      at (e ∷ es) a = at es a.1

-- one more segment was given
pub passed_more : (yielded : List (Bor EntryValue)) (item : Bor EntryValue) (ahead rest entries : List EntryValue) → passed yielded ++ ahead ≡ entries →
    ahead ≡ item.now ∷ rest →
    (passed (yielded ++ item ∷ []) ≡ passed yielded ++ item.now ∷ []) × (passed (yielded ++ item ∷ []) ++ rest ≡ entries)
passed_more yielded item ahead rest entries whole next =
    let more = map-append (λ (entry : Bor EntryValue). entry.now) yielded (item ∷ []) in (
      more,
      ap (λ es. es ++ rest) more ∙ append_assoc (passed yielded) (item.now ∷ []) rest ∙ ap (λ es. passed yielded ++ es) (sym next) ∙ whole,
    )

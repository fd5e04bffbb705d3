use Rattle.std.proofs.Common.{◌<◌, ◌≤◌, ℕ, get_or, length, Err, inl, inr, ap, arith}
use Rattle.std.proofs.lemmas.Bool.{cases_order}
use Rattle.std.proofs.lemmas.List.Sorted.{searched}
use Rattle.std.proofs.lemmas.List.Kept.{AllPairs-from_increasing}
use Rattle.std.proofs.lemmas.Option.{slice_get_within, get_or_from_slice_get}
use Rattle.fts_segment.proofs.binary_search.find_number.Goals as goal

pub returns-in-Err : goal.returns-in-Err
returns-in-Err c i found =
    let xs = c.args.numbers.now in
    let pairs = AllPairs-from_increasing xs c.requires in
    let up : (i j : ℕ) → i ≤ j → j < length xs → get_or xs i 0 ≤ get_or xs j 0 = λ i j le within. elim (cases_order i j) [
      | inl same ↦ omega (arith, ap (λ k. get_or xs k 0) same)
      | inr (inl lower) ↦ omega (arith, pairs i j 0 lower within)
      | inr (inr higher) ↦ absurd (omega arith)
    ] in
    let s = searched xs c.args.number (Err c.in-Err.field-0) c.in-Err.ensures.position up in
    let at = get_or_from_slice_get xs i c.args.number 0 found in
    let within = slice_get_within xs i c.args.number found in
    elim (cases_order i c.in-Err.field-0) [
      | inl same ↦ omega (arith, s.2 i (omega arith) within, at)
      | inr (inl lower) ↦ omega (arith, s.1 i lower, at)
      | inr (inr higher) ↦ omega (arith, s.2 i (omega arith) within, at)
    ]

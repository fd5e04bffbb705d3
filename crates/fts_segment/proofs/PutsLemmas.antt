-- Postings that are appended in several steps.
use Rattle.std.proofs.Common.{◌≡◌, ◌++◌, ℕ, List, [], append-nil, map, sym, ap, subst, ◌∙◌}
use Rattle.std.proofs.lemmas.List.{append_assoc, map-append}
use Rattle.fts_positions.specs.declared.position_lists.PositionListLog.{PositionListLog}
use Rattle.fts_positions.specs.PositionListLogs.{IsPositionListLog, logged_position_lists}
use Rattle.fts_segment.specs.Postings.{Posting}
use Rattle.fts_segment.specs.Puts.{Puts}

-- no posting is appended yet
pub puts-none : {docs : List ℕ} {log : PositionListLog} → IsPositionListLog log → Puts [] docs log docs log
puts-none {docs} {log} is = record { is = is; documents_are = sym (append-nil docs); positions_are = sym (append-nil (logged_position_lists log)) }

-- equal postings are appended
pub puts-as : {some other : List Posting} {docs new_docs : List ℕ} {log new_log : PositionListLog} → other ≡ some → Puts some docs log new_docs new_log →
    Puts other docs log new_docs new_log
puts-as {some} {other} {docs} {new_docs} {log} {new_log} same h =
    let P : List Posting → Type 0 = λ ps. Puts ps docs log new_docs new_log in subst P (sym same) h

appended : {X : Type 0} (f : Posting → X) (some more all : List Posting) (before out new : List X) → all ≡ some ++ more → out ≡ before ++ map f some →
    new ≡ out ++ map f more → new ≡ before ++ map f all
appended f some more all before out new is so_far put =
    put ∙ ap (λ zs. zs ++ map f more) so_far ∙ append_assoc before (map f some) (map f more)
    ∙ ap (λ zs. before ++ zs) (sym (map-append f some more) ∙ ap (map f) (sym is))

-- more postings are appended after some
pub puts-more : {some more all : List Posting} {docs mid_docs new_docs : List ℕ} {log mid_log new_log : PositionListLog} → all ≡ some ++ more →
    Puts some docs log mid_docs mid_log → Puts more mid_docs mid_log new_docs new_log → Puts all docs log new_docs new_log
puts-more {some} {more} {all} {docs} {mid_docs} {new_docs} {log} {mid_log} {new_log} is first second = record {
  is = second.is;
  documents_are = appended (λ (p : Posting). p.doc) some more all docs mid_docs new_docs is first.documents_are second.documents_are;
  positions_are = appended (λ (p : Posting). p.positions) some more all (logged_position_lists log) (logged_position_lists mid_log)
      (logged_position_lists new_log) is first.positions_are second.positions_are;
}

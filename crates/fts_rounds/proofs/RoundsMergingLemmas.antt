-- The progress of the loop of `merge`, and the merge of one end.
use Rattle.std.proofs.Common.{◌≡◌, ℕ, ◌+◌, List, [], ◌∷◌, ◌++◌, length, IsPermutation, refl, sym, ap, ◌∙◌, subst, arith, append_assoc, append-nil}
use Rattle.std.proofs.lemmas.List.{map-append, nil_from_length}
use Rattle.std.proofs.lemmas.List.Sorted.{IsPermutation-append, IsPermutation-append_comm, IsPermutation-refl, IsPermutation-trans}
use Rattle.atomic_table.specs.Table.{Me}
use Rattle.fts_model.specs.declared.operation.Op.{Op}
use Rattle.fts_model.specs.declared.operation.Stamped.{Stamped}
use Rattle.fts_rounds.specs.declared.stamps.RoundLimits.{RoundLimits}
use Rattle.fts_rounds.specs.declared.stamps.Drawn.{Drawn}
use Rattle.fts_rounds.specs.RoundsDrawn.{AreAll, drawn, joined}
use Rattle.fts_model.specs.Operations.{stamps_of}
use Rattle.fts_rounds.specs.Rounds.{Held, Rises}
use Rattle.fts_rounds.specs.Shuffles.{submissions}

-- each lane's stamps rise
abbrev pub AllRise : List Held → Type 0
AllRise [] = Unit {0}
AllRise (h ∷ hs) = Rises (stamps_of h.ops) × AllRise hs

-- the ends that are left; the others are merged, and the round's seat has their lanes and their stamps
pub record Merging (all left : List Held) (merged : List (Stamped Op)) (limits : RoundLimits) (me : Me (Unit {0}) Drawn) : Type 0 where
  pub gone : List Held
  pub whole : all ≡ left ++ gone
  pub rise : AllRise gone
  pub members : IsPermutation (submissions gone) merged
  pub seat : me ≡ (drawn limits (length gone) (stamps_of merged), [])

-- no end is merged yet
pub starts : (all : List Held) (merged : List (Stamped Op)) (limits : RoundLimits) (me : Me (Unit {0}) Drawn) → merged ≡ [] → me ≡ (drawn limits 0 [], []) →
    Merging all all merged limits me
starts all merged limits me none seat = record {
  gone = [];
  whole = sym (append-nil all);
  rise = tt;
  members = subst (IsPermutation []) (sym none) (IsPermutation-refl []);
  seat = seat ∙ ap (λ l. (drawn limits 0 (stamps_of l), [])) (sym none);
}

-- the last end is merged: its operations are appended, and its lane and stamps are joined to the round's seat
pub goes_in : (all old left : List Held) (end : Held) (merged new : List (Stamped Op)) (limits : RoundLimits) (me me' mine : Me (Unit {0}) Drawn)
    → Merging all old merged limits me → old ≡ left ++ end ∷ [] → Rises (stamps_of end.ops) → new ≡ merged ++ end.ops
    → mine ≡ (drawn limits 1 (stamps_of end.ops), []) → me' ≡ (joined me.0 mine.0, me.1) → Merging all left new limits me'
goes_in all old left end merged new limits me me' mine m is rises more of_lane both =
    let seat = m.seat in
    record {
      gone = end ∷ m.gone;
      whole = m.whole ∙ (ap (λ (l : List Held). l ++ m.gone) is ∙ append_assoc left (end ∷ []) m.gone);
      rise = (rises, m.rise);
      members = subst (IsPermutation (end.ops ++ submissions m.gone)) (sym more)
          (IsPermutation-trans (end.ops ++ submissions m.gone) (submissions m.gone ++ end.ops) (merged ++ end.ops)
          (IsPermutation-append_comm end.ops (submissions m.gone))
          (IsPermutation-append (submissions m.gone) merged end.ops end.ops m.members (IsPermutation-refl end.ops)));
      seat = both
          ∙ (ap (λ v. (joined v.0 mine.0, v.1)) seat
          ∙ (ap (λ w. (joined (drawn limits (length m.gone) (stamps_of merged)) w.0, [])) of_lane
          ∙ ((λ i. (drawn limits ((let e : length m.gone + 1 ≡ length (end ∷ m.gone) = omega arith in e) i) (stamps_of merged ++ stamps_of end.ops), []))
          ∙ ap (λ l. (drawn limits (length (end ∷ m.gone)) l, [])) (sym (ap stamps_of more ∙ map-append (λ (s : Stamped Op). s.stamp) merged end.ops)))));
    }

module _ (all left : List Held) (merged : List (Stamped Op)) (limits : RoundLimits) (me : Me (Unit {0}) Drawn) (m : Merging all left merged limits me)
    (none : length left ≡ 0) where
  all_gone : m.gone ≡ all
  all_gone = sym (m.whole ∙ ap (λ (l : List Held). l ++ m.gone) (nil_from_length left none))

  pub done_rise : AllRise all
  done_rise = subst AllRise all_gone m.rise

  pub done_members : IsPermutation (submissions all) merged
  done_members = subst (λ (l : List Held). IsPermutation (submissions l) merged) all_gone m.members

  pub done_seat : me ≡ (drawn limits (length all) (stamps_of merged), [])
  done_seat = m.seat ∙ ap (λ (l : List Held). (drawn limits (length l) (stamps_of merged), [])) all_gone

-- the seat of a round of one lane, after its end was merged
pub alone_seat : (end : Held) (ops : List (Stamped Op)) (limits : RoundLimits) (me me' mine : Me (Unit {0}) Drawn)
    → me ≡ (drawn limits 0 [], []) → ops ≡ end.ops → Rises (stamps_of ops) → mine ≡ (drawn limits 1 (stamps_of ops), [])
    → me' ≡ (joined me.0 mine.0, me.1) → me' ≡ (drawn limits (length (end ∷ [])) (stamps_of ops), [])
alone_seat end ops limits me me' mine fresh is rises of_lane both =
    let list = ap stamps_of is in
    done_seat (end ∷ []) [] ops limits me'
    (goes_in (end ∷ []) (end ∷ []) [] end [] ops limits me me' mine (starts (end ∷ []) [] limits me refl fresh) refl (subst Rises list rises) is
    (of_lane ∙ ap (λ l. (drawn limits 1 l, [])) list) both)
    refl

-- the load shows that a seat of all lanes has all stamps
pub told : (limits : RoundLimits) (n : ℕ) (stamps : List ℕ) (me : Me (Unit {0}) Drawn) → me ≡ (drawn limits n stamps, []) → n ≡ limits.lanes
    → (me.0.lanes ≡ me.0.limits.lanes → AreAll me.0.limits me.0.stamps) → AreAll limits stamps
told limits n stamps me is whole f = subst (λ (v : Me (Unit {0}) Drawn). v.0.lanes ≡ v.0.limits.lanes → AreAll v.0.limits v.0.stamps) is f whole

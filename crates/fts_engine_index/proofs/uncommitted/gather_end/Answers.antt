use Rattle.std.proofs.Common.{◌≡◌, ◌<◌, ◌+◌, ◌==◌, ℕ, Bool, true, cond, List, [], ◌∷◌, ◌⊎◌, inl, inr, subst, arith}
use Rattle.std.proofs.lemmas.Bool.Decides.{nat_tests}
use Rattle.fts_base.specs.Totals.{times}
use Rattle.fts_rounds.specs.Rounds.{Held, lanes_of}
use Rattle.fts_rounds.specs.Shuffles.{IsLeastMissing}
use Rattle.fts_base.specs.declared.refusal.Refusal.{Refusal}
use Rattle.fts_base.specs.declared.refusal.Refusal.TheVariants.{Memory, LaneMissing}
use Rattle.fts_engine_index.proofs.uncommitted.gather_end.Goals as goal

-- the one lane isn't missing
none_missing : (lanes n : ℕ) (ends : List Held) (end : Held) → lanes ≡ 1 → ends ≡ end ∷ [] → end.lane < lanes → IsLeastMissing lanes (lanes_of ends) n → ⊥
none_missing lanes n ends end one alone its h =
    let none : times n (lanes_of (end ∷ [])) ≡ 0 = subst (λ es. times n (lanes_of es) ≡ 0) alone h.1 in
    let below : n < lanes = h.0 in
    let equal : n ≡ end.lane = omega arith in
    let same : (n == end.lane) ≡ true = grind (arith, nat_tests) in
    let bad : 1 + 0 ≡ 0 = subst (λ (b : Bool). cond b 1 0 + 0 ≡ 0) same none in
    absurd (omega arith)

memory : (lanes : ℕ) (ends : List Held) (end : Held) (e : Refusal) → lanes ≡ 1 → ends ≡ end ∷ [] → end.lane < lanes →
    ((n : ℕ) → e ≡ LaneMissing n → IsLeastMissing lanes (lanes_of ends) n) → (e ≡ Memory) ⊎ ((n : ℕ) × (e ≡ LaneMissing n)) → e ≡ Memory
memory lanes ends end e one alone its missing (inl h) = h
memory lanes ends end e one alone its missing (inr h) = absurd (none_missing lanes h.0 ends end one alone its (missing h.0 h.1))

pub returns-in-Err-clause-memory : goal.returns-in-Err-clause-memory
returns-in-Err-clause-memory c =
    memory c.args.round.limits.lanes c.args.ends.items c.requires.end.end _ c.requires.one_lane.lanes c.requires.end.alone c.requires.end.its.2
    (λ n. (c.in-Err.ensures.missing n).0) c.in-Err.ensures.refused

use Rattle.std.proofs.Common.{◌≡◌, ◌&&◌, ◌∙◌, List, ℕ, Bool, true, ap, map, nat_eq, not, sym}
use Rattle.std.specs.List.{list_any}
use Rattle.fts_merge.specs.Levels.{is_mostly_dead, is_named}
use Rattle.fts_merge.proofs.AloneLemmas.{named_in}
use Rattle.fts_merge.proofs.merge_plan.is_alone.Goals as goal

pub returns-then-is_mostly_dead : goal.returns-then-is_mostly_dead
returns-then-is_mostly_dead c =
    let index = c.args.index in
    let dead : is_mostly_dead c.args.percent c.args.segment ≡ true = sym c.is_mostly_dead.ensures ∙ c.if-is_mostly_dead.true in
    let has : List ℕ → Bool = λ candidate. list_any (λ named. nat_eq named index) candidate in
    let named = c.is_named.ensures ∙ named_in (λ v. v.items) has c.args.found.now in
    ap not named ∙ sym (ap (λ b. b && not (is_named (map (λ v. v.items) c.args.found.now) index)) dead)

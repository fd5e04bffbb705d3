use Rattle.std.proofs.Common.{List, Result, Ok, Err, IfErr, subst}
use Rattle.fts_rounds.specs.Rounds.{Gathered, Opened}
use Rattle.fts_index.specs.Writers.{WriterValue}
use Rattle.fts_model.specs.declared.operation.Op.{Op}
use Rattle.fts_model.specs.declared.operation.Stamped.{Stamped}
use Rattle.fts_base.specs.declared.refusal.Refusal.{Refusal}
use Rattle.fts_engine_index.specs.declared.uncommitted.Uncommitted.{Uncommitted}
use Rattle.fts_engine_index.specs.UncommittedOperations.{StayUncommitted, IsOpen, IsUncommittedIn}
use Rattle.fts_engine_index.proofs.uncommitted.gather.Goals as goal

-- what stays uncommitted in an open round belongs to that round
kept_uncommitted : (w : WriterValue) (round : Opened) (ops : List (Stamped Op)) (r : Result Gathered (Uncommitted × Refusal)) → IsOpen w round →
    IfErr r (λ e. StayUncommitted round ops e.0) → IfErr r (λ e. IsUncommittedIn w e.0)
kept_uncommitted w round ops (Ok batch) o h = tt
kept_uncommitted w round ops (Err e) o h = h.its w o

pub returns-in-Ok-clause-uncommitted : goal.returns-in-Ok-clause-uncommitted
returns-in-Ok-clause-uncommitted c = kept_uncommitted _ _ _ _ c.in-Ok.ensures.open c.gather_lane.ensures.kept

pub returns-in-Open-clause-uncommitted : goal.returns-in-Open-clause-uncommitted
returns-in-Open-clause-uncommitted c = kept_uncommitted _ _ _ _ (subst (IsUncommittedIn c.args.writer.now) c.in-Open.is c.requires.uncommitted).0
    c.gather_lane-in-Open.ensures.kept

pub returns-in-Ended-clause-uncommitted : goal.returns-in-Ended-clause-uncommitted
returns-in-Ended-clause-uncommitted c = kept_uncommitted _ _ _ _ (subst (IsUncommittedIn c.args.writer.now) c.in-Ended.is c.requires.uncommitted).0
    c.gather_end.ensures.kept

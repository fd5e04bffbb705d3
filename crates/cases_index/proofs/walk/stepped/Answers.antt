-- The merged segments fit the snapshots that follow.
use Rattle.cases_index.proofs.LateLemmas.{all_further}
use Rattle.cases_index.proofs.walk.stepped.Goals as goal

pub returns-then-changed : goal.returns-then-changed
returns-then-changed g c = all_further c.ended.new.writer.front.snapshot c.changed.new.writer.front.snapshot c.changed.ensures c.ended.new.late.items
    c.ended.ensures

pub returns-then-not-shown : goal.returns-then-not-shown
returns-then-not-shown g c = all_further c.ended.new.writer.front.snapshot c.changed.new.writer.front.snapshot c.changed.ensures c.ended.new.late.items
    c.ended.ensures

pub returns-else-not-asked : goal.returns-else-not-asked
returns-else-not-asked g c = all_further c.ended.new.writer.front.snapshot c.changed.new.writer.front.snapshot c.changed.ensures c.ended.new.late.items
    c.ended.ensures

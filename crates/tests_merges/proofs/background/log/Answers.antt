-- Each commit follows the one before.
use Rattle.dilforec.specs.Successors.{follows_itself, follows_further}
use Rattle.tests_merges.proofs.background.log.Goals as goal

pub loop-line-init : goal.loop-line-init
loop-line-init g c = follows_itself c.args.writer.now.front.snapshot

pub loop-line-preserved : goal.loop-line-preserved
loop-line-preserved g c =
    follows_further c.args.writer.now.front.snapshot c.loop-line.writer.front.snapshot c.commit.new.writer.front.snapshot c.loop-line.invariant c.commit.ensures

-- What was started fits what the log left.
use Rattle.dilforec.specs.MergedSegments.{merged_of}
use Rattle.dilforec.proofs.FollowLemmas.{fits_further}
use Rattle.tests_merges.proofs.background.merge_beside.Goals as goal

pub join_merge-requires-after_bounds : goal.join_merge-requires-after_bounds
join_merge-requires-after_bounds g c κs within =
    fits_further (merged_of c.begun-thread.result.promise.0.value) c.args.writer.now.front.snapshot c.log.new.writer.front.snapshot c.begun-thread.ensures
    c.log.ensures

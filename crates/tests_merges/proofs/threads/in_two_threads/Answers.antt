-- What is left of the proof of `threads::in_two_threads`.
use Rattle.dilforec.proofs.FollowLemmas.{fits_further}
use Rattle.tests_merges.proofs.threads.in_two_threads.Goals as goal

pub end-requires : goal.end-requires
end-requires g c = fits_further c.in_ok-first.second c.commit.new.writer.front.snapshot c.commit-2.new.writer.front.snapshot c.in_ok-first.ensures.second
    c.commit-2.ensures

pub end-requires-2 : goal.end-requires-2
end-requires-2 g c =
    let now = c.commit-2.new.writer.front.snapshot in
    fits_further c.in_ok-first.first now c.end.new.writer.front.snapshot
    (fits_further c.in_ok-first.first c.commit.new.writer.front.snapshot now c.in_ok-first.ensures.first c.commit-2.ensures) c.end.ensures

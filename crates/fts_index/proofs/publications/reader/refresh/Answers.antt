use Rattle.fts_index.proofs.publications.reader.refresh.Goals as goal

pub keep_newer-requires : goal.keep_newer-requires
keep_newer-requires c = rw c.in-Some.is at (c.in_ok-found.ensures.of_one c.args.front.now.seen.of c.requires)

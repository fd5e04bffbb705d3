-- A position that makes the sum with the offset is the difference, and there is none where the offset is more.
use Rattle.std.proofs.Common.{◌+◌, [], get_or, sym, arith}
use Rattle.fts_cursor.proofs.PhraseLemmas.{none-sum}
use Rattle.fts_cursor.proofs.phrase.follows.Goals as goal

pub returns-in-None-clause-follows : goal.returns-in-None-clause-follows
returns-in-None-clause-follows c =
    let m = c.args.member.now in
    sym (none-sum c.args.offset (c.args.position + m.offset) (get_or m.positions c.args.posting [])
    (omega (arith, c.from.ensures, c.from-2.ensures, c.from-3.ensures, c.in-None.ensures)))

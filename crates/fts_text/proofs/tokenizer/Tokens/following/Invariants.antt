use Rattle.std.proofs.Common.{◌≡◌, length}
use Rattle.fts_text.specs.Places.{following_left}
use Rattle.fts_text.proofs.tokenizer.Tokens.following.Given as goal

abbrev pub invariant-loop : goal.invariant-loop
invariant-loop l = following_left l.self ≡ following_left l.fn.self

abbrev pub decreases-loop : goal.decreases-loop
decreases-loop l = length l.self.rest.now

use Rattle.std.proofs.Common.{◌≡◌, length}
use Rattle.fts_text.specs.Places.{following_left, places_left}
use Rattle.fts_text.proofs.tokenizer.Tokens.next_token.Given as goal

abbrev pub invariant-loop-span : goal.invariant-loop-span
invariant-loop-span l = record {
  places : places_left l.self ≡ places_left l.initial.self;
  following : following_left l.self ≡ following_left l.initial.self;
}

abbrev pub decreases-loop-span : goal.decreases-loop-span
decreases-loop-span l = length l.self.rest.now

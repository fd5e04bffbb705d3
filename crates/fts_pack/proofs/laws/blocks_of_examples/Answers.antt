-- The definitions, at the examples.
use Rattle.std.proofs.Common.{refl}
use Rattle.fts_pack.specs.bits.Digits.{joined, digits, word_count, words_of}
use Rattle.fts_pack.specs.FourLanes.{lane_of, woven, words_in_lanes}
use Rattle.fts_pack.proofs.laws.blocks_of_examples.Goals as goal

pub returns-clause-three : goal.returns-clause-three
unfolding words_in_lanes woven lane_of words_of digits word_count joined
returns-clause-three c = refl

pub returns-clause-zeros : goal.returns-clause-zeros
unfolding words_in_lanes woven lane_of words_of digits word_count joined
returns-clause-zeros c = refl

pub returns-clause-greatest : goal.returns-clause-greatest
unfolding words_in_lanes woven lane_of words_of digits word_count joined
returns-clause-greatest c = refl

pub returns-clause-whole : goal.returns-clause-whole
unfolding words_in_lanes woven lane_of words_of digits word_count joined
returns-clause-whole c = refl

pub returns-clause-fourths : goal.returns-clause-fourths
unfolding words_in_lanes woven lane_of words_of digits word_count joined
returns-clause-fourths c = refl

pub returns-clause-sevens : goal.returns-clause-sevens
unfolding words_in_lanes woven lane_of words_of digits word_count joined
returns-clause-sevens c = refl

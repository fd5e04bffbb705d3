-- The definitions, at the examples.
use Rattle.std.proofs.Common.{refl}
use Rattle.fts_pack.specs.bits.Digits.{joined, digits, word_count, words_of}
use Rattle.fts_pack.proofs.column.laws.columns_of_examples.Goals as goal

pub returns-clause-missing : goal.returns-clause-missing
unfolding words_of digits word_count joined
returns-clause-missing c = refl

pub returns-clause-present : goal.returns-clause-present
unfolding words_of digits word_count joined
returns-clause-present c = refl

pub returns-clause-none : goal.returns-clause-none
unfolding words_of digits word_count joined
returns-clause-none c = refl

pub returns-clause-widest : goal.returns-clause-widest
unfolding words_of digits word_count joined
returns-clause-widest c = refl

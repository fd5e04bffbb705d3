use Rattle.std.proofs.Common.{◌∙◌}
use Rattle.fts_parts.proofs.KeysLemmas.{first_keys-sorted}
use Rattle.fts_parts.proofs.top_k.keep_least.Goals as goal

pub returns : goal.returns
returns c = c.truncate.ensures.items ∙ first_keys-sorted c.args.k c.args.keys.now.items c.sort_unstable.new.self.items c.sort_unstable.ensures.permutation
    c.sort_unstable.ensures.sorted

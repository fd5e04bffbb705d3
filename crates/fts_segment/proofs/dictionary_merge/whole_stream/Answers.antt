use Rattle.std.proofs.Common.{count_by, ap, sym, subst, ◌∙◌, arith}
use Rattle.fts_segment.specs.Parts.{IsWhole, part_from, renumbered}
use Rattle.fts_segment.proofs.SourceLemmas.{all_set}
use Rattle.fts_segment.proofs.dictionary_merge.whole_stream.Goals as goal

pub new-requires : goal.new-requires
new-requires c = omega (arith, c.requires.room, ap (count_by (λ bit. bit)) c.in-Ok.ensures.ok, all_set c.args.docs)

pub new-requires-2 : goal.new-requires-2
new-requires-2 c =
    subst (IsWhole c.args.dictionary.now) (sym (c.in_ok-numbers.ensures ∙ ap (renumbered c.args.next) c.in-Ok.ensures.ok)) c.requires.whole

pub returns : goal.returns
returns c = c.new-2.ensures ∙ ap (part_from 0 c.args.dictionary.now) (c.in_ok-numbers.ensures ∙ ap (renumbered c.args.next) c.in-Ok.ensures.ok)

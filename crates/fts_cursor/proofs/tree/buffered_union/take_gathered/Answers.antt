-- What fits of the window is taken, and the next is looked for.
use Rattle.std.proofs.Common.{◌∙◌, sym, subst, arith}
use Rattle.fts_cursor.specs.TreeValues.{remains}
use Rattle.fts_cursor.specs.Trees.{gathered}
use Rattle.fts_cursor.specs.declared.tree.buffered_union.BufferedUnion.{BufferedUnion}
use Rattle.fts_postings.specs.Takes.{Takes}
use Rattle.fts_cursor.proofs.GatherLemmas.{gathered_all, gathered_takes}
use Rattle.fts_cursor.proofs.tree.buffered_union.take_gathered.Goals as goal

pub gather-next-requires : goal.gather-next-requires
gather-next-requires c = λ d within. c.requires.1.parts.beyond d (omega (arith, within, c.take-count.ensures.last))

pub returns-clause-taken : goal.returns-clause-taken
returns-clause-taken c =
    let b = c.args.buffered.now in
    let w = c.take-count.new.self in
    let mid : BufferedUnion = record { parts = b.parts; window = w } in
    subst (λ left. Takes (gathered b) left c.take-count.new.out c.take-count.result) (sym (c.gather-next.ensures.now.is ∙ gathered_all mid))
    (gathered_takes c.requires.0 b.window w (remains b.parts.items) c.take-count.new.out c.take-count.result c.requires.1.first c.requires.1.parts
    c.take-count.ensures.last c.take-count.ensures.taken)

pub returns-clause-stands : goal.returns-clause-stands
returns-clause-stands c = c.gather-next.ensures.now.stands

pub returns-clause-walked : goal.returns-clause-walked
returns-clause-walked c =
    let k = c.gather-next.ensures.continues in
    record { continues = record { bound = k.bound; list = k.list; more = k.more }; whole = λ h. h }

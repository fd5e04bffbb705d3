use Rattle.std.proofs.Common.{◌≡◌, ℤ, ap, ◌∙◌, sym, subst, arith, rules, to_z, of_z, w32}
use Rattle.fts_c.specs.Blocks.{ExecutesLines}
use Rattle.fts_c.proofs.BlockLemmas.{reached_end, reached_next, reached_stop}
use Rattle.fts_c.proofs.state.State.execute_lines.Goals as goal

pub returns-then-code-ne-OK : goal.returns-then-code-ne-OK
returns-then-code-ne-OK c =
    let code : ℤ = c.execute_next-code.result in
    let back : to_z w32 (of_z w32 code) ≡ code = search rules in
    subst (λ k. ExecutesLines c.args.self.now c.args.block.now c.execute_next-code.new.self k c.loop-rest.done) (sym back)
    (reached_stop c.args.self.now c.loop-rest.self c.execute_next-code.new.self c.args.block.now c.loop-rest.rest.now c.first_line.result.0.now
    c.first_line.result.1.now c.loop-rest.done code
    c.loop-rest.invariant c.first_line.ensures.line c.execute_next-code.ensures (λ e. c.if-code-ne-OK.true (ap (of_z w32) e)))

pub loop-rest-preserved : goal.loop-rest-preserved
loop-rest-preserved c =
    let code : ℤ = c.execute_next-code.result in
    let back : to_z w32 (of_z w32 code) ≡ code = search rules in
    reached_next c.args.self.now c.loop-rest.self c.execute_next-code.new.self c.args.block.now c.loop-rest.rest.now c.first_line.result.0.now
    c.first_line.result.1.now c.loop-rest.done c.execute_next-code.result
    c.loop-rest.invariant c.first_line.ensures.line c.first_line.ensures.shorter c.execute_next-code.ensures (sym back ∙ ap (to_z w32) c.if-code-ne-OK.false)

pub returns : goal.returns
returns c = reached_end c.args.self.now c.loop-rest.self c.args.block.now c.loop-rest.rest.now c.loop-rest.done c.loop-rest.invariant (search (rules, arith))

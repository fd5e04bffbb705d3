use Rattle.std.proofs.Common.{◌≡◌, true, subst, sym}
use Rattle.fts_model.specs.Operations.{op_fits}
use Rattle.fts_engine_index.proofs.EngineLemmas.{submitted}
use Rattle.fts_engine_index.proofs.index_engine.IndexEngineEngine.submit.Goals as goal

pub invariant_of-self-2 : goal.invariant_of-self-2
invariant_of-self-2 c =
    let e = c.self.inside in
    let fits = subst (λ v. op_fits v.index.schema c.args.op ≡ true) (sym c.self.view_is) c.requires.fits in
    submitted e.writer c.submit.new.writer e.reader e.uncommitted c.submit.new.uncommitted e.count e.calls c.in_ok-stamp.stamp c.args.op c.self.invariant
    c.in_ok-stamp.ensures.front
    c.in_ok-stamp.ensures.counted c.in_ok-stamp.ensures.uncommitted c.in_ok-stamp.ensures.submits fits

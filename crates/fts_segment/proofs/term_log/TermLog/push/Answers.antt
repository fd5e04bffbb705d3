use Rattle.std.proofs.Common.{◌≡◌, ◌∙◌, ◌<◌, [], ◌∷◌, ◌++◌, length, ap, arith}
use Rattle.std.proofs.lemmas.Option.{slice_get_within}
use Rattle.std.proofs.lemmas.List.Elements.{All-push}
use Rattle.fts_segment.specs.declared.term_log.Occurrence.{Occurrence}
use Rattle.fts_segment.proofs.TermLogsLemmas.{occurrence_values-more, occurrence_values-push, AreNamed-more}
use Rattle.fts_segment.proofs.term_log.TermLog.push.Goals as goal

pub invariant_of-self-2 : goal.invariant_of-self-2
invariant_of-self-2 c = let t = c.self.inside in
    let named = rw (← c.in_ok-number.ensures.stay.1) at (AreNamed-more t.terms c.in_ok-number.ensures.stay.0 t.log.items c.self.invariant) in
    let same : c.in-Ok.term ≡ c.in_ok-number.number = omega arith in
    let known : c.in-Ok.term < length c.id_of.new.self =
    omega (arith, same, slice_get_within c.id_of.new.self c.in_ok-number.number _ c.in_ok-number.ensures.ok) in
    rw c.in_ok-push.ensures.items (All-push (λ (e : Occurrence). e.term < length c.id_of.new.self) t.log.items
    (record { term = c.in-Ok.term; doc = c.args.doc; position = c.args.position }) named known)

pub returns : goal.returns
returns c = let t = c.self.inside in
    let same : c.in-Ok.term ≡ c.in_ok-number.number = omega arith in
    let before = rw (← c.in_ok-number.ensures.stay.1) at (occurrence_values-more t.terms c.in_ok-number.ensures.stay.0 t.log.items c.self.invariant) in
    rw c.in_ok-push.ensures.items (occurrence_values-push c.id_of.new.self t.log.items
    (record { term = c.in-Ok.term; doc = c.args.doc; position = c.args.position }) _ (rw same c.in_ok-number.ensures.ok)
    ∙ ap (λ os. os ++ record { term = c.args.term.now; doc = c.args.doc; position = c.args.position } ∷ []) (before ∙ c.self.view_is))

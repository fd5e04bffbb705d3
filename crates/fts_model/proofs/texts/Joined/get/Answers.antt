use Rattle.std.proofs.Common.{◌<◌, [], ◌∷◌, length, get_or, sym, ap, ◌∙◌, arith, string_bytes}
use Rattle.std.specs.Prelude.{slice_index_or, slice_range}
use Rattle.std.proofs.lemmas.List.{get_or_past, get_or_default}
use Rattle.fts_base.proofs.PiecesLemmas.{length-pieces, get_or-pieces, end_at}
use Rattle.fts_model.proofs.texts.Joined.get.Goals as goal

pub returns-then-number-len : goal.returns-then-number-len
returns-then-number-len c =
    let t = c.self.inside in
    let long = length-pieces 0 (string_bytes t.bytes) t.ends.items in
    sym (get_or_past c.args.self.now c.args.number [] (omega (arith, ap length c.self.view_is, long, c.if-number-len.true, c.len.ensures, t.ends.ok.0)))

pub range-requires-clause-start_le_end : goal.range-requires-clause-start_le_end
range-requires-clause-start_le_end c =
    let t = c.self.inside in
    let inside : c.args.number < length t.ends.items = omega (arith, c.if-number-len.false, c.len.ensures, t.ends.ok.0) in
    let start = c.start_of-start.ensures ∙ ap (λ ends. slice_index_or (0 ∷ ends) c.args.number 0) c.deref.ensures.value in
    let end = c.index-end.ensures ∙ get_or_default t.ends.items c.args.number c.index-end.result.now 0 inside in
    omega (arith, (end_at 0 t.ends.items (length (string_bytes t.bytes)) c.args.number c.self.invariant.are inside).0, start, end)

pub returns : goal.returns
returns c =
    let t = c.self.inside in
    let inside : c.args.number < length t.ends.items = omega (arith, c.if-number-len.false, c.len.ensures, t.ends.ok.0) in
    let start = c.start_of-start.ensures ∙ ap (λ ends. slice_index_or (0 ∷ ends) c.args.number 0) c.deref.ensures.value in
    let end = c.index-end.ensures ∙ get_or_default t.ends.items c.args.number c.index-end.result.now 0 inside in
    c.range.ensures.value
    ∙ ap (λ bytes. slice_range bytes c.start_of-start.result c.index-end.result.now) c.deref-2.ensures
    ∙ ap (λ s. slice_range (string_bytes t.bytes) s c.index-end.result.now) start
    ∙ ap (λ e. slice_range (string_bytes t.bytes) (get_or (0 ∷ t.ends.items) c.args.number 0) e) end
    ∙ sym (get_or-pieces 0 (string_bytes t.bytes) t.ends.items c.args.number inside)
    ∙ ap (λ ts. slice_index_or ts c.args.number []) c.self.view_is

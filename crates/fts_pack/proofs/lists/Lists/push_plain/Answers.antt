use Rattle.std.proofs.Common.{[], ◌∷◌, ◌++◌, ◌∙◌, ap, length, arith}
use Rattle.fts_pack.proofs.PackedListLemmas.{extends_more}
use Rattle.fts_pack.proofs.ListsLemmas.{buffers, with_plain, IsExtended-plain, end_of-all, kept, on_err, pushed-plain}
use Rattle.fts_pack.proofs.lists.Lists.push_plain.Goals as goal

pub invariant_of-self-in_err-push : goal.invariant_of-self-in_err-push
invariant_of-self-in_err-push c = let n = c.self.inside in
    let b = buffers n in
    let plain = c.extend_from_slice.new.self.items in
    (kept b (with_plain b plain) n.entries.items c.push.new.self.items c.args.self.now
    (IsExtended-plain b plain (extends_more b.plain c.args.documents.now plain c.in_ok-extend_from_slice.ensures.items)) c.self.invariant c.self.view_is
    c.in_err-push.ensures.items).0

pub returns-in_err-push-clause-err : goal.returns-in_err-push-clause-err
returns-in_err-push-clause-err c = let n = c.self.inside in
    let b = buffers n in
    let plain = c.extend_from_slice.new.self.items in
    on_err c.from_residual-in_err-push.result _ (kept b (with_plain b plain) n.entries.items c.push.new.self.items c.args.self.now
    (IsExtended-plain b plain (extends_more b.plain c.args.documents.now plain c.in_ok-extend_from_slice.ensures.items)) c.self.invariant c.self.view_is
    c.in_err-push.ensures.items).1

pub invariant_of-self-2 : goal.invariant_of-self-2
invariant_of-self-2 c = let n = c.self.inside in
    let b = buffers n in
    let documents = c.args.documents.now in
    let plain = c.extend_from_slice.new.self.items in
    (pushed-plain b (with_plain b plain) n.entries.items c.push.new.self.items (record { end = c.in_ok-end.end; place = c.len-place.result }) documents
    (IsExtended-plain b plain (extends_more b.plain documents plain c.in_ok-extend_from_slice.ensures.items)) c.self.invariant c.in_ok-push.ensures.items
    (end_of-all b n.entries.items c.args.self.now (length documents) c.in_ok-end.end c.self.invariant c.self.view_is c.in_ok-end.ensures)
    (omega (arith, c.len-place.ensures, n.plain.ok.0)) c.in_ok-extend_from_slice.ensures.items c.requires.few c.requires.rises).stored

pub returns-clause-ok : goal.returns-clause-ok
returns-clause-ok c = let n = c.self.inside in
    let b = buffers n in
    let documents = c.args.documents.now in
    let plain = c.extend_from_slice.new.self.items in
    let p = pushed-plain b (with_plain b plain) n.entries.items c.push.new.self.items (record { end = c.in_ok-end.end; place = c.len-place.result }) documents
    (IsExtended-plain b plain (extends_more b.plain documents plain c.in_ok-extend_from_slice.ensures.items)) c.self.invariant c.in_ok-push.ensures.items
    (end_of-all b n.entries.items c.args.self.now (length documents) c.in_ok-end.end c.self.invariant c.self.view_is c.in_ok-end.ensures)
    (omega (arith, c.len-place.ensures, n.plain.ok.0)) c.in_ok-extend_from_slice.ensures.items c.requires.few c.requires.rises in
    p.lists_are ∙ ap (λ ls. ls ++ documents ∷ []) c.self.view_is

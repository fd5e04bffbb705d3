use Rattle.std.proofs.Common.{[], ◌∷◌, ◌++◌, ◌∙◌, ap, length, refl, arith}
use Rattle.fts_pack.proofs.PackedListLemmas.{extends_equal, extends_more, extends_same}
use Rattle.fts_pack.proofs.ListsLemmas.{buffers, with_packed, IsExtended-packed, end_of-all, kept, on_err, pushed-packed}
use Rattle.fts_pack.proofs.lists.Lists.push_packed.Goals as goal

pub invariant_of-self : goal.invariant_of-self
invariant_of-self c = let n = c.self.inside in
    let b = buffers n in
    let blocks = c.add_blocks.new.skips.items in
    let words = c.add_blocks.new.words.items in
    (kept b (with_packed b b.long blocks words) n.entries.items n.entries.items c.args.self.now
    (IsExtended-packed b b.long blocks words (extends_same b.long) c.in_err-add_blocks.ensures.skips c.in_err-add_blocks.ensures.words) c.self.invariant
    c.self.view_is refl).0

pub returns-in_err-add_blocks-clause-err : goal.returns-in_err-add_blocks-clause-err
returns-in_err-add_blocks-clause-err c = let n = c.self.inside in
    let b = buffers n in
    let blocks = c.add_blocks.new.skips.items in
    let words = c.add_blocks.new.words.items in
    on_err c.from_residual-in_err-add_blocks.result _ (kept b (with_packed b b.long blocks words) n.entries.items n.entries.items c.args.self.now
    (IsExtended-packed b b.long blocks words (extends_same b.long) c.in_err-add_blocks.ensures.skips c.in_err-add_blocks.ensures.words) c.self.invariant
    c.self.view_is refl).1

pub invariant_of-self-in_err-push : goal.invariant_of-self-in_err-push
invariant_of-self-in_err-push c = let n = c.self.inside in
    let b = buffers n in
    let long = c.push.new.self.items in
    let blocks = c.add_blocks.new.skips.items in
    let words = c.add_blocks.new.words.items in
    (kept b (with_packed b long blocks words) n.entries.items n.entries.items c.args.self.now
    (IsExtended-packed b long blocks words (extends_equal b.long long c.in_err-push.ensures.items) c.in_ok-add_blocks.ensures.skips
    c.in_ok-add_blocks.ensures.words) c.self.invariant c.self.view_is refl).0

pub returns-in_err-push-clause-err : goal.returns-in_err-push-clause-err
returns-in_err-push-clause-err c = let n = c.self.inside in
    let b = buffers n in
    let long = c.push.new.self.items in
    let blocks = c.add_blocks.new.skips.items in
    let words = c.add_blocks.new.words.items in
    on_err c.from_residual-in_err-push.result _ (kept b (with_packed b long blocks words) n.entries.items n.entries.items c.args.self.now
    (IsExtended-packed b long blocks words (extends_equal b.long long c.in_err-push.ensures.items) c.in_ok-add_blocks.ensures.skips
    c.in_ok-add_blocks.ensures.words) c.self.invariant c.self.view_is refl).1

pub invariant_of-self-in_err-push-2 : goal.invariant_of-self-in_err-push-2
invariant_of-self-in_err-push-2 c = let n = c.self.inside in
    let b = buffers n in
    let long = c.push.new.self.items in
    let blocks = c.add_blocks.new.skips.items in
    let words = c.add_blocks.new.words.items in
    (kept b (with_packed b long blocks words) n.entries.items c.push-2.new.self.items c.args.self.now
    (IsExtended-packed b long blocks words (extends_more b.long (record { first = c.len-first.result; bits = c.in_ok-bits.bits } ∷ []) long
    c.in_ok-push.ensures.items) c.in_ok-add_blocks.ensures.skips c.in_ok-add_blocks.ensures.words) c.self.invariant c.self.view_is
    c.in_err-push-2.ensures.items).0

pub returns-in_err-push-2-clause-err : goal.returns-in_err-push-2-clause-err
returns-in_err-push-2-clause-err c = let n = c.self.inside in
    let b = buffers n in
    let long = c.push.new.self.items in
    let blocks = c.add_blocks.new.skips.items in
    let words = c.add_blocks.new.words.items in
    on_err c.from_residual-in_err-push-2.result _ (kept b (with_packed b long blocks words) n.entries.items c.push-2.new.self.items c.args.self.now
    (IsExtended-packed b long blocks words (extends_more b.long (record { first = c.len-first.result; bits = c.in_ok-bits.bits } ∷ []) long
    c.in_ok-push.ensures.items) c.in_ok-add_blocks.ensures.skips c.in_ok-add_blocks.ensures.words) c.self.invariant c.self.view_is
    c.in_err-push-2.ensures.items).1

pub invariant_of-self-2 : goal.invariant_of-self-2
invariant_of-self-2 c = let n = c.self.inside in
    let b = buffers n in
    let documents = c.args.documents.now in
    let long = c.push.new.self.items in
    let blocks = c.add_blocks.new.skips.items in
    let words = c.add_blocks.new.words.items in
    (pushed-packed b (with_packed b long blocks words) n.entries.items c.push-2.new.self.items (record { end = c.in_ok-end.end; place = c.len-place.result })
    (record { first = c.len-first.result; bits = c.in_ok-bits.bits }) documents (IsExtended-packed b long blocks words
    (extends_more b.long (record { first = c.len-first.result; bits = c.in_ok-bits.bits } ∷ []) long c.in_ok-push.ensures.items)
    c.in_ok-add_blocks.ensures.skips c.in_ok-add_blocks.ensures.words) c.self.invariant c.in_ok-push-2.ensures.items
    (end_of-all b n.entries.items c.args.self.now (length documents) c.in_ok-end.end c.self.invariant c.self.view_is c.in_ok-end.ensures)
    (omega (arith, c.len-place.ensures, n.long.ok.0)) c.in_ok-push.ensures.items (omega (arith, c.len-first.ensures, n.blocks.ok.0))
    c.in_ok-add_blocks.ensures.ok c.in_ok-bits.ensures c.requires.many).stored

pub returns-clause-ok : goal.returns-clause-ok
returns-clause-ok c = let n = c.self.inside in
    let b = buffers n in
    let documents = c.args.documents.now in
    let long = c.push.new.self.items in
    let blocks = c.add_blocks.new.skips.items in
    let words = c.add_blocks.new.words.items in
    let p = pushed-packed b (with_packed b long blocks words) n.entries.items c.push-2.new.self.items (record { end = c.in_ok-end.end; place = c.len-place.result })
    (record { first = c.len-first.result; bits = c.in_ok-bits.bits }) documents (IsExtended-packed b long blocks words
    (extends_more b.long (record { first = c.len-first.result; bits = c.in_ok-bits.bits } ∷ []) long c.in_ok-push.ensures.items)
    c.in_ok-add_blocks.ensures.skips c.in_ok-add_blocks.ensures.words) c.self.invariant c.in_ok-push-2.ensures.items
    (end_of-all b n.entries.items c.args.self.now (length documents) c.in_ok-end.end c.self.invariant c.self.view_is c.in_ok-end.ensures)
    (omega (arith, c.len-place.ensures, n.long.ok.0)) c.in_ok-push.ensures.items (omega (arith, c.len-first.ensures, n.blocks.ok.0))
    c.in_ok-add_blocks.ensures.ok c.in_ok-bits.ensures c.requires.many in
    p.lists_are ∙ ap (λ ls. ls ++ documents ∷ []) c.self.view_is

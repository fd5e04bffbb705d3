use Rattle.std.proofs.Common.{◌/◌, ◌%◌, ◌^◌, ◌==◌, slice_get, bit_and, Some, ap, sym, ◌∙◌, arith}
use Rattle.std.proofs.lemmas.List.{get_or_read}
use Rattle.fts_pack.proofs.BitsLemmas.{flag_read, doc_inside}
use Rattle.fts_pack.proofs.bits.bits.Bits.get.Goals as goal

pub index-requires : goal.index-requires
index-requires c =
    omega (arith, c.self.inside.words.ok, (doc_inside _ _ _ _ c.self.view_is c.self.invariant.bits c.requires).1)

pub returns : goal.returns
returns c =
    let bits = c.self.inside in
    let place = doc_inside _ _ _ _ c.self.view_is c.self.invariant.bits c.requires in
    ap (λ v. slice_get v c.args.doc) (sym c.self.view_is) ∙ flag_read bits.len c.args.doc bits.words.items place.0 c.self.invariant.bits.fits
    ∙ ap (λ n. Some (bit_and (n / 2 ^ (c.args.doc % 64)) 1 == 1)) (sym (get_or_read bits.words.items _ _ place.1 c.index.ensures 0))

use Rattle.std.proofs.Common.{◌≡◌, count_by, length, ap, ◌∙◌, sym, set, arith, true, false}
use Rattle.std.proofs.lemmas.List.{get_or_read}
use Rattle.fts_pack.proofs.BitsLemmas.{bits-put, byte_is, doc_inside, length-flags, one_if, ones_above, ones_put, ones_room}
use Rattle.fts_pack.proofs.bits.bits.Bits.put.Goals as goal

pub overflow_sub-self : goal.overflow_sub-self
overflow_sub-self c =
    omega (
      arith,
      ones_above _ _ c.get-was.result c.requires c.get-was.ensures,
      ap (count_by (λ b. b)) c.self.view_is,
      c.self.invariant.ones_are,
      c.from.ensures
          ∙ byte_is c.get-was.result,
    )

pub overflow_add-self : goal.overflow_add-self
overflow_add-self c =
    let long : c.self.inside.len ≡ length c.args.self.now = sym (length-flags _ _) ∙ ap length c.self.view_is in
    omega (
      arith,
      long,
      c.self.invariant.bits.len_fits,
      ones_room _ _ c.get-was.result c.requires c.get-was.ensures c.args.bit _ _ _
          (c.self.invariant.ones_are ∙ ap (count_by (λ b. b)) c.self.view_is) (c.from.ensures ∙ byte_is c.get-was.result) (c.from-2.ensures ∙ byte_is c.args.bit),
    )

pub index_mut-requires : goal.index_mut-requires
index_mut-requires c =
    omega (arith, c.self.inside.words.ok, (doc_inside _ _ _ _ c.self.view_is c.self.invariant.bits c.requires).1)

pub invariant_of-self : goal.invariant_of-self
invariant_of-self c =
    let place = (doc_inside _ _ _ _ c.self.view_is c.self.invariant.bits c.requires).1 in
    let put = bits-put true _ _ _ _ _ c.self.view_is c.self.invariant.bits c.requires (get_or_read _ _ _ place c.index_mut.ensures.value 0) in
    record {
      bits = put.0;
      ones_are = ones_put _ _ c.get-was.result c.requires c.get-was.ensures true _ _ _ _ (c.self.invariant.ones_are ∙ ap (count_by (λ b. b)) c.self.view_is)
          (c.from.ensures ∙ byte_is c.get-was.result) (c.from-2.ensures ∙ byte_is c.args.bit ∙ ap one_if c.if-bit.true) put.1;
    }

pub returns-then-bit : goal.returns-then-bit
returns-then-bit c =
    let place = (doc_inside _ _ _ _ c.self.view_is c.self.invariant.bits c.requires).1 in
    (bits-put true _ _ _ _ _ c.self.view_is c.self.invariant.bits c.requires (get_or_read _ _ _ place c.index_mut.ensures.value 0)).1
    ∙ ap (set c.args.self.now c.args.doc) (sym c.if-bit.true)

pub index_mut-requires-else-bit : goal.index_mut-requires-else-bit
index_mut-requires-else-bit c =
    omega (arith, c.self.inside.words.ok, (doc_inside _ _ _ _ c.self.view_is c.self.invariant.bits c.requires).1)

pub invariant_of-self-else-bit : goal.invariant_of-self-else-bit
invariant_of-self-else-bit c =
    let place = (doc_inside _ _ _ _ c.self.view_is c.self.invariant.bits c.requires).1 in
    let put = bits-put false _ _ _ _ _ c.self.view_is c.self.invariant.bits c.requires (get_or_read _ _ _ place c.index_mut-else-bit.ensures.value 0) in
    record {
      bits = put.0;
      ones_are = ones_put _ _ c.get-was.result c.requires c.get-was.ensures false _ _ _ _ (c.self.invariant.ones_are ∙ ap (count_by (λ b. b)) c.self.view_is)
          (c.from.ensures ∙ byte_is c.get-was.result) (c.from-2.ensures ∙ byte_is c.args.bit ∙ ap one_if c.if-bit.false) put.1;
    }

pub returns-else-bit : goal.returns-else-bit
returns-else-bit c =
    let place = (doc_inside _ _ _ _ c.self.view_is c.self.invariant.bits c.requires).1 in
    (bits-put false _ _ _ _ _ c.self.view_is c.self.invariant.bits c.requires (get_or_read _ _ _ place c.index_mut-else-bit.ensures.value 0)).1
    ∙ ap (set c.args.self.now c.args.doc) (sym c.if-bit.false)

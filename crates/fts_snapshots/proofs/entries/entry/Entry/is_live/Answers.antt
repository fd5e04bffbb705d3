use Rattle.std.proofs.Common.{◌≡◌, Bool, false, Option, Some, None, unwrap_or, refl, sym, ap, ◌∙◌}
use Rattle.std.specs.Option.{option_map_or}
use Rattle.std.specs.Prelude.{slice_get}
use Rattle.std.proofs.lemmas.Option.{unwrap_or-slice_get}
use Rattle.fts_snapshots.specs.Successors.{is_set}
use Rattle.fts_snapshots.proofs.entries.entry.Entry.is_live.Goals as goal

bit_of : (o : Option Bool) → unwrap_or o false ≡ option_map_or (λ bit. bit) o false
bit_of None = refl
bit_of (Some bit) = refl

pub returns : goal.returns
returns c =
    let bits = c.live.result.now in
    let doc = c.args.document in
    c.contains.ensures ∙ sym (unwrap_or-slice_get bits doc false) ∙ bit_of (slice_get bits doc) ∙ ap (λ bits. is_set bits doc) c.live.ensures.live

use Rattle.std.proofs.Common.{◌≡◌, ◌-◌, ◌∙◌, suc, Some, map, length, bytes_eq, ap, sym, arith}
use Rattle.std.specs.Prelude.{slice_get, option_map}
use Rattle.std.proofs.lemmas.Bool.Decides.{Decides-eqb, same_from_decides}
use Rattle.std.proofs.lemmas.List.{length-map}
use Rattle.std.proofs.lemmas.Option.{slice_get-map, slice_get_within}
use Rattle.std.proofs.lemmas.Slice.Eq.{bytes_eq-Decides, slice_eq-Decides}
use Rattle.fts_segment.proofs.TermOrderLemmas.{ends_at}
use Rattle.fts_segment.proofs.sorted_names.is_last.Goals as goal

pub returns-in-Some : goal.returns-in-Some
returns-in-Some c =
    let names = c.args.names.now in
    let last = c.in-Some.last.now.now in
    let k = length names - 1 in
    let here : slice_get (map (λ n. n.now) names) k ≡ Some last =
    slice_get-map (λ n. n.now) names k ∙ ap (option_map (λ n. n.now)) (sym c.in-Some.ensures.value) in
    let long : suc k ≡ length (map (λ n. n.now) names) = omega (arith, slice_get_within (map (λ n. n.now) names) k last here, length-map names (λ n. n.now)) in
    same_from_decides _ (bytes_eq last c.args.name.now) (slice_eq-Decides Decides-eqb _ _ c.eq.result c.eq.ensures) (bytes_eq-Decides last c.args.name.now)
    ∙ sym (ends_at (map (λ n. n.now) names) last c.args.name.now k long here)

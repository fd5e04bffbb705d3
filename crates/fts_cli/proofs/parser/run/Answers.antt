use Rattle.std.proofs.Common.{rules, ap, ap₂, refl, codes, map, ◌≡◌, ◌∙◌, ◌∷◌, ℕ, List, []}
use Rattle.std.proofs.lemmas.Result.{IfOk-weaker}
use Rattle.std.specs.Borrow.{Bor}
use Rattle.std.proofs.lemmas.Bool.{or_from}
use Rattle.clap.specs.Simple.{app_of, app_of_fields, new_app, with_rule}
use Rattle.clap.specs.Walk.{Text, rule_of}
use Rattle.clap.specs.declared.builder.command.Command.{Command}
use Rattle.clap.specs.declared.builder.command.Command.TheOpen.{Command-F}
use Rattle.clap.specs.declared.builder.value_parser.ValueParser.TheVariants.{Names}
use Rattle.fts_cli.specs.RunOptions.{Places, merges_at, option_rule}
use Rattle.fts_cli.proofs.parser.run.Goals as goal

abbrev at : ℕ × ℕ → List (Bor Text) → Bor (List (Bor Text))
at place l = record { ref_ptr = place; now = l }

abbrev two : Bor (List (Bor Text)) → Bor Text → Bor Text → Text → Text → Bor (List (Bor Text))
two names x y a b = at names.ref_ptr (record { ref_ptr = x.ref_ptr; now = a } ∷ record { ref_ptr = y.ref_ptr; now = b } ∷ [])

-- a reference to the texts `off` and `policy` is one to the values of `--merge`, at some places
merges_are : (names : Bor (List (Bor Text))) → map (λ s. s.now) names.now ≡ codes "off" ∷ codes "policy" ∷ [] → (places : Places) × (names ≡ merges_at places)
merges_are names e = go names.now refl e
  where
    go : (l : List (Bor Text)) → names.now ≡ l → map (λ s. s.now) l ≡ codes "off" ∷ codes "policy" ∷ [] → (places : Places) × (names ≡ merges_at places)
    go [] is e = cc
    go (x ∷ []) is e = cc
    go (x ∷ y ∷ []) is e =
        let off_is : x.now ≡ codes "off" = cc in
        let policy_is : y.now ≡ codes "policy" = cc in (
          record { values = names.ref_ptr; off = x.ref_ptr; policy = y.ref_ptr },
          ap (at names.ref_ptr) is ∙ ap₂ (two names x y) off_is policy_is,
        )
    go (x ∷ y ∷ z ∷ l) is e = cc

pub returns : goal.returns
returns c =
    let texts : map (λ s. s.now) c.as_slice.result.now ≡ codes "off" ∷ codes "policy" ∷ [] = search rules in
    let merges = merges_are c.as_slice.result texts in
    let merge_is : rule_of c.option-merge.result ≡ option_rule (codes "merge") (Names (merges_at merges.0)) =
    c.option-merge.ensures.rule ∙ ap (λ (n : Bor (List (Bor Text))). option_rule (codes "merge") (Names n)) merges.1 in
    let run_is : app_of c.after_help-run.result ≡ new_app (codes "run") = ap app_of_fields c.after_help-run.ensures ∙ ap app_of_fields c.about.ensures
    ∙ c.new.ensures.app in
    let with_workers = c.in_ok-arg.ensures.shape c.option-workers.ensures.local ∙ ap₂ with_rule run_is c.option-workers.ensures.rule in
    let with_runs = c.in_ok-arg-2.ensures.shape c.option-runs.ensures.local ∙ ap₂ with_rule with_workers c.option-runs.ensures.rule in
    let with_deal = c.in_ok-arg-3.ensures.shape c.option-deal.ensures.local ∙ ap₂ with_rule with_runs c.option-deal.ensures.rule in
    let local =
    ap (λ (f : Command-F Command). f.has_globals) c.after_help-run.ensures
    ∙ ap (λ (f : Command-F Command). f.has_globals) c.about.ensures ∙ c.new.ensures.local in
    let local_1 = c.in_ok-arg.ensures.globals ∙ or_from _ _ local c.option-workers.ensures.local in
    let local_2 = c.in_ok-arg-2.ensures.globals ∙ or_from _ _ local_1 c.option-runs.ensures.local in
    let local_3 = c.in_ok-arg-3.ensures.globals ∙ or_from _ _ local_2 c.option-deal.ensures.local in
    IfOk-weaker c.arg-4.result _ _
    (λ r h. (merges.0, h.shape c.option-merge.ensures.local ∙ ap₂ with_rule with_deal merge_is, h.globals ∙ or_from _ _ local_3 c.option-merge.ensures.local))
    c.arg-4.ensures

-- If clap's definitions find no fault, the values that they read pass the parsers of their arguments.
use Rattle.std.proofs.Common.{◌≡◌, ◌∷◌, ◌++◌, ℕ, Bool, List, [], Option, Some, None, true, false, zero, suc, refl, sym, subst, cond, is_some, length, drop, not}
use Rattle.std.specs.Prelude.{IfSome, option_and_then, option_map, slice_get, unwrap_or, encode_utf8, fold, ◌&&◌}
use Rattle.std.specs.List.{find}
use Rattle.std.specs.Option.{option_map_or}
use Rattle.std.specs.Str.{bytes_eq, chars}
use Rattle.std.proofs.lemmas.Slice.Eq.{bytes_eq-Decides}
use Rattle.clap.specs.Lexer.{long_of, short_of}
use Rattle.clap.specs.Values.{read_as}
use Rattle.clap.specs.ValueTests.{accepts}
use Rattle.clap.specs.Facts.{unwrap_or_range}
use Rattle.clap.specs.Kinds.{Kinds, or_else, range_kinds, value_kinds, values_kinds}
use Rattle.clap.specs.Faults.{action_fault, bundle_step_fault, entered_fault, flag_word_fault, flags_fault, level_fault, long_fault, option_fault, other_fault}
use Rattle.clap.specs.Faults.{positional_fault, react_fault, repeat_fault, settle_fault, set_fault, short_fault, step_fault, stray_fault, turn_fault, use_fault}
use Rattle.clap.specs.Faults.{values_fault, walk_fault, word_fault}
use Rattle.clap.specs.Simple.{App, Shape, entered, label_of}
use Rattle.clap.specs.Walk.{Held, Names, Outcome, Row, Rule, Step, Text, Waiting, Walk, done, waits, plain, refused, idle, option, positional, next, trailing}
use Rattle.clap.specs.Walk.{subcommand, value}
use Rattle.clap.specs.Walk.{action_of, has_long, has_short, most_values, after_flag, after_step, answers_to, arg_by_id, arg_by_index, arg_by_long, arg_by_short}
use Rattle.clap.specs.Walk.{at_row, attached_value, bundle_met, bundle_step, flag_met, finished, has_row, is_pending, long_met, long_or_other, more_values}
use Rattle.clap.specs.Walk.{nothing_held, one_of, option_met, option_word, plain_word, reacted, reading_by, row_text, settled, settled_rows, short_met}
use Rattle.clap.specs.Walk.{short_or_plain, subcommand_met, subcommand_or_other, takes_several, takes_values, to_positional, used, used_as, used_by_id}
use Rattle.clap.specs.Walk.{values_or_missing, walk, walk_from, walked, walked_from, with_default, with_values, without, word_met, default_rows}
use Rattle.clap.specs.declared.builder.action.ArgAction.TheVariants.{Set}
use Rattle.clap.specs.declared.builder.value_parser.Reading.{Reading}
use Rattle.clap.specs.declared.builder.value_parser.Reading.TheVariants.{AsWritten}
use Rattle.clap.specs.declared.builder.value_parser.ValueParser.{ValueParser}
use Rattle.clap.specs.declared.error.kind.ErrorKind.{ErrorKind}
use Rattle.clap.specs.declared.error.kind.ErrorKind.TheVariants.{TooManyValues}
use Rattle.clap.specs.declared.parser.matches.ValueSource.{ValueSource}
use Rattle.clap.specs.declared.parser.matches.ValueSource.TheVariants.{CommandLine}
use Rattle.fts_cli.specs.RunOptions.{rows_given}

-- each item has P
abbrev pub Each : {X : Type 0} → (X → Type 0) → List X → Type 0
Each P [] = Unit {0}
Each P (x ∷ xs) = P x × Each P xs

each-append : {X : Type 0} (P : X → Type 0) (xs ys : List X) → Each P xs → Each P ys → Each P (xs ++ ys)
each-append P [] ys h k = k
each-append P (x ∷ xs) ys h k = (h.0, each-append P xs ys h.1 k)

pub each_any : {X : Type 0} (P : X → Type 0) → ((x : X) → P x) → (xs : List X) → Each P xs
each_any P all [] = tt
each_any P all (x ∷ xs) = (all x, each_any P all xs)

found : {X : Type 0} (P : X → Type 0) (q : X → Bool) (xs : List X) → Each P xs → IfSome (find q xs) P
found P q [] h = tt
found P q (x ∷ xs) h = go (q x) (found P q xs h.1)
  where
    go : (b : Bool) → IfSome (find q xs) P → IfSome (cond b (Some x) (find q xs)) P
    go true later = h.0
    go false later = later

-- ---- what no fault says

pub none_of : (a b : Kinds) → or_else a b ≡ [] → (a ≡ []) × (b ≡ [])
none_of [] b e = (refl, e)
none_of (k ∷ ks) b e = cc

accepted : (b : Bool) (k : ErrorKind) → cond b [] (k ∷ []) ≡ [] → b ≡ true
accepted true k e = refl
accepted false k e = cc

-- values with no fault are accepted
pub each_accepted : (P : Text → Type 0) (parser : ValueParser) → ((t : Text) → accepts false parser t ≡ true → P t)
    → (vs : List Text) → values_kinds false parser vs ≡ [] → Each P vs
each_accepted P parser ok [] e = tt
each_accepted P parser ok (v ∷ vs) e =
    let q = none_of (value_kinds false parser v) (values_kinds false parser vs) e in
    (ok v (accepted (accepts false parser v) _ q.0), each_accepted P parser ok vs q.1)

-- Fit id t says that t is a value that an argument with this id may have
module _ (Fit : Text → Text → Type 0) where
  abbrev pub RowFits : Row → Type 0
  RowFits r = (r.reading ≡ AsWritten) × Each (Fit r.id) r.values

  abbrev pub RowsFit : List Row → Type 0
  RowsFit = Each RowFits

  -- the rows fit after a use of the argument that has no fault, and it has no default
  abbrev pub Keeps : Rule → Type 0
  Keeps a = ((again : Bool) (values : List Text) (rows : List Row) → use_fault again a values rows ≡ []
      → RowsFit rows → RowsFit (used a values rows))
      × (a.defaults ≡ [])

  at_row-fits : (id : Text) (change : Row → List Row) (missing rows : List Row) → ((r : Row) → r.id ≡ id → RowFits r → RowsFit (change r))
      → RowsFit missing → RowsFit rows → RowsFit (at_row id change missing rows)
  at_row-fits id change missing [] step m h = m
  at_row-fits id change missing (r ∷ rs) step m h = go (bytes_eq r.id id) refl (at_row-fits id change missing rs step m h.1)
    where
      go : (b : Bool) → bytes_eq r.id id ≡ b → RowsFit (at_row id change missing rs) → RowsFit (cond b (change r ++ rs) (r ∷ at_row id change missing rs))
      go true e later = each-append RowFits (change r) rs (step r ((bytes_eq-Decides r.id id).0 e) h.0) h.1
      go false e later = (h.0, later)

  pub with_values-fits : (id : Text) (how : Reading) (s : ValueSource) (values : List Text) (rows : List Row) → how ≡ AsWritten
      → Each (Fit id) values → RowsFit rows → RowsFit (with_values id how s values rows)
  with_values-fits id how s values rows is fit h = at_row-fits id (more_values s values) _ rows
      (λ r same old. ((old.0, each-append (Fit r.id) r.values values old.1 (subst (λ (t : Text). Each (Fit t) values) (sym same) fit)), tt))
      ((is, fit), tt) h

  without-fits : (id : Text) (rows : List Row) → RowsFit rows → RowsFit (without id rows)
  without-fits id rows h = at_row-fits id (λ r. []) [] rows (λ r same old. tt) tt h

  set_used : (a : Rule) → a.action ≡ Some Set → reading_by a ≡ AsWritten → ((vs : List Text) → values_fault a vs ≡ [] → Each (Fit a.id) vs)
      → (again : Bool) (values : List Text) (rows : List Row) → use_fault again a values rows ≡ [] → RowsFit rows → RowsFit (used a values rows)
  set_used a is_set how ok again values rows e h =
      let vs = values_or_missing a values in
      let counts = range_kinds (unwrap_or_range a.range).start_inclusive (most_values a) (length values) in
      let acts = none_of counts (action_fault (action_of a) again a vs rows) e in
      let sets : set_fault again a vs rows ≡ [] = subst (λ o. action_fault (unwrap_or o Set) again a vs rows ≡ []) is_set acts.1 in
      let passes = none_of (repeat_fault again a.id rows) (values_fault a vs) sets in
      subst (λ o. RowsFit (used_as (unwrap_or o Set) a.id (reading_by a) vs rows)) (sym is_set)
      (with_values-fits a.id (reading_by a) CommandLine vs (without a.id rows) how (ok vs passes.1) (without-fits a.id rows h))

  -- an option with one value
  pub set_keeps : (a : Rule) → a.action ≡ Some Set → reading_by a ≡ AsWritten → a.defaults ≡ []
      → ((vs : List Text) → values_fault a vs ≡ [] → Each (Fit a.id) vs) → Keeps a
  set_keeps a is_set how none ok = (set_used a is_set how ok, none)

  module _ (c : List Rule) (keeps : Each Keeps c) (again : Bool) where
    settle_fits : (h : Held) → settle_fault c again h ≡ [] → RowsFit h.rows → RowsFit (settled c h).rows
    settle_fits h e fit = go h.pending e
      where
        by_id : (vs : List Text) (o : Option Rule) → IfSome o Keeps → option_map_or (λ a. use_fault again a vs h.rows) o [] ≡ []
            → RowsFit (used_by_id o vs h.rows)
        by_id vs None k e = fit
        by_id vs (Some a) k e = k.0 again vs h.rows e fit

        go : (p : Option (Text × List Text)) → option_map_or (λ p. option_map_or (λ a. use_fault again a p.1 h.rows) (arg_by_id c p.0) []) p [] ≡ []
            → RowsFit (settled_rows c p h.rows)
        go None e = fit
        go (Some p) e = by_id p.1 (arg_by_id c p.0) (found Keeps (λ a. bytes_eq a.id p.0) c keeps) e

    react_fits : (a : Rule) (values : List Text) (h : Held) → Keeps a → react_fault c again a values h ≡ [] → RowsFit h.rows
        → RowsFit (reacted c a values h).rows
    react_fits a values h k e fit =
        let q = none_of (settle_fault c again h) (use_fault again a values (settled c h).rows) e in
        k.0 again values (settled c h).rows q.1 (settle_fits h q.0 fit)

    option_fits : (a : Rule) (v : Option Text) (h : Held) → Keeps a → option_fault c again a v h ≡ [] → RowsFit h.rows
        → RowsFit (option_met c a v h).0.rows
    option_fits a (Some v) h k e fit = react_fits a (v ∷ []) h k e fit
    option_fits a None h k e fit = settle_fits h e fit

    long_fits : (o : Option Rule) (v : Option Text) (h : Held) → IfSome o Keeps → long_fault c again o v h ≡ [] → RowsFit h.rows
        → RowsFit (long_met c o v h).0.rows
    long_fits None v h k e fit = fit
    long_fits (Some a) v h k e fit = go (takes_values a) v e
      where
        go : (b : Bool) (v : Option Text)
            → cond b (option_fault c again a v h) (cond (is_some v) (TooManyValues ∷ []) (react_fault c again a [] h)) ≡ []
            → RowsFit (cond b (option_met c a v h) (flag_met c a v h)).0.rows
        go true v e = option_fits a v h k e fit
        go false (Some v) e = fit
        go false None e = react_fits a [] h k e fit

    short_fits : (o : Option Rule) (rest : Text) (h : Held) (faults : Held → Kinds) (met : Held → Held × Outcome)
        → ((h : Held) → faults h ≡ [] → RowsFit h.rows → RowsFit (met h).0.rows)
        → IfSome o Keeps → short_fault c again o rest h faults ≡ [] → RowsFit h.rows → RowsFit (short_met c o rest h met).0.rows
    short_fits None rest h faults met on k e fit = fit
    short_fits (Some a) rest h faults met on k e fit = go (takes_values a) e
      where
        go : (b : Bool) → cond b (option_fault c again a (attached_value rest) h) (or_else (react_fault c again a [] h) (faults (reacted c a [] h))) ≡ []
            → RowsFit (cond b (option_met c a (attached_value rest) h) (met (reacted c a [] h))).0.rows
        go true e = option_fits a (attached_value rest) h k e fit
        go false e =
            let q = none_of (react_fault c again a [] h) (faults (reacted c a [] h)) e in
            on (reacted c a [] h) q.1 (react_fits a [] h k q.0 fit)

    bundle_fits : (k : ℕ) (flags : Text) (skip : ℕ) (so_far : Outcome) (h : Held) → flags_fault c again k flags skip h ≡ [] → RowsFit h.rows
        → RowsFit (bundle_met c k flags skip so_far h).0.rows
    unfolding flags_fault bundle_met
    bundle_fits zero flags skip so_far h e fit = fit
    bundle_fits (suc k) flags skip so_far h e fit =
        go (λ flags skip so_far h e fit. bundle_fits k flags skip so_far h e fit) (slice_get (chars flags) 0) skip e
      where
        go : ((flags : Text) (skip : ℕ) (so_far : Outcome) (h : Held) → flags_fault c again k flags skip h ≡ [] → RowsFit h.rows
            → RowsFit (bundle_met c k flags skip so_far h).0.rows)
            → (o : Option ℕ) (skip : ℕ) → bundle_step_fault c again o flags skip h (flags_fault c again k) ≡ []
            → RowsFit (bundle_step c o flags skip so_far h (bundle_met c k)).0.rows
        go on None skip e = fit
        go on (Some x) zero e =
            let rest = drop (length (encode_utf8 x)) flags in
            short_fits (arg_by_short c x) rest h (flags_fault c again k rest 0) (bundle_met c k rest 0 done)
            (λ h e fit. on rest 0 done h e fit)
            (found Keeps (λ a. not (is_some a.index) && has_short a x) c keeps) e fit
        go on (Some x) (suc skip) e = on (drop (length (encode_utf8 x)) flags) skip so_far h e fit

    plain_fits : (waiting : Waiting) (word : Text) (h : Held) → RowsFit h.rows → RowsFit (plain_word c waiting word h).0.rows
    plain_fits idle word h fit = fit
    plain_fits positional word h fit = fit
    plain_fits (option id) word h fit = go (arg_by_id c id)
      where
        go : (o : Option Rule) → RowsFit (option_word o id word h).0.rows
        go None = fit
        go (Some a) = fit

    after_fits : (waiting : Waiting) (word : Text) (h : Held) (o : Outcome) → RowsFit h.rows → RowsFit (after_flag c waiting word h o).0.rows
    after_fits waiting word h done fit = fit
    after_fits waiting word h (waits id) fit = fit
    after_fits waiting word h plain fit = plain_fits waiting word h fit
    after_fits waiting word h refused fit = plain_fits waiting word h fit

    flag_fits : (waiting : Waiting) (word : Text) (long : Option (Text × Option Text)) (h : Held) → flag_word_fault c again long word h ≡ []
        → RowsFit h.rows → RowsFit (long_or_other c waiting word long h).0.rows
    flag_fits waiting word (Some p) h e fit =
        let met = long_met c (arg_by_long c p.0) p.1 h in
        after_fits waiting word met.0 met.1 (long_fits (arg_by_long c p.0) p.1 h (found Keeps (λ a. not (is_some a.index) && has_long a p.0) c keeps) e fit)
    flag_fits waiting word None h e fit = go (short_of word) e
      where
        go : (o : Option Text) → option_map_or (λ flags. flags_fault c again (length flags) flags h.skip (record h { skip = 0 })) o [] ≡ []
            → RowsFit (short_or_plain c waiting word o h).0.rows
        go None e = plain_fits waiting word h fit
        go (Some flags) e =
            let met = bundle_met c (length flags) flags h.skip plain (record h { skip = 0 }) in
            after_fits waiting word met.0 met.1 (bundle_fits (length flags) flags h.skip plain (record h { skip = 0 }) e fit)

  -- ---- a level of a command

  abbrev pub ShapeFits : Shape → Type 0
  ShapeFits s = Each Keeps s.rules

  module _ (s : Shape) (keeps : ShapeFits s) (names : Names) where
    word_fits : (is_trailing : Bool) (waiting : Waiting) (position : ℕ) (word : Text) (h : Held) → word_fault s names is_trailing waiting word h ≡ []
        → RowsFit h.rows → RowsFit (word_met s.rules names is_trailing waiting position word h).0.rows
    word_fits true waiting position word h e fit = fit
    word_fits false waiting position word h e fit = go (subcommand_met names waiting word) e
      where
        dashes : (b : Bool) → cond b [] (flag_word_fault s.rules s.args_override_self (long_of word) word h) ≡ []
            → RowsFit (cond b (h, trailing position) (long_or_other s.rules waiting word (long_of word) h)).0.rows
        dashes true e = fit
        dashes false e = flag_fits s.rules keeps s.args_override_self waiting word (long_of word) h e fit

        go : (o : Option Text) → other_fault s o word h ≡ [] → RowsFit (subcommand_or_other s.rules o waiting position word h).0.rows
        go (Some name) e = fit
        go None e = dashes (bytes_eq word (45 ∷ 45 ∷ [])) e

    step_fits : (w : Walk) (word : Text) (h : Held) (step : Step) → step_fault s w.position h step ≡ [] → RowsFit h.rows
        → RowsFit (after_step s.rules word w h step).held.rows
    step_fits w word h (next waiting) e fit = fit
    step_fits w word h (trailing position) e fit = fit
    step_fits w word h (subcommand name) e fit = fit
    step_fits w word h value e fit = go (arg_by_index s.rules w.position) e
      where
        pends : (b : Bool) → cond b [] (settle_fault s.rules s.args_override_self h) ≡ [] → RowsFit (cond b h (settled s.rules h)).rows
        pends true e = fit
        pends false e = settle_fits s.rules keeps s.args_override_self h e fit

        go : (o : Option Rule) → option_map_or (λ a. positional_fault s.rules s.args_override_self a h) o (stray_fault s) ≡ []
            → RowsFit (to_positional s.rules o word w h).held.rows
        go None e = fit
        go (Some a) e = pends (is_pending a h.pending && takes_several a) e

    abbrev met_by : Walk → Text → Held × Step
    met_by w word = word_met s.rules names w.is_trailing w.waiting w.position word w.held

    turn_fits : (w : Walk) (word : Text) → turn_fault s names w word ≡ [] → RowsFit w.held.rows → RowsFit (walked s.rules names w word).held.rows
    unfolding walked
    turn_fits w word e fit = go w.stopped e
      where
        go : (o : Option (Text × List Text))
            → cond (is_some o) [] (or_else (word_fault s names w.is_trailing w.waiting word w.held)
            (step_fault s w.position (met_by w word).0 (met_by w word).1)) ≡ []
            → RowsFit (walked_from s.rules names o w word).held.rows
        go (Some p) e = fit
        go None e =
            let q = none_of (word_fault s names w.is_trailing w.waiting word w.held) (step_fault s w.position (met_by w word).0 (met_by w word).1) e in
            step_fits w word (met_by w word).0 (met_by w word).1 q.1 (word_fits w.is_trailing w.waiting w.position word w.held q.0 fit)

    walk_fits : (words : List Text) (w : Walk) → walk_fault s names w words ≡ [] → RowsFit w.held.rows → RowsFit (fold (walked s.rules names) w words).held.rows
    unfolding walk_fault
    walk_fits [] w e fit = fit
    walk_fits (word ∷ rest) w e fit =
        let q = none_of (turn_fault s names w word) (walk_fault s names (walked s.rules names w word) rest) e in
        walk_fits rest (walked s.rules names w word) q.1 (turn_fits w word q.0 fit)

    same_rows : (a : Rule) (rows : List Row) → a.defaults ≡ [] → with_default rows a ≡ rows
    same_rows a rows none = go (has_row a.id rows) a.defaults none
      where
        go : (b : Bool) (vs : List Text) → vs ≡ [] → cond b rows (default_rows a.id (reading_by a) vs rows) ≡ rows
        go true vs e = refl
        go false [] e = refl
        go false (v ∷ vs) e = cc

    default_fits : (c : List Rule) (rows : List Row) → Each Keeps c → RowsFit rows → RowsFit (fold with_default rows c)
    default_fits [] rows k fit = fit
    default_fits (a ∷ c) rows k fit = default_fits c (with_default rows a) k.1 (subst RowsFit (sym (same_rows a rows k.0.1)) fit)

    level_fits : (words : List Text) (has : Bool) (below : Kinds) → level_fault s names nothing_held words has below ≡ []
        → RowsFit (finished s.rules (walk s.rules names nothing_held words).held)
    level_fits words has below e =
        let q = none_of (walk_fault s names (walk_from nothing_held) words) _ e in
        let r = none_of below _ q.1 in
        let end = (walk s.rules names nothing_held words).held in
        let t = none_of (settle_fault s.rules s.args_override_self end) _ r.1 in
        default_fits s.rules (settled s.rules end).rows keeps
        (settle_fits s.rules keeps s.args_override_self end t.0 (walk_fits words (walk_from nothing_held) q.0 tt))

  -- what a subcommand is given fits
  pub entered_fits : (a : App) → Each ShapeFits a.subs → (stop : Option (Text × List Text)) → entered_fault a stop ≡ []
      → RowsFit (rows_given (entered a stop))
  entered_fits a keeps None e = tt
  entered_fits a keeps (Some p) e = go (find (λ s. answers_to p.0 (label_of s)) a.subs) (found ShapeFits _ a.subs keeps) e
    where
      go : (o : Option Shape) → IfSome o ShapeFits → option_map_or (λ s. level_fault s [] nothing_held p.1 false []) o [] ≡ []
          → RowsFit (rows_given (option_map (λ s. (s.name, finished s.rules (walk s.rules [] nothing_held p.1).held)) o))
      go None k e = tt
      go (Some s) k e = level_fits s k [] p.1 false [] e

  -- the text after an option fits
  pub one_fits : (id : Text) (P : Text → Type 0) → ((i t : Text) → bytes_eq i id ≡ true → Fit i t → P t)
      → (rows : List Row) → RowsFit rows → IfSome (one_of id rows) P
  one_fits id P from [] fit = tt
  one_fits id P from (r ∷ rs) fit = go (bytes_eq r.id id) refl (one_fits id P from rs fit.1)
    where
      first : bytes_eq r.id id ≡ true → (vs : List Text) → Each (Fit r.id) vs → IfSome (option_map (read_as r.reading) (slice_get vs 0)) P
      first e [] all = tt
      first e (v ∷ vs) all = subst (λ how. P (read_as how v)) (sym fit.0.0) (from r.id v e all.0)

      go : (b : Bool) → bytes_eq r.id id ≡ b → IfSome (one_of id rs) P
          → IfSome (option_and_then row_text (cond b (Some r) (find (λ r. bytes_eq r.id id) rs))) P
      go true e later = first e r.values fit.0.1
      go false e later = later

-- The next line of a block, the first that isn't done, and the end.
use Rattle.std.proofs.Common.{◌≡◌, ◌≢◌, ◌+◌, ◌<◌, ◌≤◌, ℕ, ℤ, List, [], ◌∷◌, ◌++◌, length, take, drop, get_or, refl, sym, ap, subst, ◌∙◌, append_assoc}
use Rattle.std.proofs.Common.{append-nil, arith, string_bytes}
use Rattle.std.proofs.lemmas.List.{length-drop, take_more, drop_more}
use Rattle.fts_script.specs.session.Outputs.{SessionValue, after_line, after_lines, replies, reply_to}
use Rattle.fts_script.specs.session.Text.{lines_of}
use Rattle.fts_c.specs.declared.codes.TheConstants.{OK}
use Rattle.fts_c.specs.declared.state.State.{State}
use Rattle.fts_c.specs.Blocks.{ExecutesLines, ExecutesNext, StopsAt}
use Rattle.fts_c.specs.Codes.{IsCodeOf}

replies-push : (s : SessionValue) (xs : List (List ℕ)) (line : List ℕ) → replies s (xs ++ line ∷ []) ≡ replies s xs ++ reply_to (after_lines s xs) line
replies-push s [] line = append-nil (reply_to s line)
replies-push s (x ∷ xs) line =
    ap (λ r. reply_to s x ++ r) (replies-push (after_line s x) xs line)
    ∙ sym (append_assoc (reply_to s x) (replies (after_line s x) xs) (reply_to (after_lines (after_line s x) xs) line))

pub after_lines-push : (s : SessionValue) (xs : List (List ℕ)) (line : List ℕ) → after_lines s (xs ++ line ∷ []) ≡ after_line (after_lines s xs) line
after_lines-push s [] line = refl
after_lines-push s (x ∷ xs) line = after_lines-push (after_line s x) xs line

-- the next of a list after its first n
pub record IsNext (xs : List (List ℕ)) (n : ℕ) (y : List ℕ) (ys : List (List ℕ)) : Type 0 where
  pub within : n < length xs
  pub at : get_or xs n [] ≡ y
  pub left : drop (n + 1) xs ≡ ys
  pub taken : take (n + 1) xs ≡ take n xs ++ y ∷ []

pub next_of : (xs : List (List ℕ)) (n : ℕ) (y : List ℕ) (ys : List (List ℕ)) → drop n xs ≡ y ∷ ys → IsNext xs n y ys
next_of xs n y ys e =
    let within : n < length xs = omega (arith, ap length e, length-drop n xs) in
    let both : get_or xs n [] ∷ drop (n + 1) xs ≡ y ∷ ys = sym (drop_more xs n [] within) ∙ e in
    let at : get_or xs n [] ≡ y = cc in
    record { within = within; at = at; left = cc; taken = take_more xs n [] within ∙ ap (λ v. take n xs ++ v ∷ []) at }

-- `done` lines of a block were done, and this is left of it
pub record Reached (old : State) (block rest : List ℕ) (now : State) (done : ℕ) : Type 0 where
  pub left : drop done (lines_of block) ≡ lines_of rest
  pub room : done + length rest ≤ length block
  pub within : done ≤ length (lines_of block)
  pub reply : string_bytes now.reply ≡ replies old.session.script (take done (lines_of block))
  pub session : now.session.script ≡ after_lines old.session.script (take done (lines_of block))

pub reached_next : (old now new : State) (block rest line later : List ℕ) (done : ℕ) (code : ℤ) → Reached old block rest now done →
    lines_of rest ≡ line ∷ lines_of later → length later < length rest → ExecutesNext now line new code → code ≡ OK → Reached old block later new (done + 1)
reached_next old now new block rest line later done code r first shorter e ok =
    let ls : List (List ℕ) = lines_of block in
    let n : IsNext ls done line (lines_of later) = next_of ls done line (lines_of later) (r.left ∙ first) in record {
      left = n.left;
      room = omega (arith, r.room, shorter);
      within = omega (arith, n.within);
      reply = e.reply ok ∙ ap (λ v. v ++ reply_to now.session.script line) r.reply ∙ ap (λ s. replies old.session.script (take done ls) ++ reply_to s line) r.session
          ∙ sym (replies-push old.session.script (take done ls) line) ∙ ap (replies old.session.script) (sym n.taken);
      session = e.session ok ∙ ap (λ s. after_line s line) r.session ∙ sym (after_lines-push old.session.script (take done ls) line)
          ∙ ap (after_lines old.session.script) (sym n.taken);
    }

pub reached_stop : (old now new : State) (block rest line later : List ℕ) (done : ℕ) (code : ℤ) → Reached old block rest now done →
    lines_of rest ≡ line ∷ lines_of later → ExecutesNext now line new code → code ≢ OK → ExecutesLines old block new code done
reached_stop old now new block rest line later done code r first e bad =
    let ls : List (List ℕ) = lines_of block in
    let n : IsNext ls done line (lines_of later) = next_of ls done line (lines_of later) (r.left ∙ first) in
    let stop : StopsAt new line code =
    record { code_is = subst (λ s. IsCodeOf s line code) (sym (e.same bad)) e.code_is; not_ok = bad; not_blank = e.not_blank } in record {
      reply = e.none bad ∙ r.reply;
      session = e.same bad ∙ r.session;
      all = λ ok. absurd (bad ok);
      within = λ _. n.within;
      stopped = λ _. subst (λ l. StopsAt new l code) (sym n.at) stop;
    }

pub reached_end : (old now : State) (block rest : List ℕ) (done : ℕ) → Reached old block rest now done → length rest ≡ 0 → ExecutesLines old block now OK done
reached_end old now block [] done r none = record {
  reply = r.reply;
  session = r.session;
  all = λ _. omega (arith, r.within, ap length r.left, length-drop done (lines_of block));
  within = λ bad. absurd (bad refl);
  stopped = λ bad. absurd (bad refl);
}
reached_end old now block (b ∷ rest) done r none = absurd (omega (arith, none))

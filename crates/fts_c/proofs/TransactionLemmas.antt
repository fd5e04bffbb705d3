-- The lines of a transaction: the next, the first that isn't taken, and the end.
use Rattle.std.proofs.Common.{◌≡◌, ◌+◌, ◌<◌, ◌≤◌, ℕ, ℤ, Bool, true, false, cond, List, [], ◌∷◌, ◌++◌, length, take, drop, refl, sym, ap, subst, ◌∙◌}
use Rattle.std.proofs.Common.{append_assoc, append-nil, arith, string_bytes, Option, None, Result, Ok, Err, is_ok}
use Rattle.fts_base.specs.declared.refusal.Refusal.{Refusal}
use Rattle.fts_engine.specs.Indexes.{Index, indexes}
use Rattle.fts_script.specs.declared.session.savepoint.Savepoint.{Savepoint}
use Rattle.fts_script.specs.session.Outputs.{SessionValue, after_line, after_lines, replies, reply_to}
use Rattle.fts_script.specs.session.Replies.{Outcome, text_of}
use Rattle.fts_script.specs.session.Text.{lines_of}
use Rattle.fts_script.specs.session.Transactions.{count_uncommitted, first_refusal, is_taken, lines_taken, operate, refusal_or}
use Rattle.fts_script.specs.session.Transactions.{replies_unless_refused, rolled_back_to, savepoint_of, unless_refused}
use Rattle.fts_script.proofs.TransactionLemmas.{Taken, taken_back, taken_more, taken_of}
use Rattle.fts_c.specs.declared.codes.TheConstants.{OK}
use Rattle.fts_c.specs.declared.state.State.{State}
use Rattle.fts_c.specs.Codes.{IsCodeOf}
use Rattle.fts_c.specs.Transactions.{IsStopped, IsTaken, Operates, Transacts}
use Rattle.fts_c.proofs.BlockLemmas.{IsNext, after_lines-push, next_of}

-- what became of a line
pub operated : (old : State) (number : ℕ) (line : List ℕ) (new : State) (taken : Bool) → taken ≡ is_taken old.session.script line →
    string_bytes new.reply ≡ cond taken (string_bytes old.reply ++ reply_to old.session.script line) (text_of number (operate indexes old.session.script.index line)) →
    new.session.script ≡ cond taken (after_line old.session.script line) old.session.script → Operates old number line new (Ok taken)
operated old number line new true t r s = record { taken = sym t; reply = r; session = s }
operated old number line new false t r s = record { refused = sym t; reply = r; session = s }

-- `done` lines of a block were taken, and this is left of it
pub record Reached (old : State) (block rest : List ℕ) (begun : Savepoint) (now : State) (done : ℕ) : Type 0 where
  pub begun_is : begun ≡ savepoint_of old.session.script
  pub left : drop done (lines_of block) ≡ lines_of rest
  pub room : done + length rest ≤ length block
  pub within : done ≤ length (lines_of block)
  pub session : now.session.script ≡ after_lines old.session.script (take done (lines_of block))
  pub later : after_lines old.session.script (lines_of block) ≡ after_lines now.session.script (lines_of rest)
  pub reply : replies old.session.script (lines_of block) ≡ string_bytes now.reply ++ replies now.session.script (lines_of rest)
  pub refusal : first_refusal old.session.script (lines_of block) ≡ first_refusal now.session.script (lines_of rest)
  pub count : lines_taken old.session.script (lines_of block) ≡ done + lines_taken now.session.script (lines_of rest)
  pub back : rolled_back_to begun now.session.script ≡ old.session.script
  pub kept : begun.uncommitted ≤ count_uncommitted now.session.script.index
  pub number : begun.number ≤ now.session.script.number

-- the refusal of the first of lines whose first is taken, and how many are taken
refusal_later : (r : Result (Outcome Index) Refusal) (later : Option Refusal) → is_ok r ≡ true → refusal_or r later ≡ later
refusal_later (Ok d) later ok = refl
refusal_later (Err e) later ok = absurd (let bad : false ≡ true = ok in cc)

sum_next : (a b : ℕ) → a + (1 + b) ≡ a + 1 + b
sum_next a b = omega arith

pub reached_next : (old now new : State) (block rest line later : List ℕ) (begun : Savepoint) (done : ℕ) → Reached old block rest begun now done →
    lines_of rest ≡ line ∷ lines_of later → length later < length rest → IsTaken now line new → Reached old block later begun new (done + 1)
reached_next old now new block rest line later begun done r first shorter t =
    let ls : List (List ℕ) = lines_of block in
    let n : IsNext ls done line (lines_of later) = next_of ls done line (lines_of later) (r.left ∙ first) in
    let at : SessionValue = after_line now.session.script line in
    let counts : lines_taken now.session.script (line ∷ lines_of later) ≡ 1 + lines_taken at (lines_of later) =
    ap (λ b. cond b (1 + lines_taken at (lines_of later)) 0) t.taken in
    let counted : lines_taken now.session.script (lines_of rest) ≡ 1 + lines_taken at (lines_of later) = ap (lines_taken now.session.script) first ∙ counts in
    let more : count_uncommitted now.session.script.index ≤ count_uncommitted at.index = taken_more now.session.script line t.taken in
    let k : Taken now.session.script line = taken_of now.session.script line t.taken in record {
      begun_is = r.begun_is;
      left = n.left;
      room = omega (arith, r.room, shorter);
      within = omega (arith, n.within);
      session = t.session ∙ ap (λ s. after_line s line) r.session ∙ sym (after_lines-push old.session.script (take done ls) line)
          ∙ ap (after_lines old.session.script) (sym n.taken);
      later = r.later ∙ ap (after_lines now.session.script) first ∙ ap (λ s. after_lines s (lines_of later)) (sym t.session);
      reply = r.reply ∙ ap (λ l. string_bytes now.reply ++ replies now.session.script l) first
          ∙ sym (append_assoc (string_bytes now.reply) (reply_to now.session.script line) (replies at (lines_of later)))
          ∙ ap (λ v. v ++ replies at (lines_of later)) (sym t.reply)
          ∙ ap (λ s. string_bytes new.reply ++ replies s (lines_of later)) (sym t.session);
      refusal = r.refusal ∙ ap (first_refusal now.session.script) first
          ∙ refusal_later (operate indexes now.session.script.index line) (first_refusal at (lines_of later)) t.taken
          ∙ ap (λ s. first_refusal s (lines_of later)) (sym t.session);
      count = r.count ∙ ap (λ m. done + m) counted ∙ sum_next done (lines_taken at (lines_of later))
          ∙ ap (λ s. done + 1 + lines_taken s (lines_of later)) (sym t.session);
      back = ap (rolled_back_to begun) t.session ∙ taken_back begun now.session.script line t.taken r.kept ∙ r.back;
      kept = subst (λ (s : SessionValue). begun.uncommitted ≤ count_uncommitted s.index) (sym t.session) (omega (arith, r.kept, more));
      number = omega (arith, r.number, ap (λ (s : SessionValue). s.number) (t.session ∙ k.after));
    }

pub reached_stop : (old now mid new : State) (block rest line later : List ℕ) (begun : Savepoint) (done : ℕ) (code : ℤ) → Reached old block rest begun now done →
    lines_of rest ≡ line ∷ lines_of later → IsStopped now line mid code → string_bytes new.reply ≡ [] →
    new.session.script ≡ rolled_back_to begun mid.session.script → Transacts old block new code done
reached_stop old now mid new block rest line later begun done code r first f none back =
    let ls : List (List ℕ) = lines_of block in
    let n : IsNext ls done line (lines_of later) = next_of ls done line (lines_of later) (r.left ∙ first) in record {
      reply = λ ok. absurd (f.not_ok ok);
      session = λ ok. absurd (f.not_ok ok);
      counted = λ ok. absurd (f.not_ok ok);
      same = λ _. back ∙ ap (rolled_back_to begun) f.session ∙ r.back;
      none = λ _. none;
      before = λ _. omega (arith, r.count);
      within = λ _. n.within;
      stopped = λ _. subst (λ l. IsCodeOf (after_lines old.session.script (take done ls)) l code) (sym n.at)
          (subst (λ s. IsCodeOf s line code) r.session f.code_is);
    }

end_of : (old now : State) (lines : List (List ℕ)) (wanted : Option Refusal) → wanted ≡ None →
    replies old.session.script lines ≡ string_bytes now.reply → after_lines old.session.script lines ≡ now.session.script →
    (string_bytes now.reply ≡ replies_unless_refused old.session.script lines wanted) × (now.session.script ≡ unless_refused old.session.script lines wanted)
end_of old now lines wanted is reply after = (
  sym reply ∙ ap (replies_unless_refused old.session.script lines) (sym is),
  sym after ∙ ap (unless_refused old.session.script lines) (sym is),
)

pub reached_end : (old now : State) (block rest : List ℕ) (begun : Savepoint) (done : ℕ) → Reached old block rest begun now done → length rest ≡ 0 →
    Transacts old block now OK done
reached_end old now block [] begun done r none =
    let told = end_of old now (lines_of block) (first_refusal old.session.script (lines_of block)) r.refusal (r.reply ∙ append-nil (string_bytes now.reply))
    r.later in record {
      reply = λ _. told.0;
      session = λ _. told.1;
      counted = λ _. omega (arith, r.count);
      same = λ bad. absurd (bad refl);
      none = λ bad. absurd (bad refl);
      before = λ bad. absurd (bad refl);
      within = λ bad. absurd (bad refl);
      stopped = λ bad. absurd (bad refl);
    }
reached_end old now block (b ∷ rest) begun done r none = absurd (omega (arith, none))

-- What stays true in a step of a run.
use Rattle.std.proofs.Common.{ltb, lt-ltb, IfOk, Result, Ok, Err, OnErr, OnOk, ◌≡◌, ◌<◌, ◌≤◌, ◌-◌, Bool, true, false, cond, eqb, ◌&&◌, ℕ, ◌+◌, List, []}
use Rattle.std.proofs.Common.{◌∷◌, ◌++◌, length, take, drop, refl, ap, sym, ◌∙◌, append_assoc, append-nil, take-append-drop, subst, arith, rules, tests}
use Rattle.std.proofs.lemmas.List.{length-drop, length-append, length-take-le, take_rest}
use Rattle.std.proofs.Math.Seq.{take-add}
use Rattle.fts_script.specs.session.KeptLines.{KeptLine, kept_line, grown, is_blank_kept, reply_to_kept, after_kept}
use Rattle.fts_script.proofs.KeptLemmas.{grown-kept_line, is_blank_kept-indented, reply_to_kept-kept_line, after_kept-kept_line}
use Rattle.fts_script.specs.Streams.{Wrote}
use Rattle.fts_script.specs.session.Text.{lines_of, IsWhole, HasNoEnd}
use Rattle.fts_script.specs.session.Outputs.{SessionValue, start, after_line, reply_to, replies, after_lines, output}
use Rattle.fts_script.specs.Stops.{AnswersFirst, AnswersEnded, BeginsOutput, BeginsOutputUnless, BeginsWith, IsWritten, StopsAfter, StopsFirst}
use Rattle.fts_script.specs.Responders.{Answered, Finishes, Advances, AdvancesFirst, AdvancesToStop, RunState}
use Rattle.fts_script.proofs.BlankLemmas.{IsWritten-front}
use Rattle.fts_script.proofs.StreamLemmas.{append_more}
use Rattle.fts_script.proofs.LineLemmas.{lines_of-append, lines_of-ended, lines_of-unended, HasNoEnd-append, HasNoEnd-late, HasNoEnd-shorter, IsWhole-ended}

replies-append : (s : SessionValue) (xs ys : List (List ℕ)) → replies s (xs ++ ys) ≡ replies s xs ++ replies (after_lines s xs) ys
replies-append s [] ys = refl
replies-append s (x ∷ xs) ys =
    ap (λ r. reply_to s x ++ r) (replies-append (after_line s x) xs ys)
    ∙ sym (append_assoc (reply_to s x) (replies (after_line s x) xs) (replies (after_lines (after_line s x) xs) ys))

after_lines-append : (s : SessionValue) (xs ys : List (List ℕ)) → after_lines s (xs ++ ys) ≡ after_lines (after_lines s xs) ys
after_lines-append s [] ys = refl
after_lines-append s (x ∷ xs) ys = after_lines-append (after_line s x) xs ys

-- the output of whole lines and what comes after them
output-append : (done more : List ℕ) → IsWhole done →
    output (done ++ more) ≡ output done ++ replies (after_lines start (lines_of done)) (lines_of more)
output-append done more h =
    ap (replies start) (lines_of-append done more h) ∙ replies-append start (lines_of done) (lines_of more)

-- one more line adds its reply to the output
output-line : (done more line : List ℕ) → IsWhole done → lines_of more ≡ line ∷ [] →
    output (done ++ more) ≡ output done ++ reply_to (after_lines start (lines_of done)) line
output-line done more line w is =
    let s = after_lines start (lines_of done) in
    output-append done more w
    ∙ ap (λ ls. output done ++ replies s ls) is
    ∙ ap (λ r. output done ++ r) (append-nil (reply_to s line))

-- no line ends
pub Advances-unended : (s : SessionValue) (p q : KeptLine) (bytes a : List ℕ) → HasNoEnd bytes →
    q ≡ grown p bytes → Advances s s p q bytes a a
Advances-unended s p q bytes a none grows = record {
  leads = λ input out r. record {
    done = r.done;
    line = r.line ++ bytes;
    split = ap (λ v. v ++ bytes) r.split ∙ append_assoc r.done r.line bytes;
    whole = r.whole;
    unended = HasNoEnd-append r.line bytes r.unended none;
    script = r.script;
    held = grows ∙ ap (λ v. grown v bytes) r.held ∙ grown-kept_line r.line bytes;
    replied = r.replied;
  };
}

-- the line ends
pub Advances-ended : (s t : SessionValue) (p q : KeptLine) (piece a b : List ℕ) → HasNoEnd piece →
    b ≡ a ++ reply_to_kept s (grown p piece) → t ≡ after_kept s (grown p piece) → q ≡ kept_line [] → Advances s t p q (piece ++ 10 ∷ []) a b
Advances-ended s t p q piece a b none replies_to goes_on next = record {
  leads = λ input out r.
      let line = r.line ++ piece in
      let grows_to : grown p piece ≡ kept_line line = ap (λ v. grown v piece) r.held ∙ grown-kept_line r.line piece in
      let is : lines_of (line ++ 10 ∷ []) ≡ line ∷ [] = lines_of-ended line (HasNoEnd-append r.line piece r.unended none) in
      record {
        done = r.done ++ (line ++ 10 ∷ []);
        line = [];
        split = ap (λ v. v ++ (piece ++ 10 ∷ [])) r.split ∙ simp (append_assoc, append-nil);
        whole = subst IsWhole (append_assoc r.done line (10 ∷ [])) (IsWhole-ended (r.done ++ line));
        unended = tt;
        script = goes_on ∙ ap (after_kept s) grows_to ∙ after_kept-kept_line s line ∙ ap (λ v. after_line v line) r.script
            ∙ sym (after_lines-append start (lines_of r.done) (line ∷ []))
            ∙ ap (after_lines start) (ap (λ ls. lines_of r.done ++ ls) (sym is) ∙ sym (lines_of-append r.done (line ++ 10 ∷ []) r.whole));
        held = next;
        replied = ap (λ v. out ++ v) (replies_to ∙ ap (λ v. a ++ reply_to_kept s v) grows_to ∙ ap (λ v. a ++ v) (reply_to_kept-kept_line s line))
            ∙ sym (append_assoc out a (reply_to s line))
            ∙ ap (λ v. v ++ reply_to s line) r.replied
            ∙ ap (λ v. output r.done ++ reply_to v line) r.script
            ∙ sym (output-line r.done (line ++ 10 ∷ []) line r.whole is);
      };
}

pub Advances-then : (s t u : SessionValue) (p q r : KeptLine) (xs ys a b c : List ℕ) →
    Advances s t p q xs a b → Advances t u q r ys b c → Advances s u p r (xs ++ ys) a c
Advances-then s t u p q r xs ys a b c first second = record {
  leads = λ input out from.
      subst (λ v. Answered u r v (out ++ c)) (append_assoc input xs ys) (second.leads (input ++ xs) out (first.leads input out from));
}

-- first lines were answered, whatever bytes come later
abbrev answers_first : (t : SessionValue) (q : KeptLine) (input xs more out : List ℕ) → Answered t q (input ++ xs) out →
    AnswersFirst (length (xs ++ more)) (input ++ (xs ++ more)) out
answers_first t q input xs more out r = record {
  done = r.done;
  rest = r.line ++ more;
  split = sym (append_assoc input xs more) ∙ ap (λ v. v ++ more) r.split ∙ append_assoc r.done r.line more;
  whole = r.whole;
  replied = r.replied;
  late = HasNoEnd-late r.line more (length (xs ++ more)) (omega (arith, length-append xs more)) r.unended;
}

pub AdvancesFirst-leads : (s t : SessionValue) (p q : KeptLine) (xs more a b : List ℕ) →
    Advances s t p q xs a b → AdvancesFirst s p (xs ++ more) a b
AdvancesFirst-leads s t p q xs more a b first = record {
  leads = λ input out from. answers_first t q input xs more (out ++ b) (first.leads input out from);
}

-- and memory runs out there
pub AdvancesToStop-leads : (s t : SessionValue) (p q : KeptLine) (xs more a b : List ℕ) → Advances s t p q xs a b →
    ((line : List ℕ) → q ≡ kept_line line → HasNoEnd line → IsWritten (lines_of (line ++ more))) → AdvancesToStop s t p (xs ++ more) a b
AdvancesToStop-leads s t p q xs more a b first written = record {
  leads = λ input out from.
      let r = first.leads input out from in
      ((answers_first t q input xs more (out ++ b) r, λ some. written r.line r.held r.unended), r.script);
}

-- the replies of some lines went out
pub RunState-sent : (before now after : List ℕ) (s t : SessionValue) (p q : KeptLine) (input bytes gathered : List ℕ) →
    Advances s t p q bytes [] gathered → after ≡ now ++ gathered →
    RunState before now s p input → RunState before after t q (input ++ bytes)
RunState-sent before now after s t p q input bytes gathered step sent r = record {
  out = r.out ++ gathered;
  taken = append_more before now after r.out gathered r.taken sent;
  answered = step.leads input r.out (subst (λ v. Answered s p input v) (sym (append-nil r.out)) r.answered);
}

-- memory ran out, and the replies of the lines before went out
pub Wrote-first : (before now after : List ℕ) (s t : SessionValue) (p : KeptLine) (input bytes gathered : List ℕ) →
    AdvancesToStop s t p bytes [] gathered → after ≡ now ++ gathered →
    RunState before now s p input → Wrote before after (StopsAfter t (length bytes) (input ++ bytes))
Wrote-first before now after s t p input bytes gathered step sent r = record {
  bytes = r.out ++ gathered;
  taken = append_more before now after r.out gathered r.taken sent;
  so = step.leads input r.out (subst (λ v. Answered s p input v) (sym (append-nil r.out)) r.answered);
}

AnswersFirst-begins : (n : ℕ) (input out : List ℕ) → AnswersFirst n input out → BeginsOutput input out
AnswersFirst-begins n input out r = λ more. (
  replies (after_lines start (lines_of r.done)) (lines_of (r.rest ++ more)),
  ap output (ap (λ v. v ++ more) r.split ∙ append_assoc r.done r.rest more)
      ∙ output-append r.done (r.rest ++ more) r.whole
      ∙ ap (λ v. v ++ replies (after_lines start (lines_of r.done)) (lines_of (r.rest ++ more))) (sym r.replied),
)

-- a beginning of a beginning
BeginsWith-take : (xs out gathered : List ℕ) (n : ℕ) → BeginsWith xs (out ++ gathered) → BeginsWith xs (out ++ take n gathered)
BeginsWith-take xs out gathered n h = (
  drop n gathered ++ h.0,
  h.1 ∙ ap (λ v. (out ++ v) ++ h.0) (sym (take-append-drop n gathered)) ∙ simp append_assoc,
)

-- a write failed among the replies of some lines
pub Wrote-cut : (before now after : List ℕ) (s : SessionValue) (p : KeptLine) (input bytes gathered : List ℕ) (n : ℕ) →
    AdvancesFirst s p bytes [] gathered → after ≡ now ++ take n gathered →
    RunState before now s p input → Wrote before after (BeginsOutput (input ++ bytes))
Wrote-cut before now after s p input bytes gathered n step sent r = record {
  bytes = r.out ++ take n gathered;
  taken = append_more before now after r.out (take n gathered) r.taken sent;
  so = λ more. BeginsWith-take _ r.out gathered n (AnswersFirst-begins (length bytes) (input ++ bytes) (r.out ++ gathered)
      (step.leads input r.out (subst (λ v. Answered s p input v) (sym (append-nil r.out)) r.answered)) more);
}

pub Wrote-begins : (before now input : List ℕ) (n : ℕ) → Wrote before now (AnswersFirst n input) → Wrote before now (BeginsOutput input)
Wrote-begins before now input n w = record {
  bytes = w.bytes;
  taken = w.taken;
  so = AnswersFirst-begins n input w.bytes w.so;
}

pub Wrote-unless : (before now : List ℕ) (input : List ℕ) (ended : Type 0) → Wrote before now (BeginsOutput input) →
    Wrote before now (BeginsOutputUnless ended input)
Wrote-unless before now input ended w = record {
  bytes = w.bytes;
  taken = w.taken;
  so = λ more _. w.so more;
}

pub Wrote-ended : (before now : List ℕ) (input : List ℕ) (ended : Type 0) → ended → Wrote before now (BeginsWith (output input)) →
    Wrote before now (BeginsOutputUnless ended input)
Wrote-ended before now input ended h w = record {
  bytes = w.bytes;
  taken = w.taken;
  so = λ more only. (w.so.0, ap (λ v. output (input ++ v)) (only h) ∙ ap output (append-nil input) ∙ w.so.1);
}

-- what ended before the last n bytes ended before the last m
abbrev answers_late : (input out : List ℕ) (m n : ℕ) → m ≤ n → AnswersFirst m input out → AnswersFirst n input out
answers_late input out m n h r = record {
  done = r.done;
  rest = r.rest;
  split = r.split;
  whole = r.whole;
  replied = r.replied;
  late = HasNoEnd-shorter r.rest (length r.rest - n) (length r.rest - m) (omega (arith, h)) r.late;
}

pub Wrote-late : (before now input : List ℕ) (m n : ℕ) → m ≤ n → Wrote before now (StopsFirst m input) → Wrote before now (StopsFirst n input)
Wrote-late before now input m n h w = record {
  bytes = w.bytes;
  taken = w.taken;
  so = (answers_late input w.bytes m n h w.so.0, w.so.1);
}

-- the session is as the lines left it that were answered
pub Wrote-after : (before now input : List ℕ) (s : SessionValue) (n : ℕ) → Wrote before now (StopsAfter s n input) → Wrote before now (StopsFirst n input)
Wrote-after before now input s n w = record { bytes = w.bytes; taken = w.taken; so = w.so.0 }

pub Wrote-stopped : (before now input : List ℕ) (s : SessionValue) (n : ℕ) → Wrote before now (StopsAfter s n input) →
    Wrote before now (AnswersFirst n input)
Wrote-stopped before now input s n w = record { bytes = w.bytes; taken = w.taken; so = w.so.0.0 }

-- memory ran out at the end of the input
pub Wrote-stop : (before now : List ℕ) (s : SessionValue) (p : KeptLine) (input : List ℕ) → is_blank_kept p ≡ false →
    RunState before now s p input → Wrote before now (StopsFirst 0 input)
Wrote-stop before now s p input written r =
    let a = r.answered in record {
      bytes = r.out;
      taken = r.taken;
      so = (
        record {
          done = a.done;
          rest = a.line ++ [];
          split = a.split ∙ ap (λ v. a.done ++ v) (sym (append-nil a.line));
          whole = a.whole;
          replied = a.replied;
          late = HasNoEnd-late a.line [] 0 (omega arith) a.unended;
        },
        λ some. IsWritten-front a.line [] a.unended (sym (is_blank_kept-indented 0 a.line) ∙ ap is_blank_kept (sym a.held) ∙ written),
      );
    }

-- the last bytes are those of the latest read
pub Wrote-latest : (P : ℕ → List ℕ → List ℕ → Type 0) (before now input bytes latest : List ℕ) → latest ≡ bytes →
    Wrote before now (P (length bytes) input) → Wrote before now (P (length latest) input)
Wrote-latest P before now input bytes latest e w = subst (λ v. Wrote before now (P (length v) input)) (sym e) w

-- the lines that ended were answered
pub Wrote-reached : (before now : List ℕ) (s : SessionValue) (p : KeptLine) (input : List ℕ) →
    RunState before now s p input → Wrote before now (AnswersEnded input)
Wrote-reached before now s p input r = record {
  bytes = r.out;
  taken = r.taken;
  so = record {
    done = r.answered.done;
    line = r.answered.line;
    split = r.answered.split;
    whole = r.answered.whole;
    unended = r.answered.unended;
    replied = r.answered.replied;
  };
}

-- what was written is the replies to first lines, whatever comes after the input
pub Wrote-more : (before now : List ℕ) (s : SessionValue) (p : KeptLine) (input more : List ℕ) →
    RunState before now s p input → Wrote before now (AnswersFirst (length more) (input ++ more))
Wrote-more before now s p input more r = record {
  bytes = r.out;
  taken = r.taken;
  so = record {
    done = r.answered.done;
    rest = r.answered.line ++ more;
    split = ap (λ v. v ++ more) r.answered.split ∙ append_assoc r.answered.done r.answered.line more;
    whole = r.answered.whole;
    replied = r.answered.replied;
    late = HasNoEnd-late r.answered.line more (length more) (omega arith) r.answered.unended;
  };
}

pub Wrote-same : (before now : List ℕ) (s : SessionValue) (p : KeptLine) (input : List ℕ) →
    RunState before now s p input → Wrote before now (AnswersFirst 0 input)
Wrote-same before now s p input r =
    subst (λ v. Wrote before now (AnswersFirst 0 v)) (append-nil input) (Wrote-more before now s p input [] r)

-- the end of the input ended a line
pub Finishes-line : (s : SessionValue) (p : KeptLine) (reply : List ℕ) → (p ≡ kept_line [] → ⊥) → reply ≡ reply_to_kept s p → Finishes s p reply
Finishes-line s p reply some replies_to = record {
  ends = λ input out r.
      ap (λ v. out ++ v) (replies_to ∙ ap (reply_to_kept s) r.held ∙ reply_to_kept-kept_line s r.line)
      ∙ ap (λ v. v ++ reply_to s r.line) r.replied
      ∙ ap (λ v. output r.done ++ reply_to v r.line) r.script
      ∙ sym (output-line r.done r.line r.line r.whole (lines_of-unended r.line r.unended (λ e. some (r.held ∙ ap kept_line e))))
      ∙ ap output (sym r.split);
}

pub Wrote-output : (before now after : List ℕ) (s : SessionValue) (p : KeptLine) (input gathered : List ℕ) →
    Finishes s p gathered → after ≡ now ++ gathered →
    RunState before now s p input → Wrote before after (λ out. out ≡ output input)
Wrote-output before now after s p input gathered last sent r = record {
  bytes = r.out ++ gathered;
  taken = append_more before now after r.out gathered r.taken sent;
  so = last.ends input r.out r.answered;
}

-- a write failed in the last reply
pub Wrote-part : (before now after : List ℕ) (s : SessionValue) (p : KeptLine) (input gathered : List ℕ) (n : ℕ) →
    Finishes s p gathered → after ≡ now ++ take n gathered →
    RunState before now s p input → Wrote before after (BeginsWith (output input))
Wrote-part before now after s p input gathered n last sent r = record {
  bytes = r.out ++ take n gathered;
  taken = append_more before now after r.out (take n gathered) r.taken sent;
  so = BeginsWith-take (output input) r.out gathered n ([], sym (last.ends input r.out r.answered) ∙ sym (append-nil (r.out ++ gathered)));
}

pub Wrote-start : (before now : List ℕ) (s : SessionValue) (p : KeptLine) (input : List ℕ) →
    RunState before now s p input → Wrote before now (BeginsWith (output input))
Wrote-start before now s p input r =
    let first = Wrote-same before now s p input r in
    let begins = AnswersFirst-begins 0 input first.bytes first.so [] in record {
      bytes = first.bytes;
      taken = first.taken;
      so = (begins.0, ap output (sym (append-nil input)) ∙ begins.1);
    }

pub sent_more : (bytes : List ℕ) (i n : ℕ) →
    take i bytes ++ take n (take (length bytes - i) (drop i bytes)) ≡ take (i + n) bytes
sent_more bytes i n = ap (λ v. take i bytes ++ take n v) (take_rest bytes i) ∙ sym (take-add i n bytes)

pub within_more : (bytes : List ℕ) (i n : ℕ) → i ≤ length bytes →
    n ≤ length (take (length bytes - i) (drop i bytes)) → i + n ≤ length bytes
within_more bytes i n h k = omega (arith, ap length (take_rest bytes i), length-drop i bytes)

-- a count that rises on a test
pub counted_more : (a f h : ℕ) (t : Bool) → a ≤ f → h ≡ cond t (f + 1) f → a ≤ h
counted_more a f h true le e = omega arith
counted_more a f h false le e = omega arith

pub on_err : {T E : Type 0} (r : Result T E) (Q : Type 0) → Q → OnErr r Q
on_err (Ok v) Q h = tt
on_err (Err e) Q h = h

pub on_ok : {T E : Type 0} (r : Result T E) (Q : Type 0) → Q → OnOk r Q
on_ok (Ok v) Q h = h
on_ok (Err e) Q h = tt

-- whether lines were taken or memory ran out
pub AdvancesFirst-either : {E : Type 0} (result : Result ℕ E) (s t : SessionValue) (p q : KeptLine) (bytes a b : List ℕ) →
    IfOk result (λ n. Advances s t p q (take n bytes) a b) → OnErr result (AdvancesToStop s t p bytes a b) → AdvancesFirst s p bytes a b
AdvancesFirst-either (Ok n) s t p q bytes a b ok err =
    subst (λ v. AdvancesFirst s p v a b) (take-append-drop n bytes) (AdvancesFirst-leads s t p q (take n bytes) (drop n bytes) a b ok)
AdvancesFirst-either (Err e) s t p q bytes a b ok err = record { leads = λ input out from. (err.leads input out from).0.0 }

-- the bytes up to a place, and those after it
pub whole_is : (input bytes : List ℕ) (i : ℕ) →
    (input ++ take i bytes) ++ take (length bytes - i) (drop i bytes) ≡ input ++ bytes
whole_is input bytes i =
    append_assoc input (take i bytes) (take (length bytes - i) (drop i bytes))
    ∙ ap (λ v. input ++ (take i bytes ++ v)) (take_rest bytes i)
    ∙ ap (λ v. input ++ v) (take-append-drop i bytes)

pub part_is : (input bytes : List ℕ) (i n : ℕ) →
    (input ++ take i bytes) ++ take n (take (length bytes - i) (drop i bytes)) ≡ input ++ take (i + n) bytes
part_is input bytes i n =
    append_assoc input (take i bytes) (take n (take (length bytes - i) (drop i bytes)))
    ∙ ap (λ v. input ++ v) (sent_more bytes i n)

-- the last bytes are the rest of a block
pub Wrote-block : (before now input bytes : List ℕ) (s : SessionValue) (i : ℕ) →
    (let rest : List ℕ = take (length bytes - i) (drop i bytes) in Wrote before now (StopsAfter s (length rest) ((input ++ take i bytes) ++ rest))) →
    Wrote before now (StopsAfter s (length bytes) (input ++ bytes))
Wrote-block before now input bytes s i w =
    let rest : List ℕ = take (length bytes - i) (drop i bytes) in
    let shorter : length rest ≤ length bytes = omega (arith, ap length (take_rest bytes i), length-drop i bytes) in
    let whole = subst (λ v. Wrote before now (StopsAfter s (length rest) v)) (whole_is input bytes i) w in
    record {
      bytes = whole.bytes;
      taken = whole.taken;
      so = ((answers_late (input ++ bytes) whole.bytes (length rest) (length bytes) shorter whole.so.0.0, whole.so.0.1), whole.so.1);
    }

-- a read that gave nothing
pub given_none : (a b c input buffer : List ℕ) (n : ℕ) → n ≡ 0 → b ≡ a ++ input → c ≡ b ++ take n buffer → c ≡ a ++ input
given_none a b c input buffer n z e f = f ∙ ap (λ k. b ++ take k buffer) z ∙ append-nil b ∙ e

not_zero : (n : ℕ) → (n ≡ 0 → ⊥) → eqb n 0 ≡ false
not_zero n h = search (rules, tests)

-- a read that gave something didn't report the end
pub not_counted : (n e h : ℕ) (t : Bool) → (n ≡ 0 → ⊥) → h ≡ cond (eqb n 0 && t) (e + 1) e → h ≡ e
not_counted n e h t ne k = k ∙ ap (λ v. cond (v && t) (e + 1) e) (not_zero n ne)

-- a read that gave nothing, although it could have, reported the end
pub counted_end : (e h n m : ℕ) → n ≡ 0 → 0 < m → h ≡ cond (eqb n 0 && ltb 0 m) (e + 1) e → e < h
counted_end e h n m z room k =
    let some : ltb 0 m ≡ true = lt-ltb 0 m room in
    let one : h ≡ e + 1 = k ∙ ap (λ v. cond (eqb v 0 && ltb 0 m) (e + 1) e) z ∙ ap (λ v. cond v (e + 1) e) some in omega arith

-- n bytes were read
pub length_more : (input buffer : List ℕ) (n m : ℕ) → n ≤ length buffer → m ≡ length input → m + n ≡ length (input ++ take n buffer)
length_more input buffer n m h e = omega (arith, length-append input (take n buffer), length-take-le n buffer h)

use Rattle.std.proofs.Common.{arith, ◌<◌, ◌++◌, length, take, ◌∙◌, append-nil}
use Rattle.std.proofs.lemmas.Result.{on_ok_weaker, on_err_weaker}
use Rattle.std.proofs.lemmas.List.{length-take-le}
use Rattle.fts_script.specs.Stops.{AnswersFirst, StopsFirst}
use Rattle.fts_script.proofs.RunLemmas.{Wrote-after, Wrote-ended, Wrote-begins, Wrote-late, Wrote-latest, Wrote-more, Wrote-reached, Wrote-same, Wrote-unless, counted_end}
use Rattle.fts_script.proofs.RunLemmas.{given_none, length_more, not_counted}
use Rattle.fts_script.proofs.StreamLemmas.{append_more, GainsTaken-trans, LosesGiven-read}
use Rattle.fts_script.proofs.run.run_script.Goals as goal

pub reads-preserved : goal.reads-preserved
reads-preserved g c = record {
  input = c.reads.invariant.input ++ take c.in-Ok.n c.read.new.buffer;
  given = append_more (g.R.ScriptIn.calls c.args.reader.now).given _ _ c.reads.invariant.input (take c.in-Ok.n c.read.new.buffer) c.reads.invariant.given c.in-Ok.ensures.given;
  left = LosesGiven-read c.read.result c.read.new.buffer _ _ _ _ _ (g.R.ScriptIn.calls c.read.new.self).remaining c.reads.invariant.left c.read.ensures.given
      c.read.ensures.left;
  held = GainsTaken-trans _ _ _ _ _ (g.W.ScriptOut.calls c.feed.new.writer).held c.reads.invariant.held c.feed.ensures.held;
  reached = c.in-Ok-feed.ensures.ok _ _ c.reads.invariant.reached;
  none_wait = c.in-Ok-feed.ensures.none_wait;
  ends = not_counted c.in-Ok.n _ _ _ c.in-Ok.n-test.1 c.in-Ok.ensures.end ∙ c.reads.invariant.ends;
  failed = c.in-Ok.ensures.fails ∙ c.reads.invariant.failed;
  counted = length_more c.reads.invariant.input c.read.new.buffer c.in-Ok.n c.reads.count c.in-Ok.ensures.bound c.reads.invariant.counted;
  most = omega (arith, c.reads.invariant.most, c.if-n-count.false);
  number = omega (
    arith,
    c.in-Ok-feed.ensures.lines_counted,
    c.reads.invariant.number,
    length-take-le c.in-Ok.n c.read.new.buffer
        c.in-Ok.ensures.bound,
  );
  write_failed = c.in-Ok-feed.ensures.none_fails ∙ c.reads.invariant.write_failed;
  flushes = c.feed.ensures.flushes ∙ c.reads.invariant.flushes;
}

pub returns-in-Ok-eq0-clause-ok : goal.returns-in-Ok-eq0-clause-ok
returns-in-Ok-eq0-clause-ok g c =
    on_ok_weaker c.end.result
    (λ h. record {
      input = c.reads.invariant.input;
      read = given_none (g.R.ScriptIn.calls c.args.reader.now).given _ _ c.reads.invariant.input c.read.new.buffer _ c.in-Ok-eq0.field-0-test c.reads.invariant.given
          c.in-Ok-eq0.ensures.given;
      wrote = h _ _ c.reads.invariant.reached;
    })
    c.end.ensures.ok

pub returns-in-Ok-eq0-clause-err : goal.returns-in-Ok-eq0-clause-err
returns-in-Ok-eq0-clause-err g c =
    let room : 0 < length c.read.new.buffer = omega (arith, c.in_ok-block.ensures) in
    let told = counted_end (g.R.ScriptIn.calls c.reads.reader).ends (g.R.ScriptIn.calls c.read.new.self).ends c.in-Ok-eq0.field-0 (length c.read.new.buffer)
    c.in-Ok-eq0.field-0-test room c.in-Ok-eq0.ensures.end in
    let ended : (g.R.ScriptIn.calls c.args.reader.now).ends < (g.R.ScriptIn.calls c.read.new.self).ends = omega (arith, c.reads.invariant.ends, told) in
    on_err_weaker c.end.result
    (λ h. record {
      input = c.reads.invariant.input;
      read = given_none (g.R.ScriptIn.calls c.args.reader.now).given _ _ c.reads.invariant.input c.read.new.buffer _ c.in-Ok-eq0.field-0-test c.reads.invariant.given
          c.in-Ok-eq0.ensures.given;
      wrote = Wrote-ended _ _ c.reads.invariant.input _ ended (h _ _ c.reads.invariant.reached);
    })
    c.end.ensures.err

pub returns-in-Ok-eq0-clause-memory : goal.returns-in-Ok-eq0-clause-memory
returns-in-Ok-eq0-clause-memory g c = λ e. record {
  input = c.reads.invariant.input;
  read = given_none (g.R.ScriptIn.calls c.args.reader.now).given _ _ c.reads.invariant.input c.read.new.buffer _ c.in-Ok-eq0.field-0-test c.reads.invariant.given
      c.in-Ok-eq0.ensures.given;
  wrote = Wrote-late _ _ c.reads.invariant.input 0 (length (g.R.ScriptIn.calls c.read.new.self).latest) (omega arith)
      (c.end.ensures.memory e _ _ c.reads.invariant.reached);
}

pub returns-then-n-count-clause-err : goal.returns-then-n-count-clause-err
returns-then-n-count-clause-err g c = record {
  input = c.reads.invariant.input ++ take c.in-Ok.n c.read.new.buffer;
  read = append_more (g.R.ScriptIn.calls c.args.reader.now).given _ _ c.reads.invariant.input (take c.in-Ok.n c.read.new.buffer) c.reads.invariant.given c.in-Ok.ensures.given;
  wrote = Wrote-unless _ _ (c.reads.invariant.input ++ take c.in-Ok.n c.read.new.buffer) _ (Wrote-begins _ _ _ _
      (Wrote-more _ _ _ _ c.reads.invariant.input (take c.in-Ok.n c.read.new.buffer) c.reads.invariant.reached));
}

pub returns-then-n-count-clause-used_up : goal.returns-then-n-count-clause-used_up
returns-then-n-count-clause-used_up g c = λ _.
    let wrote = Wrote-latest AnswersFirst _ _ _ (take c.in-Ok.n c.read.new.buffer) (g.R.ScriptIn.calls c.read.new.self).latest c.in-Ok.ensures.latest
    (Wrote-more _ _ _ _ c.reads.invariant.input (take c.in-Ok.n c.read.new.buffer) c.reads.invariant.reached) in record {
      input = c.reads.invariant.input ++ take c.in-Ok.n c.read.new.buffer;
      read = append_more (g.R.ScriptIn.calls c.args.reader.now).given _ _ c.reads.invariant.input (take c.in-Ok.n c.read.new.buffer) c.reads.invariant.given c.in-Ok.ensures.given;
      wrote = record {
        bytes = wrote.bytes;
        taken = wrote.taken;
        so = (
          wrote.so,
          omega (
            arith,
            c.if-n-count.true,
            c.reads.invariant.most,
            length_more c.reads.invariant.input c.read.new.buffer c.in-Ok.n c.reads.count c.in-Ok.ensures.bound c.reads.invariant.counted,
          ),
        );
      };
    }

pub returns-in-Err-feed-clause-err : goal.returns-in-Err-feed-clause-err
returns-in-Err-feed-clause-err g c = record {
  input = c.reads.invariant.input ++ take c.in-Ok.n c.read.new.buffer;
  read = append_more (g.R.ScriptIn.calls c.args.reader.now).given _ _ c.reads.invariant.input (take c.in-Ok.n c.read.new.buffer) c.reads.invariant.given c.in-Ok.ensures.given;
  wrote = Wrote-unless _ _ (c.reads.invariant.input ++ take c.in-Ok.n c.read.new.buffer) _ (c.in-Err-feed.ensures.err _ _ c.reads.invariant.reached);
}

pub returns-in-Err-feed-clause-memory : goal.returns-in-Err-feed-clause-memory
returns-in-Err-feed-clause-memory g c = λ e. record {
  input = c.reads.invariant.input ++ take c.in-Ok.n c.read.new.buffer;
  read = append_more (g.R.ScriptIn.calls c.args.reader.now).given _ _ c.reads.invariant.input (take c.in-Ok.n c.read.new.buffer) c.reads.invariant.given c.in-Ok.ensures.given;
  wrote = Wrote-latest StopsFirst _ _ _ (take c.in-Ok.n c.read.new.buffer) (g.R.ScriptIn.calls c.read.new.self).latest c.in-Ok.ensures.latest
      (Wrote-after _ _ _ c.feed.new.self.session.script _ (c.in-Err-feed.ensures.memory e _ _ c.reads.invariant.reached));
}

pub returns-in-Err-clause-err : goal.returns-in-Err-clause-err
returns-in-Err-clause-err g c = record {
  input = c.reads.invariant.input;
  read = c.in-Err.ensures.given ∙ append-nil (g.R.ScriptIn.calls c.reads.reader).given ∙ c.reads.invariant.given;
  wrote = Wrote-unless _ _ c.reads.invariant.input _ (Wrote-begins _ _ _ 0 (Wrote-same _ _ _ _ _ c.reads.invariant.reached));
}

pub returns-in-Err-clause-read : goal.returns-in-Err-clause-read
returns-in-Err-clause-read g c = λ _. record {
  input = c.reads.invariant.input;
  read = c.in-Err.ensures.given ∙ append-nil (g.R.ScriptIn.calls c.reads.reader).given ∙ c.reads.invariant.given;
  wrote = Wrote-reached _ _ _ _ _ c.reads.invariant.reached;
}

pub returns-then-n-count-clause-left : goal.returns-then-n-count-clause-left
returns-then-n-count-clause-left g c =
    LosesGiven-read c.read.result c.read.new.buffer _ _ _ _ _ (g.R.ScriptIn.calls c.read.new.self).remaining c.reads.invariant.left c.read.ensures.given
    c.read.ensures.left

pub returns-in-Err-feed-clause-left : goal.returns-in-Err-feed-clause-left
returns-in-Err-feed-clause-left g c =
    LosesGiven-read c.read.result c.read.new.buffer _ _ _ _ _ (g.R.ScriptIn.calls c.read.new.self).remaining c.reads.invariant.left c.read.ensures.given
    c.read.ensures.left

pub returns-in-Ok-eq0-clause-held : goal.returns-in-Ok-eq0-clause-held
returns-in-Ok-eq0-clause-held g c =
    GainsTaken-trans _ _ _ _ _ (g.W.ScriptOut.calls c.end.new.writer).held c.reads.invariant.held c.end.ensures.held

pub returns-in-Err-feed-clause-held : goal.returns-in-Err-feed-clause-held
returns-in-Err-feed-clause-held g c =
    GainsTaken-trans _ _ _ _ _ (g.W.ScriptOut.calls c.feed.new.writer).held c.reads.invariant.held c.feed.ensures.held

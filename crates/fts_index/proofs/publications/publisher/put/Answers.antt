use Rattle.std.proofs.Common.{◌≡◌, drop, ap, ◌∙◌}
use Rattle.left_right.specs.Sides.{view}
use Rattle.fts_index.proofs.PublicationsShownLemmas.{is_shown, looks, of_next, of_shown, seat_shown}
use Rattle.fts_index.proofs.publications.publisher.put.Goals as goal
use Rattle.fts_index.proofs.publications.publisher.put.Goals.{in-Ok, in-Err}

pub publish_as-requires : goal.publish_as-requires
publish_as-requires g c next is =
    looks _ _ c.append.new.self.desk.shown.value next
    (of_next c.append.new.self.desk.shown.value next c.args.front (drop c.append.new.self.behind c.append.new.self.log.items)
    (drop c.args.desk.behind c.args.desk.log.items)
    (ap (λ d. d.shown.value.seen.of) c.append.ensures.desk ∙ c.requires) c.in-Ok.ensures.pending is)

pub returns-clause-of : goal.returns-clause-of
returns-clause-of g c =
    let old : c.append.new.self.desk.shown.value.seen.of ≡ c.args.front.seen.of = ap (λ d. d.shown.value.seen.of) c.append.ensures.desk ∙ c.requires in
    elim c.match-append.branch [
      | in-Ok w ↦
          rw w.result-is
          (of_shown _ _ w.publish_as.result.1 w.publish_as.result.0.desk.shown.value c.append.new.self.desk.shown.value c.args.front
          (drop c.append.new.self.behind c.append.new.self.log.items) (drop c.args.desk.behind c.args.desk.log.items) old w.in-Ok.ensures.pending
          w.publish_as.ensures.values)
      | in-Err w ↦ rw w.result-is old
    ]

pub returns-clause-shown : goal.returns-clause-shown
returns-clause-shown g c =
    elim c.match-append.branch [
      | in-Ok w ↦
          rw w.result-is
          (is_shown _ _ w.publish_as.result.1 w.publish_as.result.0.desk.shown.value c.append.new.self.desk.shown.value c.args.front
          (drop c.append.new.self.behind c.append.new.self.log.items) (drop c.args.desk.behind c.args.desk.log.items) w.in-Ok.ensures.pending
          w.publish_as.ensures.values)
      | in-Err w ↦ rw w.result-is tt
    ]

pub returns-clause-seat : goal.returns-clause-seat
returns-clause-seat g c =
    let old : c.append.new.self.desk.shown.value.seen.of ≡ c.args.front.seen.of = ap (λ d. d.shown.value.seen.of) c.append.ensures.desk ∙ c.requires in
    let seat : view c.append.new.self.desk.place ≡ view c.args.desk.desk.place = ap (λ d. view d.place) c.append.ensures.desk in
    elim c.match-append.branch [
      | in-Ok w ↦
          let of =
          of_shown _ _ w.publish_as.result.1 w.publish_as.result.0.desk.shown.value c.append.new.self.desk.shown.value c.args.front
          (drop c.append.new.self.behind c.append.new.self.log.items) (drop c.args.desk.behind c.args.desk.log.items) old w.in-Ok.ensures.pending
          w.publish_as.ensures.values in
          rw w.result-is (seat_shown w.publish_as.result.1 _ _ _ c.append.new.self.desk.shown.value w.publish_as.result.0.desk.shown.value c.args.front.seen.of
          seat of w.publish_as.ensures.rule)
      | in-Err w ↦ rw w.result-is seat
    ]

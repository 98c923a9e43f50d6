-- nothing was called on any of them, and these are all
use Rattle.std.proofs.Common.{◌∙◌}
use Rattle.histories.proofs.ListLemmas.{all_weaker}
use Rattle.pipe_dev.specs.Openings.{IsSeatToGive}
use Rattle.pipe_dev.specs.Ends.{IsWriteSeat}
use Rattle.pipe_dev.proofs.SeatingLemmas.{new_writes, new_one, new_order}
use Rattle.pipe_dev.proofs.end.make_ends.Goals as goal

pub seat_writers-requires-clause-seats : goal.seat_writers-requires-clause-seats
seat_writers-requires-clause-seats c =
    let queue = c.args.queue.now in
    let row = c.args.start.row in
    all_weaker (IsSeatToGive queue row) (IsWriteSeat queue row) (λ seat to_give. to_give.seat_is)
    c.args.start.puts.items c.requires.start.writes

pub returns : goal.returns
returns c =
    let queue = c.args.queue.now in
    let row = c.args.start.row in
    let seats = c.args.start.puts.items in
    let start = c.requires.start in
    let seated = c.seat_writers.ensures.seated in
    record {
      ends = record {
        queue_is = c.new.ensures.queue;
        row_is = c.new.ensures.row;
        unread = c.new.ensures.account ∙ start.unread;
        rest = c.new.ensures.rest ∙ start.rest;
        unwritten = rw seated (new_writes queue row seats start.writes);
        all = record {
          one = rw seated
              (new_one c.new.result queue row seats c.new.ensures.queue c.new.ensures.row);
          order = rw (seated, c.new.ensures.row) (new_order queue row seats ∙ start.order);
        };
      };
    }

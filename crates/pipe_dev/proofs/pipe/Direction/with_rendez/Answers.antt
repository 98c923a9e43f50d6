-- a new queue, its seats and the Rendez
use Rattle.std.proofs.Common.{sym, ap, subst, ◌∙◌, ℕ, arith}
use Rattle.histories.specs.declared.account.Account.{Account}
use Rattle.histories.specs.Account.{numbers_from}
use Rattle.block_queue.specs.declared.entry.Entry.{Entry}
use Rattle.block_queue.specs.declared.view.Key.{Key}
use Rattle.block_queue.specs.Opening.{IsNewPutSeat}
use Rattle.block_queue.specs.Seats.{key_of}
use Rattle.pipe_dev.specs.Ends.{IsRowOf}
use Rattle.pipe_dev.proofs.SeatingLemmas.{reader_knows, all_to_give, writers_in_order}
use Rattle.pipe_dev.proofs.pipe.Direction.with_rendez.Goals as goal

pub returns-clause-start : goal.returns-clause-start
returns-clause-start c =
    let direction = c.requires.direction in
    let queue = c.args.self.queue in
    let row_is : IsRowOf queue c.args.row = record {
      writers = sym (ap (λ (key : Key). key.writers) direction.key_is);
      first = ap (λ (key : Key). key.first) direction.key_is;
    } in
    let seats = direction.puts_are.each in
    let count = direction.puts_are.count_is in
    let room = direction.room in
    record {
      row_is = row_is;
      read = record {
        row_is = row_is;
        seat = direction.take_is;
        knows = rw (direction.account_is, row_is.writers) (reader_knows (key_of queue));
        gave = ap (λ (a : Account Entry). a.gave) direction.account_is;
        some_left = rw direction.rest tt;
      };
      unread = direction.account_is;
      rest = direction.rest;
      writes = all_to_give queue c.args.row 0 c.args.self.puts.items row_is
          (λ place seat there. subst (λ (n : ℕ). IsNewPutSeat queue n seat) (omega arith)
          (seats place seat there));
      order = writers_in_order queue 0 c.args.self.puts.items
          (λ place seat there. subst (λ (n : ℕ). IsNewPutSeat queue n seat) (omega arith)
          (seats place seat there))
          ∙ ap (numbers_from 0) count;
      none = direction.none;
      room = omega (arith, count, room);
    }

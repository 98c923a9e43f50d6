-- all seats of the queue are there, and the ends are made of them again where memory is wanting
use Rattle.std.proofs.Common.{arith, ◌∙◌, ap, sym, subst, length}
use Rattle.std.specs.List.{AllByRecursion}
use Rattle.pipe_dev.specs.Ends.{IsWriteSeat}
use Rattle.pipe_dev.proofs.FinishLemmas.{their_write_seats, their_seats, their_sides, all_seats}
use Rattle.pipe_dev.proofs.FinishLemmas.{gives_held, as_many}
use Rattle.pipe_dev.proofs.closing.finish.Goals as goal

pub gather-requires-clause-puts : goal.gather-requires-clause-puts
gather-requires-clause-puts c =
    let inside = c.read.inside in
    their_seats inside.queue.now inside.row inside.state c.args.read
    c.read.view_is c.read.invariant c.args.writes.items c.requires.all
    c.take_seats.new.puts.items c.take_seats.ensures.seats

pub gather-requires-clause-all : goal.gather-requires-clause-all
gather-requires-clause-all c =
    let inside = c.read.inside in
    all_seats inside.queue.now inside.row inside.state c.args.read
    c.read.view_is c.read.invariant c.args.writes.items c.requires.all
    c.take_seats.new.puts.items c.take_seats.ensures.seats

pub returns-in-Ok-gather-clause-held : goal.returns-in-Ok-gather-clause-held
returns-in-Ok-gather-clause-held c =
    let inside = c.read.inside in
    gives_held inside.queue.now inside.row inside.state c.args.read
    c.read.view_is c.read.invariant c.args.writes.items c.requires.all
    c.take_seats.new.puts.items c.take_seats.ensures.seats
    c.in-Ok-gather.field-0 c.of.result c.in-Ok-gather.ensures.gathered
    (c.of.ensures ∙ c.in-Ok.ensures)

pub seat_writers-requires-clause-seats : goal.seat_writers-requires-clause-seats
seat_writers-requires-clause-seats c =
    let inside = c.read.inside in
    subst (AllByRecursion (IsWriteSeat inside.queue.now inside.row))
    (sym (ap (λ puts. puts.items) c.in-Err.ensures.puts))
    (their_write_seats inside.queue.now inside.row inside.state c.args.read
    c.read.view_is c.read.invariant c.args.writes.items c.requires.all
    c.take_seats.new.puts.items c.take_seats.ensures.seats)

pub seat_writers-requires-clause-room : goal.seat_writers-requires-clause-room
seat_writers-requires-clause-room c =
    let many =
    as_many c.args.writes.items c.take_seats.new.puts.items
    c.take_seats.ensures.seats in
    let same = ap (λ puts. length puts.items) c.in-Err.ensures.puts in
    let room = c.take_seats.ensures.room in
    omega (arith, many, same, room)

pub returns-clause-writes : goal.returns-clause-writes
returns-clause-writes c =
    let inside = c.read.inside in
    their_sides inside.queue.now inside.row inside.state c.args.read
    c.read.view_is c.read.invariant c.args.writes.items c.requires.all
    c.take_seats.new.puts.items c.take_seats.ensures.seats
    c.seat_writers.result.items c.in-Err.field-0.puts.items
    (ap (λ puts. puts.items) c.in-Err.ensures.puts) c.seat_writers.ensures.seated

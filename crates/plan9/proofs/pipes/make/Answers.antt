-- one pipe more, whose Rendez are used up; and at last as many as were asked for
use Rattle.std.proofs.Common.{◌≡◌, ℕ, ap, arith, rules, ◌∙◌}
use Rattle.sleep_wakeup.specs.Kernel.{rendez_less}
use Rattle.pipe_dev.specs.Openings.{rendez_for}
use Rattle.plan9.specs.Pipes.{rendez_for_all, size}
use Rattle.plan9.proofs.PipesLemmas.{behind_others, one_more_used, starts_of}
use Rattle.plan9.proofs.pipes.make.Goals as goal

pub making-preserved : goal.making-preserved
making-preserved c =
    let kind = size c.args.mode c.args.limit c.args.writers in
    let made = c.making.invariant in
    record {
      pipes = search rules;
      starts = search rules;
      limit = search rules;
      pipes_room = search rules;
      starts_room = search rules;
      no_ends = made.no_ends;
      ends_room = made.ends_room;
      roster = c.in-Ok-make_one.ensures.given
          ∙ ap (rendez_less (rendez_for c.args.writers)) made.roster
          ∙ one_more_used c.making.counter kind c.args.roster.now;
      new = behind_others kind c.args.roster.now c.making.roster c.making.counter
          c.making.opened.pipes.pipes.items c.making.opened.start.starts.items
          c.in-Ok-make_one.next.pipe c.in-Ok-make_one.next.start
          c.push_reserved.new.self.items c.push_reserved-in-making.new.self.items
          made.pipes made.roster made.new c.in-Ok-make_one.ensures.opened
          c.push_reserved.ensures.items c.push_reserved-in-making.ensures.items;
    }

pub returns-clause-opened : goal.returns-clause-opened
returns-clause-opened c =
    let kind = size c.args.mode c.args.limit c.args.writers in
    let made = c.making.invariant in
    let all : c.making.counter ≡ c.args.count = search rules in
    record {
      may = c.requires.may;
      count_is = made.pipes ∙ all;
      new = made.new;
      start_is = record {
        each = starts_of kind c.args.roster.now.words c.args.roster.now.rendez
            c.making.opened.pipes.pipes.items c.making.opened.start.starts.items made.new;
        none = made.no_ends;
        room = let starts = made.starts in let room = made.ends_room in
            omega (arith, all, starts, room);
      };
      given = made.roster
          ∙ ap (λ (n : ℕ). rendez_less (rendez_for_all n kind) c.args.roster.now) all;
    }

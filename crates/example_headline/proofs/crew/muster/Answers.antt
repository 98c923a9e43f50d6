-- all ends were given to writers, which have written nothing yet
use Rattle.std.proofs.Common.{◌≡◌, ◌+◌, ◌++◌, [], List, ℕ, ◌∙◌, ap, refl, subst, sym, rules, length}
use Rattle.std.proofs.Common.{map, arith, Some}
use Rattle.std.proofs.lemmas.Grind.{common_steps}
use Rattle.std.specs.Prelude.{vec_items}
use Rattle.std.specs.List.{AllByRecursion}
use Rattle.std.specs.Vec.Iter.{into_iter_items}
use Rattle.std.proofs.lemmas.List.{append-nil}
use Rattle.pipe_dev.specs.Ends.{WriteSide}
use Rattle.pipe_dev.specs.Rendezes.{OwnsRow}
use Rattle.sleep_wakeup.specs.Kernel.{Running}
use Rattle.example_headline.specs.declared.writer.Writer.{Writer}
use Rattle.example_headline.specs.Crew.{AreEnds, HasMadeNone, HasRoom, HaveWoken, ends_of}
use Rattle.example_headline.specs.Crew.{messages_of}
use Rattle.example_headline.proofs.HeadlineLemmas.{all_and_one, all_clear, all_count}
use Rattle.example_headline.proofs.HeadlineLemmas.{as_many_writers, child_of_kernel}
use Rattle.example_headline.proofs.HeadlineLemmas.{none_is_clear, nothing_left, one_pid_gone}
use Rattle.example_headline.proofs.MineLemmas.{of_mine_weaker}
use Rattle.example_headline.proofs.crew.muster.Goals as goal

pub returns : goal.returns
returns c =
    let none : length (into_iter_items c.mustering.end-iterator) ≡ 0 = search rules in
    let ended : into_iter_items c.mustering.end-iterator ≡ []
    = nothing_left (into_iter_items c.mustering.end-iterator) none in
    let no_lists : into_iter_items c.mustering.lists ≡ []
    = nothing_left (into_iter_items c.mustering.lists)
    (c.mustering.invariant.as_many ∙ none) in
    let all : ends_of c.mustering.writers.items ≡ c.args.writes.items
    = sym (append-nil (ends_of c.mustering.writers.items))
    ∙ (ap (λ (xs : List WriteSide). ends_of c.mustering.writers.items ++ xs) (sym ended)
    ∙ c.mustering.invariant.given) in
    record {
      fault = tt;
      ready = record {
        ends = subst (AreEnds c.args.read) (sym all) c.requires.fresh.ends;
        keeps = record {
          got = record {
            mode = c.requires.fresh.mode;
            parts = [];
            just = c.requires.fresh.unused.read_none;
            bytes = search rules;
          };
          kernel = subst (λ (proc : Running). OwnsRow proc.words c.args.read.row)
              (sym c.mustering.invariant.parent) c.requires.kernel;
          woken = of_mine_weaker 0 c.args.read.account (λ mine. mine ≡ [])
              (HaveWoken c.mustering.parent.process.trace c.args.read.row)
              (λ mine none. subst (HaveWoken c.mustering.parent.process.trace c.args.read.row)
              (sym none) tt) c.requires.fresh.reader;
        };
        counts = all_count c.args.reader.words c.args.read c.args.writes.items
            c.mustering.writers.items c.requires.fresh c.requires.kernel all
            c.mustering.invariant.none c.mustering.invariant.kernel;
        room = subst (λ (n : ℕ). HasRoom n c.in_ok-room.room)
            (as_many_writers c.mustering.writers.items c.args.writes.items all) (search rules);
      };
      clear = record {
        reader = record {
          clear = λ mode owns. none_is_clear 0 c.args.read.account c.requires.fresh.reader;
        };
        writers = all_clear c.mustering.writers.items
            (subst (AllByRecursion (λ (write : WriteSide).
            HasMadeNone (write.writer + 1) write.account)) (sym all) c.requires.fresh.writers);
      };
      read = record { same = refl };
      given = sym (append-nil (messages_of c.mustering.writers.items))
          ∙ (ap (λ (xs : List (List (List ℕ))). messages_of c.mustering.writers.items ++ xs)
          (sym (ap (λ lists. map vec_items lists) no_lists))
          ∙ c.mustering.invariant.lists);
    }

pub mustering-preserved : goal.mustering-preserved
mustering-preserved c =
    let child : c.in_ok-child.child ≡ Some c.in-Some-Some.proc = search rules in
    let one : c.rfork.new.self.pids.next ≡ c.mustering.roster.pids.next + 1
    = one_pid_gone _ c.mustering.roster c.rfork.new.self _ c.in_ok-child.child
    c.in-Some-Some.proc child c.in_ok-child.ensures.forked in
    let words : c.in-Some-Some.proc.words ≡ c.args.reader.words
    = child_of_kernel _ c.mustering.roster c.rfork.new.self _ c.in_ok-child.child
    c.in-Some-Some.proc child c.in_ok-child.ensures.forked ∙ c.mustering.invariant.roster in
    let fewer : length (into_iter_items c.mustering.end-iterator)
    ≡ length (into_iter_items c.next.new.self) + 1 = search rules in
    let before = c.mustering.invariant.pids in
    record {
      given = grind (arith, common_steps);
      none = grind (arith, common_steps);
      roster = search rules;
      parent = search rules;
      kernel = subst (λ (writers : List Writer).
          AllByRecursion (λ writer. writer.proc.words ≡ c.args.reader.words) writers)
          (sym c.push_reserved.ensures.items)
          (all_and_one (λ (writer : Writer). writer.proc.words ≡ c.args.reader.words)
          c.mustering.writers.items _ c.mustering.invariant.kernel words);
      lists = grind (arith, common_steps);
      as_many = search rules;
      pids = omega (arith, one, fewer, before);
      room = search rules;
    }

-- What is told of a refusal stays told when the seat hangs up, and its wakeups have returned.
use Rattle.std.proofs.Common.{ℕ, List, [], ◌∷◌, refl}
use Rattle.histories.specs.declared.account.Account.{Account}
use Rattle.histories.specs.History.{IsPast}
use Rattle.sync_base.specs.declared.fault.Fault.{Fault}
use Rattle.sync_base.specs.declared.fault.Fault.TheVariants as fault
use Rattle.sleep_core.specs.declared.answer.Answer.TheVariants as answer
use Rattle.sleep_core.specs.Runs as core
use Rattle.sleep_core.specs.Table.{ending_of}
use Rattle.rendez_words.specs.Process.{Process}
use Rattle.block_queue.specs.declared.entry.Entry.{Entry}
use Rattle.block_queue.specs.declared.entry.Entry.TheVariants.{Hung}
use Rattle.block_queue.specs.declared.view.Key.{Key}
use Rattle.block_queue.specs.Meaning.{Enters}
use Rattle.pipe_dev.specs.declared.row.Row.{Row}
use Rattle.pipe_dev.specs.Rendezes.{WakesAll}
use Rattle.pipe_dev.specs.WriteCalls.{HasHang}
use Rattle.example_headline.specs.Crew.{HaveWoken, OfMine}
use Rattle.example_headline.specs.Refusals.{HangsUpLast, TellsWhyRefused, TellsWhyStopped}
use Rattle.example_headline.proofs.MineLemmas.{of_mine_more}
use Rattle.example_headline.proofs.WakeLemmas.{all_more, all_returned, answered_still, woken_still}

module _ (seat : ℕ) (mine : List Entry) (old new : List core.Entry) (past : IsPast old new) where
  -- a hangup leaves it so that a reader tells why it stopped
  pub stops_still : (why : Fault) → TellsWhyStopped why mine old
      → TellsWhyStopped why (Hung seat ∷ mine) new
  stops_still fault.Memory tells = tells
  stops_still (fault.Interrupted notes) tells =
      (tells.0, (tells.1.0, answered_still (ending_of notes) old new past tells.1.1))
  stops_still fault.DoubleSleep tells =
      (tells.0, answered_still answer.DoubleSleep old new past tells.1)
  stops_still other tells = absurd tells

  -- and of a writer
  pub refused_still : (writer : ℕ) (block : List ℕ) (why : Fault)
      → TellsWhyRefused why writer block mine old
      → TellsWhyRefused why writer block (Hung seat ∷ mine) new
  refused_still writer block fault.TooBig tells = tells
  refused_still writer block fault.Memory tells = tells
  refused_still writer block fault.Hungup tells = tells
  refused_still writer block fault.Worn tells = tells
  refused_still writer block (fault.Interrupted notes) tells =
      (tells.0, (tells.1.0, answered_still (ending_of notes) old new past tells.1.1))
  refused_still writer block fault.DoubleSleep tells =
      (tells.0, answered_still answer.DoubleSleep old new past tells.1)
  refused_still writer block other tells = absurd tells

-- a seat that has hung nothing up has asked for nothing after a hangup of it
pub quiet_is_last : (mine : List Entry) → ¬ HasHang mine → HangsUpLast mine
quiet_is_last [] quiet = tt
quiet_is_last (Hung seat ∷ past) quiet = absurd (quiet tt)
quiet_is_last (entry ∷ past) quiet = quiet

-- whoever hung up has woken everybody
pub hung_woken : (key : Key) (row : Row) (number : ℕ) (old new : Account Entry)
    (before after : Process) → Enters key (Hung number) old new → WakesAll row before after
    → OfMine number (HaveWoken before.trace row) old
    → OfMine number (HaveWoken after.trace row) new
hung_woken key row number old new before after enters wakes woken =
    of_mine_more key (Hung number) number old new (HaveWoken before.trace row)
    (HaveWoken after.trace row) enters refl
    (λ mine all. (
      all_returned row before after number wakes,
      woken_still before.trace after.trace row (all_more row before after wakes) mine all,
    )) woken

-- What an entry of one seat leaves of what the others know: all of it.
use Rattle.std.proofs.Common.{◌≡◌, ◌≢◌, ℕ, ◌+◌, ◌<◌, ◌≤◌, Bool, List, [], ◌∷◌, length, refl, sym}
use Rattle.std.proofs.Common.{ap, ◌∙◌, arith, length-append, Some, None}
use Rattle.std.specs.Prelude.{slice_get}
use native.Mathlib.Decide.{ℕ_discrete}
use mathlib.Core.Logic.{dite}
use Rattle.std.proofs.lemmas.Option.{slice_get_within}
use Rattle.histories.specs.declared.account.Share.{Share}
use Rattle.histories.specs.Ledger.{Ledger, IsOwned, FitsLedger}
use Rattle.histories.proofs.ListLemmas.{all_both}
use Rattle.histories.proofs.SeatsKeep.{number_is_owned}
use Rattle.sync_base.specs.Write.{Write}
use Rattle.block_queue.specs.declared.entry.Entry.{Entry}
use Rattle.block_queue.specs.declared.entry.Entry.TheVariants.{Taken, Stood, Block, Hung}
use Rattle.block_queue.specs.declared.view.Stage.{Stage}
use Rattle.block_queue.specs.declared.view.Stage.TheVariants.{Free, Counted, Placed, Storing}
use Rattle.block_queue.specs.declared.view.Stage.TheVariants.{Looking, Moving}
use Rattle.block_queue.specs.declared.view.View.{View}
use Rattle.block_queue.specs.History.{QueueState, seat_of, after_entry, with_put}
use Rattle.block_queue.specs.Places.{IsUnstored}
use Rattle.block_queue.specs.Rule.{FitsStage, FitsView, put_at}
use Rattle.block_queue.proofs.WordMoves.{slice_get_snoc, put_else, put_here, same_some}

-- what an entry by this number does to the state, as far as other seats rely on it
pub record Grows (first : ℕ) (s s' : QueueState) (number : ℕ) : Type 0 where
  -- the puts by all other numbers are as they were
  pub puts : (n : ℕ) → n ≢ number → s'.putting n ≡ s.putting n
  -- no accepted write is lost
  pub longer : length s.pipe.accepted ≤ length s'.pipe.accepted
  -- each accepted write stays where it was
  pub kept : (c : ℕ) (write : Write) → slice_get s.pipe.accepted c ≡ Some write →
      slice_get s'.pipe.accepted c ≡ Some write
  -- a write that was stored stays stored
  pub stored : (c : ℕ) (write : Write) → slice_get s.pipe.accepted c ≡ Some write →
      IsUnstored first s' write c → IsUnstored first s write c
  -- the reader takes none back
  pub begun : s.pipe.read_whole ≤ s'.pipe.read_whole
  -- the reader does not go past a write that is not stored
  pub passed : (c : ℕ) (write : Write) → slice_get s.pipe.accepted c ≡ Some write →
      IsUnstored first s write c → s.pipe.read_whole ≤ c → s'.pipe.read_whole ≤ c
  -- by a number other than the reader's nothing is read
  pub reader : number ≢ 0 → s'.pipe.read_whole ≡ s.pipe.read_whole

module _ (limit first : ℕ) (s s' : QueueState) (out out' : Bool) (ledger :
    Ledger Entry) (number seat : ℕ) (view : View) (grows : Grows first s s' number) (still :
    number ≢ 0 → out' ≡ out) (other : seat ≢ ledger.owner number) (owns :
    FitsLedger seat_of ledger seat view.account) (fits :
    FitsView limit first s out (ledger.owner 0) seat view) where
  not_its : (n : ℕ) → IsOwned ledger seat n → n ≢ number
  not_its n owned same = other (sym owned.owner_is ∙ ap ledger.owner same)

  not_reader : ledger.owner 0 ≡ seat → number ≢ 0
  not_reader reader same = other (sym reader ∙ ap ledger.owner (sym same))

  stage_fits : (stage : Stage) → FitsStage limit first s view.account.shares (ledger.owner 0) seat
      stage → FitsStage limit first s' view.account.shares (ledger.owner 0) seat stage
  stage_fits Free fits = tt
  stage_fits (Counted count) fits = let longer = grows.longer in let accepted =
      fits.accepted in record { accepted = omega arith; given = fits.given }
  stage_fits (Placed count) fits =
      let longer = grows.longer in
      let accepted = fits.counted.accepted in
      let room = fits.room in
      let begun = grows.begun in
      record {
        counted = record { accepted = omega arith; given = fits.counted.given };
        room =
            omega arith;
      }
  stage_fits (Storing count writer block) fits =
      let write : Write = record { writer = writer; bytes = block } in
      let owned = number_is_owned seat_of ledger seat (writer + 1) view.account owns fits.own in
      record {
        not_begun = grows.passed count write fits.write_is fits.unstored fits.not_begun;
        write_is = grows.kept count write fits.write_is;
        unstored = grows.puts (writer + 1) (not_its (writer + 1) owned) ∙ fits.unstored;
        own = fits.own;
      }
  stage_fits (Looking found) fits =
      let read = grows.reader (not_reader fits.reader_is) in
      let longer = grows.longer in
      record { reader_is = fits.reader_is; left = λ yes. let left = fits.left yes in omega arith }
  stage_fits (Moving writer block) fits =
      let write : Write = record { writer = writer; bytes = block } in
      let read : s'.pipe.read_whole ≡ s.pipe.read_whole =
      grows.reader (not_reader fits.reader_is) in
      record {
        reader_is = fits.reader_is;
        write_is = ap (slice_get s'.pipe.accepted) read ∙
            grows.kept s.pipe.read_whole write fits.write_is;
        stored = λ unstored. fits.stored (grows.stored s.pipe.read_whole write fits.write_is
            (unstored ∙ ap (λ (n : ℕ). Some (first + n + 1)) read));
      }

  -- what another seat knows fits the state after the entry as it did before
  pub others_fit : FitsView limit first s' out' (ledger.owner 0) seat view
  others_fit =
      record {
        puts = all_both (λ (share : Share Entry). IsOwned ledger seat share.number)
            (λ share. s.putting share.number ≡ put_at first view.stage share.number)
            (λ share. s'.putting share.number ≡ put_at first view.stage share.number)
            (λ share owned put. grows.puts share.number (not_its share.number owned) ∙
            put) view.account.shares owns.owned fits.puts;
        reader_knows = λ reader.
            let knows = fits.reader_knows reader in
            record {
              taken = knows.taken ∙ sym (grows.reader (not_reader reader));
              out_is =
                  still (not_reader reader) ∙ knows.out_is;
            };
        stage = stage_fits view.stage fits.stage;
      }

-- ---- each entry

-- an entry that changes nothing takes nothing from other seats
pub same_grows : (first : ℕ) (s : QueueState) (number : ℕ) → Grows first s s number
same_grows first s number =
    record {
      puts = λ n other. refl;
      longer = omega arith;
      kept = λ c write at. at;
      stored = λ c write at unstored. unstored;
      begun = omega arith;
      passed = λ c write at unstored low. low;
      reader = λ other. refl;
    }

-- nor does a hangup
pub hung_grows : (first : ℕ) (s : QueueState) (seat : ℕ) →
    Grows first s (after_entry s (Hung seat)) seat
hung_grows first s seat =
    record {
      puts = λ n other. refl;
      longer = omega arith;
      kept = λ c write at. at;
      stored = λ c write at unstored. unstored;
      begun = omega arith;
      passed = λ c write at unstored low. low;
      reader = λ other. refl;
    }

-- nor does the entry that a writer's write stands
pub stood_grows : (first : ℕ) (s : QueueState) (writer number : ℕ) →
    Grows first s (after_entry s (Stood writer number)) (writer + 1)
stood_grows first s writer number =
    record {
      puts = λ n other. put_else (writer + 1) n None s.putting other;
      longer = omega arith;
      kept = λ c write at. at;
      stored = λ c write at unstored. dite (ℕ_discrete (write.writer + 1) (writer + 1))
          (λ same. let none_is : None ≡ Some (first + c + 1) =
          sym (put_here (writer + 1) None s.putting) ∙
          ap (with_put (writer + 1) None s.putting) (sym same) ∙ unstored in cc)
          (λ other. sym (put_else (writer + 1) (write.writer + 1) None s.putting other) ∙ unstored);
      begun = omega arith;
      passed = λ c write at unstored low. low;
      reader = λ other. refl;
    }

-- nor does the entry that a writer's write was accepted
pub taken_grows : (first : ℕ) (s : QueueState) (writer : ℕ) (block : List ℕ) →
    Grows first s (after_entry s (Taken writer block (first + length s.pipe.accepted + 1)))
    (writer + 1)
taken_grows first s writer block =
    record {
      puts = λ n other. put_else (writer + 1) n (Some (first + last + 1)) s.putting other;
      longer = omega (arith, length-append s.pipe.accepted (write ∷ []));
      kept = λ c other at. slice_get_snoc s.pipe.accepted write c
          (slice_get_within s.pipe.accepted c other at) ∙ at;
      stored = λ c other at unstored. dite (ℕ_discrete (other.writer + 1) (writer + 1))
          (λ same.
          let new : Some (first + last + 1) ≡ Some (first + c + 1) =
          sym (put_here (writer + 1) (Some (first + last + 1)) s.putting) ∙
          ap (with_put (writer + 1) (Some (first + last + 1)) s.putting) (sym same) ∙
          unstored in
          let number : first + last + 1 ≡ first + c + 1 =
          same_some (first + last + 1) (first + c + 1) new in
          let below : c < last = slice_get_within s.pipe.accepted c other at in
          absurd (omega arith))
          (λ apart. sym (put_else (writer + 1) (other.writer +
          1) (Some (first + last + 1)) s.putting apart) ∙ unstored);
      begun = omega arith;
      passed = λ c write at unstored low. low;
      reader = λ other. refl;
    }
  where
    last : ℕ
    last = length s.pipe.accepted

    write : Write
    write = record { writer = writer; bytes = block }

-- nor does the entry of a block that was read, where it was stored
pub block_grows : (first : ℕ) (s : QueueState) (write : Write) (number : ℕ) →
    slice_get s.pipe.accepted s.pipe.read_whole ≡ Some write →
    (IsUnstored first s write s.pipe.read_whole → ⊥)
    → Grows first s (after_entry s (Block write.writer write.bytes number)) 0
block_grows first s write number at stored =
    record {
      puts = λ n other. refl;
      longer = omega arith;
      kept = λ c other there. there;
      stored = λ c other there unstored. unstored;
      begun = omega arith;
      passed = λ c other there unstored low. dite (ℕ_discrete c s.pipe.read_whole)
          (λ same.
          let is : other ≡ write =
          same_some other write (sym there ∙ ap (slice_get s.pipe.accepted) same ∙ at) in
          absurd (stored (ap (λ (w : Write). s.putting (w.writer + 1)) (sym is) ∙ unstored ∙
          ap (λ (n : ℕ). Some (first + n + 1)) same)))
          (λ apart. omega arith);
      reader = λ other. absurd (other refl);
    }

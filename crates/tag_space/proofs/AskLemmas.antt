-- What a member knows once its request was served: the reply is one that a tag space gives, and
-- others left what the history said of the member.
use Rattle.std.proofs.Common.{◌≡◌, ℕ, ◌<◌, List, [], ◌∷◌, sym, ap, subst}
use Rattle.histories.specs.Account.{KnowsHistory}
use Rattle.histories.specs.Changes.{LooksAt}
use Rattle.histories.specs.History.{IsLegal}
use Rattle.histories.specs.declared.account.Account.{Account}
use Rattle.histories.proofs.AccountLemmas.{number_has}
use Rattle.kernel_lock.specs.Definition.{meaning_of, server}
use Rattle.kernel_lock.specs.Seats as seats
use Rattle.kernel_lock.specs.Seats.{SeesHistory}
use Rattle.kernel_lock.specs.declared.lock_seat.LockSeat.{LockSeat}
use Rattle.tag_space.specs.declared.calls.GroupCall.{GroupCall}
use Rattle.tag_space.specs.declared.calls.GroupReply.{GroupReply}
use Rattle.tag_space.specs.declared.member.Member.{Member}
use Rattle.tag_space.specs.declared.place.Place.{Place}
use Rattle.tag_space.specs.declared.space.TagSpace.{TagSpace}
use Rattle.tag_space.specs.Asking.{Requests}
use Rattle.tag_space.specs.GroupObject.{group, member_of}
use Rattle.tag_space.specs.Members.{space_of, account_of, number_of, seen_of, IsOneOf}
use Rattle.tag_space.specs.Rendezvous.{Entry, Space, rendezvous, IsAnswered}
use Rattle.tag_space.proofs.OtherLemmas.{StandsStill, stands_still, none_by}
use Rattle.tag_space.proofs.PromiseLemmas.{is_right}
use Rattle.tag_space.proofs.SpaceLemmas.{objects_are_spaces}

-- what a seat of the lock has seen is a history of the space
pub knows_space : (space : TagSpace) (seat : LockSeat (List Place) GroupCall GroupReply)
    → SeesHistory group space.lock seat
    → KnowsHistory (rendezvous (space_of space)) [] space.procs
    (seats.account_of seat)
knows_space space seat sees =
    let seen = seats.seen_of seat in
    record {
      history = record {
        legal = objects_are_spaces (space_of space) seen
            (subst (λ s. IsLegal (meaning_of group) s seen)
            space.opened sees.history.legal);
        within = rw (← space.limited) sees.history.within;
      };
      mine = sees.mine;
      different = sees.different;
      numbers = rw (← space.limited) sees.numbers;
      gave = rw (← space.limited) sees.gave;
    }

-- a member is below the number of members
pub is_below : (space : TagSpace) (member : Member) → IsOneOf space member
    → number_of member < space.procs
is_below space member one =
    number_has (λ number. number < space.procs) (number_of member) (account_of member).shares
    one.history.numbers one.seat.own

-- a member's own request with its reply
abbrev pub entry_of : GroupCall → GroupReply → Entry
entry_of call told = record { by = member_of call; request = call; reply = told }

-- a request of the member, with what it had seen before and what it has seen since
pub record Served (space : Space) (member : ℕ) (call : GroupCall) (told : GroupReply)
    (before after : List Entry) : Type 0 where
  -- it stands after this past
  pub past : List Entry
  -- and is the newest that the member has seen
  pub seen_is : after ≡ entry_of call told ∷ past
  -- it ends a history of the space
  pub legal : IsLegal (rendezvous space) [] (entry_of call told ∷ past)
  -- so it is answered as its past asks
  pub answered : IsAnswered space past call told
  -- which says of the member what it knew
  pub still : StandsStill member before past

-- each request of a member is served so
pub served : (space : TagSpace) (before after : Member) → IsOneOf space before → (number : ℕ)
    → number_of before ≡ number → (call : ℕ → GroupCall) (told : GroupReply)
    → Requests space (call (number_of before)) told before after
    → Served (space_of space) number (call number) told (seen_of before) (seen_of after)
served space before after one number is_number call told is =
    subst (λ n. Served (space_of space) n (call n) told (seen_of before) (seen_of after)) is_number
    (record {
      past = is.entered.past;
      seen_is = seen_is;
      legal = legal;
      answered = (is_right (space_of space) is.entered.past _ legal).answered;
      still = subst (StandsStill (number_of before) (seen_of before)) (sym looked.history_is)
          (stands_still (space_of space) (number_of before) looked.since (seen_of before)
          (subst (IsLegal (rendezvous (space_of space)) []) looked.history_is legal.1)
          (none_by (number_of before) (account_of before).shares looked.since one.seat.own
          looked.by_others));
    })
  where
    looked : LooksAt server is.entered.past (account_of before)
    looked = is.entered.looked

    seen_is : seen_of after ≡ entry_of (call (number_of before)) told ∷ is.entered.past
    seen_is = ap (λ (a : Account Entry). a.seen) is.entered.new_is

    legal : IsLegal (rendezvous (space_of space)) []
        (entry_of (call (number_of before)) told ∷ is.entered.past)
    legal = subst (IsLegal (rendezvous (space_of space)) []) seen_is is.one.history.history.legal

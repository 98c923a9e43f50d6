-- The state that a plain pipe shows, read off what it keeps.
use Rattle.std.proofs.Common.{◌≡◌, ℕ, ◌+◌, ◌-◌, ◌<◌, ◌≤◌, length, drop, get_or, refl, ◌∙◌, sym, ap}
use Rattle.std.proofs.Common.{subst, arith, length-drop, Some, unwrap_or}
use Rattle.std.specs.Option.{option_map}
use Rattle.std.proofs.lemmas.Option.{slice_get_read}
use Rattle.std.proofs.lemmas.List.{get_or-drop, drop-drop}
use Rattle.std.proofs.lemmas.Bool.Decides.{nat_tests}
use Rattle.sync_base.specs.Write.{Write}
use Rattle.sync_base.specs.Pipe.{PipeState, next_write, after_message, after_piece}
use Rattle.sync_base.specs.PlainPipe.{Contents, Shows}

-- the first write kept is the one that is read next
pub next_write_kept : (kept : Contents) (s : PipeState) (first : Write) → Shows kept s
    → 0 < length kept.unread → first ≡ get_or kept.unread 0 first → next_write s ≡ Some first
next_write_kept kept s first shows some is_first =
    let left : length kept.unread ≡ length s.accepted - s.read_whole =
    rw shows.unread (length-drop s.read_whole s.accepted) in
    let within : s.read_whole < length s.accepted = omega arith in
    slice_get_read s.accepted _ s.read_whole first refl within
    (is_first
    ∙ (ap (λ l. get_or l 0 first) shows.unread
    ∙ (get_or-drop s.read_whole s.accepted 0 first
    ∙ ap (λ i. get_or s.accepted i first) (omega arith))))

-- the position after a write that is used up
pub after_piece_used_up : (s : PipeState) (most : ℕ) (first : Write)
    → length first.bytes - s.offset ≤ most
    → after_piece most s first ≡ record s { read_whole = s.read_whole + 1; offset = 0 }
after_piece_used_up s most first used_up = grind (arith, nat_tests)

-- a write that is used up leaves, and the next read begins after it
pub shows_used_up : (kept : Contents) (s : PipeState) (most : ℕ) (first : Write) → Shows kept s
    → 0 < length kept.unread → first ≡ get_or kept.unread 0 first
    → length first.bytes - kept.offset ≤ most
    → Shows (record kept { unread = drop 1 kept.unread; offset = 0 }) (after_message most s)
shows_used_up kept s most first shows some is_first used_up =
    let next = next_write_kept kept s first shows some is_first in
    let left : length kept.unread ≡ length s.accepted - s.read_whole =
    rw shows.unread (length-drop s.read_whole s.accepted) in
    let enough : length first.bytes - s.offset ≤ most = rw (← shows.offset) used_up in
    let after : after_message most s ≡ record s { read_whole = s.read_whole + 1; offset = 0 } =
    ap (λ w. unwrap_or (option_map (after_piece most s) w) s) next
    ∙ after_piece_used_up s most first enough in
    subst (Shows (record kept { unread = drop 1 kept.unread; offset = 0 })) (sym after)
    (record {
      limit = shows.limit;
      mode = shows.mode;
      unread = ap (drop 1) shows.unread ∙ drop-drop 1 s.read_whole s.accepted;
      offset = refl;
      hung = shows.hung;
      position = omega arith;
    })

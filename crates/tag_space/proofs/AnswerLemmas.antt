-- After a history of a tag space each call has one answer.
use Rattle.std.proofs.Common.{◌≡◌, ℕ, ◌+◌, List, sym, ap, ◌∙◌, arith}
use Rattle.sync_base.specs.declared.ids.Tag.{Tag}
use Rattle.tag_space.specs.declared.calls.GroupCall.{GroupCall}
use Rattle.tag_space.specs.declared.calls.GroupCall.TheVariants.{Call, Collect, Leave}
use Rattle.tag_space.specs.declared.calls.GroupReply.{GroupReply}
use Rattle.tag_space.specs.declared.calls.GroupReply.TheVariants.{Met, WasMet, Wait, Worn, Gone}
use Rattle.tag_space.specs.declared.calls.GroupReply.TheVariants.{Busy}
use Rattle.tag_space.specs.Rendezvous.{Entry, Space, Offer, Pair, stage_of, IsAnswered, IsMet}
use Rattle.tag_space.specs.Rendezvous.{Finds, count_of}
use Rattle.tag_space.specs.Rendezvous.Stage.{Waits, Paired}
use Rattle.tag_space.specs.Promises.{WaitApart}

module _ (space : Space) (past : List Entry) (apart : WaitApart past) where
  -- two calls with one tag find one call
  one_found : (tag g h m n i j : ℕ)
      → Finds space past tag (record { given = g; other = m; count = i })
      → Finds space past tag (record { given = h; other = n; count = j }) → Met g m i ≡ Met h n j
  one_found tag g h m n i j first second =
      let same : m ≡ n = apart m n first.offer second.offer first.waits second.waits (first.tag_is ∙
      sym second.tag_is) in
      let stages : Waits first.offer ≡ Waits second.offer = sym first.waits ∙
      (ap (stage_of past) same ∙ second.waits) in
      let offers : first.offer ≡ second.offer = cc in
      let given : g ≡ h = first.given_is ∙
      (ap (λ (offer : Offer). offer.value) offers ∙ sym second.given_is) in
      let count : i ≡ j = first.count_is ∙
      (ap (λ k. count_of space past k + 1) same ∙ sym second.count_is) in
      cc

  -- a call was found by one
  one_told : (member g h : ℕ) → IsMet past member g → IsMet past member h → WasMet g ≡ WasMet h
  one_told member g h first second =
      let stages : Paired first.pair ≡ Paired second.pair = sym first.paired ∙ second.paired in
      let pairs : first.pair ≡ second.pair = cc in
      let given : g ≡ h = first.given_is ∙
      (ap (λ (pair : Pair). pair.finding.value) pairs ∙ sym second.given_is) in
      cc

  one_call : (member : ℕ) (tag : Tag) (value : ℕ) (first second : GroupReply) →
      IsAnswered space past (Call member tag value) first →
      IsAnswered space past (Call member tag value) second → first ≡ second
  one_call member tag value (Met g m i) (Met h n j) a b = one_found tag.0 g h m n i j a.1 b.1
  one_call member tag value (Met g m i) (Wait j) a b = absurd (b.1 m a.1.offer a.1.waits a.1.tag_is)
  one_call member tag value (Met g m i) Worn a b = absurd (b.1 m a.1.offer a.1.waits a.1.tag_is)
  one_call member tag value (Met g m i) Busy a b = absurd (b a.0)
  one_call member tag value (Wait i) (Met h n j) a b = absurd (a.1 n b.1.offer b.1.waits b.1.tag_is)
  one_call member tag value (Wait i) (Wait j) a b = ap (λ k. Wait k) (a.2 ∙ sym b.2)
  one_call member tag value (Wait i) Worn a b = absurd (a.3 (a.2 ∙ b.2))
  one_call member tag value (Wait i) Busy a b = absurd (b a.0)
  one_call member tag value Worn (Met h n j) a b = absurd (a.1 n b.1.offer b.1.waits b.1.tag_is)
  one_call member tag value Worn (Wait j) a b = absurd (b.3 (b.2 ∙ a.2))
  one_call member tag value Worn Busy a b = absurd (b a.0)
  one_call member tag value Busy (Met h n j) a b = absurd (a b.0)
  one_call member tag value Busy (Wait j) a b = absurd (a b.0)
  one_call member tag value Busy Worn a b = absurd (a b.0)
  one_call member tag value first second a b = first_of (cc, grind arith)

  one_collect : (member : ℕ) (first second : GroupReply) →
      IsAnswered space past (Collect member) first → IsAnswered space past (Collect member) second →
      first ≡ second
  one_collect member (WasMet g) (WasMet h) a b = one_told member g h a.1 b.1
  one_collect member (WasMet g) (Wait j) a b = absurd (b.0.none a.1.pair a.1.paired)
  one_collect member (Wait i) (WasMet h) a b = absurd (a.0.none b.1.pair b.1.paired)
  one_collect member (Wait i) (Wait j) a b = ap (λ k. Wait k) (a.1 ∙ sym b.1)
  one_collect member (Wait i) Busy a b = absurd (omega (arith, a.0.exists, b))
  one_collect member Busy (Wait j) a b = absurd (omega (arith, b.0.exists, a))
  one_collect member first second a b = first_of (cc, grind arith)

  one_leave : (member : ℕ) (first second : GroupReply) →
      IsAnswered space past (Leave member) first → IsAnswered space past (Leave member) second →
      first ≡ second
  one_leave member (WasMet g) (WasMet h) a b = one_told member g h a.1 b.1
  one_leave member (WasMet g) Gone a b = absurd (b.none a.1.pair a.1.paired)
  one_leave member Gone (WasMet h) a b = absurd (a.none b.1.pair b.1.paired)
  one_leave member Gone Busy a b = absurd (omega (arith, a.exists, b))
  one_leave member Busy Gone a b = absurd (omega (arith, b.exists, a))
  one_leave member first second a b = first_of (cc, grind arith)

  -- each call has one answer
  pub one_answer : (call : GroupCall) (first second : GroupReply) →
      IsAnswered space past call first → IsAnswered space past call second → first ≡ second
  one_answer (Call member tag value) = one_call member tag value
  one_answer (Collect member) = one_collect member
  one_answer (Leave member) = one_leave member

-- Each way out of the loop over the lines, from what was written and held back when it was taken.
use Rattle.std.proofs.Common.{[], ◌++◌, List, ℕ, ap, refl, subst, ◌∙◌, arith}
use Rattle.std.specs.Io.KnownBytes.{Appends}
use Rattle.std.proofs.lemmas.Result.{err_from_is_err_and}
use Rattle.scripts.specs.Device.{AppendsFront}
use Rattle.scripts.proofs.DeviceLemmas.{front_written, tells_err, all_written}
use Rattle.scripts.proofs.ScriptLemmas.{goes_answered, goes_written, goes_partly, goes_end}
use Rattle.scripts.proofs.ScriptLemmas.{front_of_held, writes_held}
use Rattle.scripts.proofs.script.answer_lines.Goals as goal

pub returns-in_err-after-clause-told : goal.returns-in_err-after-clause-told
returns-in_err-after-clause-told g c s stands =
    let goes = c.loop-held.invariant.goes_on s stands in
    let failed = err_from_is_err_and c.from_residual-in_err-after.result
    c.from_residual-in_err-after.ensures.1 in
    tells_err _ _ _ _ failed.0 failed.1 (front_written _ _ _ _ goes.writing)

pub returns-in_err-write_whole-clause-told : goal.returns-in_err-write_whole-clause-told
returns-in_err-write_whole-clause-told g c s stands =
    let goes = c.loop-held.invariant.goes_on s stands in
    let first = rw c.in-Some.is at (c.in_ok-after.ensures.answered goes.state goes.stands_now) in
    let next = goes_answered _ _ _ _ _ _ _ _ _ _ _ _ _ _ goes first in
    let failed = err_from_is_err_and c.from_residual-in_err-write_whole.result
    c.from_residual-in_err-write_whole.ensures.1 in
    tells_err _ _ _ _ failed.0 failed.1
    (goes_partly _ _ _ _ _ _ _ _ _ _ _ _ next
    (subst
    (λ (b : List ℕ). AppendsFront (g.W.Write.contents c.loop-held.writer)
    (g.W.Write.contents c.write_whole.new.writer) b)
    c.deref.ensures.value c.in_err-write_whole.ensures.err))

pub loop-held-preserved-then-len-ge-PIECE : goal.loop-held-preserved-then-len-ge-PIECE
loop-held-preserved-then-len-ge-PIECE g c =
    let shorter = rw c.in-Some.is at c.in_ok-after.ensures.shorter in
    record {
      counted = omega (arith, shorter);
      goes_on = λ s stands.
          let goes = c.loop-held.invariant.goes_on s stands in
          let first = rw c.in-Some.is at
          (c.in_ok-after.ensures.answered goes.state goes.stands_now) in
          goes_written _ _ _ _ _ _ _ _ _ _ _ _ _
          (goes_answered _ _ _ _ _ _ _ _ _ _ _ _ _ _ goes first)
          (subst
          (λ (b : List ℕ). Appends (g.W.Write.contents c.loop-held.writer)
          (g.W.Write.contents c.write_whole.new.writer) b)
          c.deref.ensures.value c.in_ok-write_whole.ensures.ok)
          c.clear.ensures.items;
    }

pub returns-in_err-faulty_line-clause-told : goal.returns-in_err-faulty_line-clause-told
returns-in_err-faulty_line-clause-told g c s stands =
    let goes = c.loop-held.invariant.goes_on s stands in
    let failed = err_from_is_err_and c.from_residual-in_err-faulty_line.result
    c.from_residual-in_err-faulty_line.ensures.1 in
    tells_err _ _ _ _ failed.0 failed.1 (front_written _ _ _ _ goes.writing)

pub returns-in_err-write_whole-2-clause-told : goal.returns-in_err-write_whole-2-clause-told
returns-in_err-write_whole-2-clause-told g c s stands =
    let goes = c.loop-held.invariant.goes_on s stands in
    let stuck = rw c.in_default.is at (c.in_ok-after.ensures.answered goes.state goes.stands_now) in
    let ended = goes_end _ _ _ _ _ _ _ _ c.answer_first.new.self _ _ _ c.end.new.output.items
    _ c.in_ok-faulty_line.faulty_line goes stuck.0 refl
    (λ t. let e = c.in_ok-faulty_line.ensures.fault t in (e.0, e.1 ∙ stuck.1))
    (λ f now standing. let e = c.in_ok-faulty_line.ensures.closing_line f now standing in (
      e.0,
      e.1 ∙ ap (λ (h : List ℕ). h ++ g.S.Script.language.closing_line now) stuck.1,
    )) in
    let failed = err_from_is_err_and c.from_residual-in_err-write_whole-2.result
    c.from_residual-in_err-write_whole-2.ensures.1 in
    tells_err _ _ _ _ failed.0 failed.1
    (front_of_held _ _ _ _ c.end.new.output.items [] ended.0
    (subst
    (λ (b : List ℕ). AppendsFront (g.W.Write.contents c.loop-held.writer)
    (g.W.Write.contents c.write_whole-2.new.writer) b)
    c.deref-2.ensures.value c.in_err-write_whole-2.ensures.err))

pub returns-clause-told : goal.returns-clause-told
returns-clause-told g c s stands =
    let goes = c.loop-held.invariant.goes_on s stands in
    let stuck = rw c.in_default.is at (c.in_ok-after.ensures.answered goes.state goes.stands_now) in
    let ended = goes_end _ _ _ _ _ _ _ _ c.answer_first.new.self _ _ _ c.end.new.output.items
    _ c.in_ok-faulty_line.faulty_line goes stuck.0 refl
    (λ t. let e = c.in_ok-faulty_line.ensures.fault t in (e.0, e.1 ∙ stuck.1))
    (λ f now standing. let e = c.in_ok-faulty_line.ensures.closing_line f now standing in (
      e.0,
      e.1 ∙ ap (λ (h : List ℕ). h ++ g.S.Script.language.closing_line now) stuck.1,
    )) in (
      ended.1,
      all_written _ _ _
          (writes_held _ _ _ _ c.end.new.output.items [] ended.0
          (subst
          (λ (b : List ℕ). Appends (g.W.Write.contents c.loop-held.writer)
          (g.W.Write.contents c.write_whole-2.new.writer) b)
          c.deref-2.ensures.value c.in_ok-write_whole-2.ensures.ok)),
    )

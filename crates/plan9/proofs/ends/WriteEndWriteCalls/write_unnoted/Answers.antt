-- it was told of the hangup, and then it took its note back
use Rattle.std.proofs.Common.{◌∙◌, Err, refl, subst}
use Rattle.sync_base.specs.declared.fault.Fault.{Fault}
use Rattle.plan9.specs.Callers.{writer}
use Rattle.plan9.specs.Streams.{WritesOnce}
use Rattle.plan9.proofs.ends.WriteEndWriteCalls.write_unnoted.Goals as goal

pub returns-in-Err-Hungup : goal.returns-in-Err-Hungup
returns-in-Err-Hungup g c =
    let is = c.in-Err-Hungup.field-0-is in
    record {
      too_big = rw (← is) c.in-Err-Hungup.ensures.too_big;
      no_rendez = rw (← is) c.in-Err-Hungup.ensures.no_rendez;
      wrote = record {
        told = writer c.write.new.self c.write.new.proc;
        wrote = subst (λ (why : Fault). WritesOnce (writer c.args.self.now c.args.proc.now)
            c.args.bytes.now (Err why) (writer c.write.new.self c.write.new.proc)) is
            c.in-Err-Hungup.ensures.wrote;
        end_is = refl;
        was = c.take_note.result;
        took = c.take_note.ensures;
      };
      same = record {
        end_is = c.in-Err-Hungup.ensures.end;
        words_are = c.take_note.ensures.words_are ∙ c.in-Err-Hungup.ensures.words;
      };
    }

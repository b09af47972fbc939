-- The setup and 04 begin the text; one batch is one turn of the invariant; and at the end the text put is the output.
use Rattle.std.proofs.Common.{None, Some, refl, rules}
use Rattle.text.proofs.Appending.{puts_all, appends_none}
use Rattle.script_run.proofs.RunLoop.{begins, turn, over, whole}
use Rattle.script_run.proofs.run.Goals as goal

pub returns-in_default : goal.returns-in_default
returns-in_default c =
    let reader = c.reader_at-reader.ensures in
    let gathers = rw (reader.script, reader.at) at c.gather-gathered.ensures.gathers in
    let left = rw (reader.script, reader.at) at c.gather-gathered.ensures.left in
    let out = whole _ _ _ gathers left None c.in_default.ensures (appends_none _) in
    puts_all c.new-text.ensures out (search rules) c.place.ensures

pub loop-next-init : goal.loop-next-init
loop-next-init c = record {
  same = rw (c.gather-gathered.ensures.script, c.reader_at-reader.ensures.script) refl;
  put = begins _ _ _ _ c.in-Some.ensures.ready;
}

pub loop-next-smaller : goal.loop-next-smaller
loop-next-smaller c =
    let loop = c.loop-next.invariant in
    let batch = c.next_batch.ensures in
    let at = rw loop.same at batch.at in
    rw at ((turn _ loop.put (rw loop.same at batch.reads) _ c.serve.ensures.comes _ c.in-Some-serve.is c.in-Some-serve.ensures.commands).1)

pub loop-next-preserved : goal.loop-next-preserved
loop-next-preserved c =
    let loop = c.loop-next.invariant in
    let batch = c.next_batch.ensures in
    let at = rw loop.same at batch.at in
    record {
      same = rw batch.script loop.same;
      put = rw at ((turn _ loop.put (rw loop.same at batch.reads) _ c.serve.ensures.comes _ c.in-Some-serve.is c.in-Some-serve.ensures.commands).0);
    }

pub returns : goal.returns
returns c =
    let reader = c.reader_at-reader.ensures in
    let setup = c.gather-gathered.ensures in
    let loop = c.loop-next.invariant in
    puts_all c.new-text.ensures
    (whole _ _ _ (rw (reader.script, reader.at) at setup.gathers) (rw (reader.script, reader.at) at setup.left)
    (Some c.in-Some.session) c.in-Some.ensures
    (over _ loop.put (rw loop.same at c.next_batch.ensures.reads) _ c.serve.ensures.comes c.in_default-serve.is))
    (search rules) c.place-2.ensures

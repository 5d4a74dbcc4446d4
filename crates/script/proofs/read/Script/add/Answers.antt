use Rattle.std.proofs.Common.{Some, sym, refl, inr}
use Rattle.std.proofs.lemmas.List.{append-nil}
use Rattle.std.proofs.lemmas.Result.{IfOk-weaker}
use Rattle.script.specs.Readings.{calls_of}
use Rattle.script.specs.Scripts.{adds, adds_not}
use Rattle.script.specs.declared.line.Line.TheVariants.{Add}
use Rattle.script.proofs.Taken.{call_taken}
use Rattle.script.proofs.read.Script.add.Goals as goal

pub returns-in-Ok : goal.returns-in-Ok
returns-in-Ok c =
    let s = c.args.self.now in
    let o = c.in-Ok.ensures in
    IfOk-weaker c.call.result _ _
    (λ done. call_taken s c.call.new.self (Some (Add c.args.row)) _ s.left (rw o.1 (adds o.0)))
    c.call.ensures

pub returns-in_ok-push-in-Err : goal.returns-in_ok-push-in-Err
returns-in_ok-push-in-Err c =
    inr (
      c.in-Err.fault,
      adds_not c.in-Err.ensures,
      (c.in_ok-push-in-Err.ensures.items, sym (append-nil (calls_of c.args.self.now)), refl),
    )

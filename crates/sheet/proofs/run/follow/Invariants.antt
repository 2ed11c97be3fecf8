-- The ruler is kept, the ledger has the calls so far, and the law holds.
use Rattle.std.proofs.Common.{◌≡◌, take}
use Rattle.sheet.specs.Answers.{ledger_of}
use Rattle.sheet.specs.Law.{Lawful}
use Rattle.sheet.specs.Ledger.{course, opened}
use Rattle.sheet.proofs.run.follow.Given as goal

abbrev pub invariant-loop-call : goal.invariant-loop-call
invariant-loop-call g l =
    let m = g.R.Ruler.meaning l.fn.ruler in
    record {
      kept : l.sheet.ruler ≡ l.fn.ruler;
      ledger : ledger_of l.sheet.net ≡ course m opened (take l.call-index l.calls);
      law : Lawful m l.sheet.net;
    }

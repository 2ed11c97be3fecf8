use Rattle.std.proofs.Common.{arith}
use Rattle.std.proofs.lemmas.Grind.{common_steps}
use Rattle.reader.specs.Reading.{place_of}
use Rattle.reader.proofs.Splitting.{past_first}
use Rattle.reader.proofs.Wording.{rows_next}
use Rattle.reader.proofs.line.number.parse.take_line.Goals as goal

pub returns-clause-rows : goal.returns-clause-rows
returns-clause-rows c = grind (arith, common_steps, rows_next (place_of c.args.reader.now).after)

pub returns-clause-falls : goal.returns-clause-falls
returns-clause-falls c = grind (arith, common_steps, past_first 10 (place_of c.args.reader.now).after)

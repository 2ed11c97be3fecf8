use Rattle.ruler.proofs.Charts.{leg_shown}
use Rattle.ruler.proofs.map.Map.attempt_leg.Goals as goal

pub returns : goal.returns
returns c = record { shown = λ d s. leg_shown c.args.self.now c.leg.new.self c.args.from c.args.to c.args.length d s c.leg.result c.leg.ensures.answer c.leg.ensures.after }

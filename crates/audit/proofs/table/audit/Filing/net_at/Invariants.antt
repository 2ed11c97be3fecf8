-- The sum so far is the net of the wires so far, and each adds at most 2 ^ 32 either way.
use Rattle.std.proofs.Common.{◌≡◌, ◌*◌, take, pos, neg_ℤ, ◌≤ℤ◌}
use Rattle.wires.specs.Wiring.{net}
use Rattle.audit.proofs.table.audit.Filing.net_at.Given as goal

abbrev pub invariant-loop-wire : goal.invariant-loop-wire
invariant-loop-wire l = (l.sum ≡ net (take l.wire-index l.self.wires.now) l.site) × (neg_ℤ (pos (4294967296 * l.wire-index)) ≤ℤ l.sum) × (l.sum ≤ℤ pos (4294967296 * l.wire-index))

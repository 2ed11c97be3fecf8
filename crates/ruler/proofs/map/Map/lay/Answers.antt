use Rattle.std.proofs.Common.{◌-◌, ◌<◌, refl}
use Rattle.ruler.proofs.Relaxing.{placed, relaxed_capped, relaxed_detours, relaxed_still}
use Rattle.ruler.proofs.Ways.{lengthened}
use Rattle.ruler.proofs.map.Map.lay.Goals as goal

pub invariant_of-self : goal.invariant_of-self
invariant_of-self c =
    let m = c.args.self.now in
    let f : c.args.from - 1 < 64 = placed m.sites c.args.from m.few c.requires.from in
    let t : c.args.to - 1 < 64 = placed m.sites c.args.to m.few c.requires.to in
    let rows = c.shorten.ensures in
    record {
      few = m.few;
      short = m.short;
      capped = relaxed_capped m.rows _ _ _ _ f t rows m.ring m.capped;
      still = relaxed_still m.rows _ _ _ _ f t rows m.still;
      detour = relaxed_detours m.rows _ _ _ _ f t rows m.detour;
    }

pub returns : goal.returns
returns c = lengthened c.args.self.now _ _ refl refl c.requires.from c.requires.to c.shorten.ensures

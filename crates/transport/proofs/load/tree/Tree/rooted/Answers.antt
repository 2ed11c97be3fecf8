use Rattle.std.proofs.Common.{◌≡◌, ◌<◌, Some, None, set, replicate, refl, ap, ⊎_elim, arith}
use lib.ListN.{get_or-replicate}
use Rattle.std.proofs.lemmas.Bool.{cases_eq}
use Rattle.transport.specs.declared.load.tree.Reached.{Reached}
use Rattle.transport.specs.Solver.{round_of}
use Rattle.transport.specs.Transport.{at}
use Rattle.transport.proofs.Sums.{sum_nothing}
use Rattle.transport.proofs.Writes.{put_set, blank}
use Rattle.transport.proofs.Growing.{rooted}
use Rattle.transport.proofs.load.tree.Tree.rooted.Goals as goal

pub returns : goal.returns
returns c =
    let market = c.args.market.now in
    let root = c.args.root in
    let r : Reached = record { round = 0; parent = 0; room = at c.args.market.now.load.want root } in
    let inside : root < 64 = omega arith in
    let met = put_set None (replicate 64 None) root (Some r) inside in
    record {
      grown =
          rooted market.case.now market.marks market.load market.limited market.marked root (replicate 64 4294967295) (replicate 64 root) (replicate 64 0) _ _ (set (replicate 64 None) root (Some r))
          c.requires.0 c.requires.1 (λ i l. get_or-replicate 64 i 4294967295 0 (omega arith)) (blank 0 64) refl met c.relax.ensures;
      early = λ j. ⊎_elim (λ (e : j ≡ root). rw e (omega (arith, ap round_of met.here))) (λ (ne : j ≡ root → ⊥). omega (arith, ap round_of (met.rest j ne), ap round_of (blank None 64 j))) (cases_eq j root);
      closed = sum_nothing (at (replicate 64 0)) market.case.now.sources (λ k l. blank 0 64 k);
      root = refl;
    }

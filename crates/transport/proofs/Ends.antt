-- How the phases begin and what they end with.
use Rattle.std.proofs.Common.{◌≡◌, ℕ, ◌+◌, ◌*◌, ◌<◌, true, leb, List, length, replicate, refl, take, None, arith}
use Rattle.std.proofs.lemmas.List.{get_or-take, length-take-le}
use lib.ListN.{length-replicate}
use Rattle.std.proofs.lemmas.Bool.{and_parts, leb-true, eqb-true}
use Rattle.transport.specs.declared.case.Case.{Case}
use Rattle.transport.specs.Transport.{at, cell, cost_of, each, amounts_fit, costs_fit, balanced, within, Optimal}
use Rattle.transport.specs.Solver.{Limited, Marked, Tied, Summed, Neediest}
use Rattle.transport.proofs.Sums.{sum_nothing, sum_at}
use Rattle.transport.proofs.Every.{each_at}
use Rattle.transport.proofs.Writes.{blank}

-- each limit as a fact
pub limits : (case : Case) → within case ≡ true → Limited case
limits case e =
    let p = and_parts (leb (case.sources + case.sinks) 64) _ e in
    let q = and_parts (amounts_fit case.supply case.sources) _ p.1 in
    let r = and_parts (amounts_fit case.demand case.sinks) _ q.1 in
    let s = and_parts (costs_fit case) (balanced case) r.1 in
    record {
      few = leb-true _ _ p.0;
      supplies = λ i l. leb-true _ _ (each_at (λ k. leb (at case.supply k) 1000000) case.sources q.0 i l);
      costs = λ i j li lj. leb-true _ _ (each_at (λ m. leb (cost_of case i m) 4000000) case.sinks (each_at (λ k. each (λ m. leb (cost_of case k m) 4000000) case.sinks) case.sources s.0 i li) j lj);
      even = eqb-true _ _ s.1;
    }

-- marks of 0 and no flow
pub marked_none : (case : Case) → Marked case (record { source = replicate 64 0; sink = replicate 64 0 })
marked_none case =
    record {
      fair = λ i j li lj. omega (arith, blank {A = ℕ} 0 64 j);
      source_marks = λ i l. omega (arith, blank {A = ℕ} 0 64 i);
      sink_marks = λ j l. omega (arith, blank {A = ℕ} 0 64 j);
      sources = refl;
      sinks = refl;
    }

pub tied_none : (case : Case) (stock want : List ℕ) → Tied case (record { source = replicate 64 0; sink = replicate 64 0 }) (record { flow = replicate 4096 0; stock = stock; want = want })
tied_none case stock want =
    record { tight = λ i j li lj f. absurd (let z : ⊥ = omega (arith, blank {A = ℕ} 0 4096 (64 * i + j)) in z); unraised = λ i l f. blank {A = ℕ} 0 64 i }

pub summed_none : (case : Case) → Limited case → length case.supply ≡ 64 → length case.demand ≡ 64 → Summed case (record { flow = replicate 4096 0; stock = case.supply; want = case.demand })
summed_none case limited supplies demands =
    record {
      sent = λ i l. omega (arith, sum_nothing (λ j. cell (replicate 4096 0) i j) case.sinks (λ j lj. blank {A = ℕ} 0 4096 (64 * i + j)));
      received = λ j l. omega (arith, sum_nothing (λ i. cell (replicate 4096 0) i j) case.sources (λ i li. blank {A = ℕ} 0 4096 (64 * i + j)));
      even = limited.even;
      flows = length-replicate {A = ℕ} 4096 0;
      stocks = supplies;
      wants = demands;
    }

-- where no sink wants anything, no source has anything, and the plan is of least cost
pub optimal : (case : Case) (flow stock want source sink : List ℕ) (phases : ℕ) → Limited case → Marked case (record { source = source; sink = sink }) → Tied case (record { source = source; sink = sink }) (record { flow = flow; stock = stock; want = want }) → Summed case (record { flow = flow; stock = stock; want = want }) → Neediest (take case.sinks want) None → Optimal case (record { flow = flow; source_mark = source; sink_mark = sink; phases = phases })
optimal case flow stock want source sink phases limited marked tied summed none =
    record {
      sent = λ i l. omega (arith, summed.sent i l, sum_at (at stock) case.sources i l, summed.even, sum_nothing (at want) case.sinks served);
      received = λ j l. omega (arith, summed.received j l, served j l);
      fair = marked.fair;
      tight = tied.tight;
      source_marks = marked.source_marks;
      sink_marks = marked.sink_marks;
      flow_size = summed.flows;
      source_size = marked.sources;
      sink_size = marked.sinks;
    }
  where
    served : (j : ℕ) → j < case.sinks → at want j ≡ 0
    served j l = omega (arith, get_or-take case.sinks want j 0 l, none j (omega (arith, length-take-le case.sinks want (omega (arith, summed.wants, limited.few)))))

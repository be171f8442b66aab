use Rattle.std.proofs.Common.{◌≡◌, drop}
use Rattle.flows.specs.Laps.{sent}
use Rattle.labels.specs.Ways.{Steady}
use Rattle.labels.proofs.laps.send.Given as goal

abbrev pub invariant-loop-step : goal.invariant-loop-step
invariant-loop-step l =
    Steady l.amount (drop l.step-index l.steps) l.flow × (sent l.amount (drop l.step-index l.steps) l.flow ≡ sent l.amount l.steps l.initial.flow)

-- What can be read of a passed plan.
use Rattle.std.specs.Prelude.{◌≡◌, List, ℤ}
use Rattle.costs.specs.declared.CostKind.{Ghosts as CostKind}
use Rattle.networks.specs.declared.network.Network.{Ghosts as Network}
use Rattle.plans.specs.declared.passed.Passed.{Passed}

module _ {N C : Type 0} {network : Network N C} {kind : CostKind C} where
  -- the flow of each arc, which is its switching order
  abbrev pub orders_of : Passed N C network kind → List ℤ
  orders_of p = p.flow.now

  -- the price of each node
  abbrev pub prices_of : Passed N C network kind → List C
  prices_of p = p.prices.now

  -- it shows this flow and these prices
  abbrev pub Shows : List ℤ → List C → Passed N C network kind → Type 0
  Shows flow prices p = (orders_of p ≡ flow) × (prices_of p ≡ prices)

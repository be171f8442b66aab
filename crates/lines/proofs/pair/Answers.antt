-- The pair of bounds that two numbers make, by cases of its making.
use Rattle.std.proofs.Common.{rules, ◌≡◌, Ok, Err}
use Rattle.std.specs.Prelude.{Result}
use Rattle.std.specs.Result.{MatchResult, IsErrAnd}
use Rattle.networks.specs.declared.stops.Stop.{Stop}
use Rattle.networks.specs.declared.bounds.Bounds.{Bounds}
use Rattle.networks.specs.Bounding.{made_bounds, read_bounds}
use Rattle.tokens.specs.declared.spots.BoundsFault.{BoundsFault}
use Rattle.lines.specs.declared.Numeral.{Numeral}
use Rattle.lines.specs.Lines.{shown_pair, pair_of}
use Rattle.lines.proofs.pair.Goals as goal

told_pair : (lo hi : Numeral) (Q : Stop → BoundsFault → Type 0) → ((e : Stop) (f : BoundsFault) → Q e f → f ≡ record { spot = hi.spot; stop = e })
    → (r : Result Bounds Stop) (m : Result Bounds BoundsFault) → MatchResult r (λ x. m ≡ Ok x) (λ e. IsErrAnd m (Q e))
    → read_bounds r ≡ made_bounds lo.value hi.value → shown_pair m ≡ pair_of lo hi
told_pair lo hi Q q (Ok b) m h e = search rules
told_pair lo hi Q q (Err s) (Ok x) h e = absurd h
told_pair lo hi Q q (Err s) (Err f) h e = let p = q s f h in search rules

pub returns : goal.returns
returns c = told_pair c.args.lo c.args.hi _ (λ e f p. search rules) c.new.result c.map_err.result c.map_err.ensures.cases (search rules)

use Rattle.std.proofs.Common.{rules}
use Rattle.networks.proofs.Numbered.{length_mapped}
use Rattle.makes.proofs.kept.KeptShapeNetwork.arcs.Goals as goal

pub returns : goal.returns
returns g c = search (rules, length_mapped)

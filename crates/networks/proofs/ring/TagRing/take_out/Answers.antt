use Rattle.std.proofs.Common.{rules}
use Rattle.networks.proofs.Keeping.{free_there}
use Rattle.networks.proofs.ring.TagRing.take_out.Goals as goal

pub drop-self-requires : goal.drop-self-requires
drop-self-requires g c = search (rules, free_there)

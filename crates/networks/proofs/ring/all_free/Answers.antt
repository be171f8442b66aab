use Rattle.std.proofs.Common.{◌≡◌, true, false, cond, ◌&&◌, None, refl, rules}
use Rattle.std.proofs.lemmas.List.Recursion.{and_is}
use Rattle.networks.specs.Rings.{is_free, free_of_tags}
use Rattle.networks.proofs.ring.all_free.Goals as goal

pub returns : goal.returns
returns c = and_is free_of_tags is_free refl (λ x xs. elim (is_free x) as (λ b. cond b (free_of_tags xs) false ≡ (b && free_of_tags xs)) [ true ↦ refl | false ↦ refl ]) c.args.places.now None _ (search rules) (search rules)

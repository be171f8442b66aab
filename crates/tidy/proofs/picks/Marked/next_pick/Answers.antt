use Rattle.std.proofs.Common.{◌≡◌, ◌⊎◌, Some, None, sym, ◌∙◌, subst, ⊎_elim, rules}
use Rattle.networks.specs.Nets.{shown}
use Rattle.tidy.specs.Picks.{first_free_of, GoodPick}
use Rattle.tidy.proofs.Picking.{nearest_good, first_free_good}
use Rattle.tidy.proofs.Sounds.{sound_from}
use Rattle.tidy.proofs.picks.Marked.next_pick.Goals as goal

pub returns : goal.returns
returns g c =
    let K = g.N.Cost.CostKind.kind in
    let laws = g.met.N.Cost.CostKind.lawful in
    let s = c.args.self.now in
    let arcs = shown (g.N.Network.meaning s.net.now) in
    let sound = sound_from K _ arcs s.fitting in
    let which : (Some c.unwrap_or_else.result ≡ c.nearest.result) ⊎ ((None ≡ c.nearest.result) × (c.unwrap_or_else.result ≡ first_free_of K s.prices.now s.marks.now)) = search rules in
    ⊎_elim
    (λ near. nearest_good K laws s.marks.now s.prices.now arcs sound s.moderate c.unwrap_or_else.result (near ∙ c.nearest.ensures))
    (λ free. subst (GoodPick K arcs s.marks.now s.prices.now) (sym free.1) (first_free_good K laws s.marks.now s.prices.now arcs sound s.moderate s.alike c.requires (free.0 ∙ c.nearest.ensures))) which

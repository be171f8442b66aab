use Rattle.std.proofs.Common.{◌≡◌, suc, ◌-◌, rules, sym, ◌∙◌, subst, arith}
use Rattle.networks.specs.Nets.{shown}
use Rattle.flows.specs.searching.Fits.{Fitting}
use Rattle.tidy.specs.Picks.{labelled_at}
use Rattle.tidy.proofs.Sounds.{sound_from}
use Rattle.tidy.proofs.Turns.{start, all_moderate, finish, labelled}
use Rattle.tidy.proofs.tidying.label_all.Goals as goal

pub loop-init : goal.loop-init
loop-init g c = start g.N.Cost.CostKind.kind g.met.N.Cost.CostKind.lawful (shown (g.N.Network.meaning c.args.net.now)) c.args.prices.now c.args.marks.now c.requires.alike c.requires.clear

pub invariant_of-next_pick : goal.invariant_of-next_pick
invariant_of-next_pick g c =
    let K = g.N.Cost.CostKind.kind in
    let arcs = shown (g.N.Network.meaning c.args.net.now) in
    let t = c.loop.invariant in
    record {
      fitting = subst (λ z. Fitting K z arcs) (sym t.sized) c.requires.untidy.fitting;
      moderate = all_moderate K g.met.N.Cost.CostKind.lawful arcs c.args.prices.now c.loop.prices c.loop.marks c.loop.counter t c.requires.untidy.moderate (omega (arith, c.requires.untidy.few)) (sound_from K _ arcs c.requires.untidy.fitting).costs;
      alike = t.alike ∙ sym t.sized;
    }

pub loop-preserved : goal.loop-preserved
loop-preserved g c =
    labelled g.N.Cost.CostKind.kind g.met.N.Cost.CostKind.lawful (shown (g.N.Network.meaning c.args.net.now)) c.args.prices.now c.loop.prices c.loop.marks c.loop.counter c.loop.invariant c.requires.untidy.moderate
    c.raise.new.prices c.next_pick-p.result c.next_pick-p.ensures c.raise.ensures.long (c.raise.ensures.raised (labelled_at c.loop.marks) (λ k h b told. let same : suc k - 1 ≡ k = omega arith in rw same (search rules)))

pub returns : goal.returns
returns g c =
    finish g.N.Cost.CostKind.kind g.met.N.Cost.CostKind.lawful (shown (g.N.Network.meaning c.args.net.now)) c.args.prices.now c.loop.prices c.loop.marks c.loop.counter c.loop.invariant (omega (arith, c.requires.untidy.few))

use Rattle.std.proofs.Common.{◌≡◌, ℕ, ◌≤◌, cond, true, false, Bool, Some, None, ap, ap₂, ◌∙◌, sym, length, take, replicate, pos, arith}
use Rattle.std.proofs.lemmas.Bool.Decides.{nat_tests}
use Rattle.std.proofs.lemmas.List.{take-replicate}
use Rattle.networks.specs.Answers.{Told}
use Rattle.networks.specs.Limits.{counts_fit, most_arcs}
use Rattle.networks.specs.Nets.{shown}
use Rattle.makes.specs.Tables.{table_net}
use Rattle.flows.specs.Stops.{arcs_stop}
use Rattle.files.proofs.writing.check_fit.Goals as goal

fits : (b : Bool) (s : Told) → None ≡ cond b None (Some s) → b ≡ true
fits true s e = cc
fits false s e = cc

few : (nodes arcs : ℕ) → counts_fit nodes arcs ≡ true → arcs ≤ most_arcs
few nodes arcs h = grind (arith, nat_tests)

pub returns : goal.returns
returns g c =
    let n = table_net c.args.table.now in
    let size = g.C.CostKind.kind.size in
    let ok = fits (counts_fit c.nodes.result c.arcs.result) (1, 0) c.in_ok-check_counts.ensures in
    let small = few c.nodes.result c.arcs.result ok in
    let flow : take c.arcs-2.result (replicate most_arcs (pos 0)) ≡ replicate (length n.arcs) (pos 0) =
    take-replicate c.arcs-2.result most_arcs (pos 0) (omega (arith, c.arcs.ensures, c.arcs-2.ensures, small)) ∙ ap (λ k. replicate k (pos 0)) c.arcs-2.ensures in
    let counted : counts_fit n.nodes (length n.arcs) ≡ true = sym (ap₂ counts_fit c.nodes.ensures c.arcs.ensures) ∙ ok in
    c.arcs_fault.ensures ∙ ap (arcs_stop size n.nodes 1 (shown n)) flow ∙ sym (ap (λ b. cond b (arcs_stop size n.nodes 1 (shown n) (replicate (length n.arcs) (pos 0))) (Some (1, 0))) counted)

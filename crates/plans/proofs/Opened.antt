-- What is known where no stop keeps a plan from being opened.
use Rattle.std.proofs.Common.{◌≡◌, ℕ, ◌≤◌, ◌&&◌, eqb, leb, List, length, ℤ, None, sym, refl, ap, ◌∙◌}
use Rattle.std.proofs.lemmas.Bool.{and_parts, eqb-true, leb-true}
use Rattle.costs.specs.Kinds.{Kind}
use Rattle.networks.specs.Nets.{Net, shown}
use Rattle.networks.proofs.Shown.{length_shown}
use Rattle.flows.specs.searching.Fits.{Small}
use Rattle.flows.specs.Stops.{counts_fit, lengths_fit, arcs_stop, open_stop}
use Rattle.flows.proofs.Fitted.{passed, neither, small}
use Rattle.flows.proofs.Needing.{imbalances_long}
use Rattle.runs.specs.States.{State, opening_stop, opened, New}

pub record Opens {C : Type 0} (n : Net C) (flow : List ℤ) (needs : ℕ) : Type 0 where
  pub few_arcs : length n.arcs ≤ 1024
  pub flow_long : length flow ≡ length n.arcs
  pub needs_long : needs ≡ n.nodes
  pub small_flow : Small flow

pub opens : {C : Type 0} (K : Kind C) (n : Net C) (flow : List ℤ) (needs prices marks : ℕ) → open_stop K.size n flow needs prices marks ≡ None → Opens n flow needs
opens K n flow needs prices marks e =
    let a = passed (counts_fit n.nodes (length n.arcs)) 1 0 _ e in
    let b = passed (lengths_fit n.nodes (length n.arcs) (length flow) needs prices marks) 2 0 _ a.1 in
    let p = and_parts (leb 1 n.nodes) (leb n.nodes 256 && leb (length n.arcs) 1024) a.0 in
    let q = and_parts (leb n.nodes 256) (leb (length n.arcs) 1024) p.1 in
    let r = and_parts (eqb (length flow) (length n.arcs)) (eqb needs n.nodes && (eqb prices n.nodes && eqb marks n.nodes)) b.0 in
    let s = and_parts (eqb needs n.nodes) (eqb prices n.nodes && eqb marks n.nodes) r.1 in
    let long = eqb-true (length flow) (length n.arcs) r.0 in
    record {
      few_arcs = leb-true (length n.arcs) 1024 q.1;
      flow_long = long;
      needs_long = eqb-true needs n.nodes s.0;
      small_flow = small K n.nodes 1 (shown n) flow (long ∙ sym (length_shown n)) (neither (arcs_stop K.size n.nodes 1 (shown n) flow) None b.1).0;
    }

-- once opened, a plan is new
pub opened_new : {C : Type 0} (K : Kind C) (p : State C) → opening_stop K p ≡ None → New K (opened p)
opened_new K p ok =
    let n = opens K p.net p.tables.flow (length p.tables.needs) (length p.tables.prices) (length p.tables.marks) ok in
    record {
      fits = ap (λ k. open_stop K.size p.net p.tables.flow k (length p.tables.prices) (length p.tables.marks)) (imbalances_long (shown p.net) p.tables.flow 1 p.net.nodes ∙ sym n.needs_long) ∙ ok;
      needs_are = refl;
    }

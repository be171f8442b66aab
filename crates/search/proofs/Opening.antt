-- Where no stop came, the search can begin.
use Rattle.std.proofs.Common.{◌≡◌, ℕ, ◌-◌, ◌*◌, ◌<◌, ◌≤◌, Bool, true, false, cond, leb, List, length, get_or, ℤ, pos, nat_abs, sym, refl, ◌∙◌, subst, mul-le-mul_left, arith}
use Rattle.std.proofs.lemmas.List.{get_or_default}
use Rattle.std.proofs.lemmas.Bool.{leb-true}
use Rattle.costs.specs.Kinds.{Kind, Laws}
use Rattle.networks.specs.Limits.{flow_limit}
use Rattle.networks.specs.Nets.{Net, shown}
use Rattle.networks.proofs.Shown.{length_shown}
use Rattle.flows.specs.Flows.{EachArc, Limited}
use Rattle.flows.specs.Kilter.{largest}
use Rattle.flows.proofs.ArcSums.{each_from}
use Rattle.flows.proofs.Fitted.{Passed}
use Rattle.flows.proofs.Group.{size_zero}
use Rattle.flows.proofs.KilterSums.{sum_limited}
use Rattle.tidy.proofs.Sounds.{sound_from}
use Rattle.search.specs.Going.{Going}
use Rattle.flows.specs.Settles.{read_price_as}

module _ {C : Type 0} (K : Kind C) (laws : Laws K) (n : Net C) (flow needs : List ℤ) (prices marks : ℕ) (p : Passed K n flow needs prices marks) where
  pub some_limit : (N : ℕ) → N ≡ n.nodes → (N - 1) * largest K (shown n) ≤ 255000000
  some_limit N e =
      let c = (sound_from K n.nodes (shown n) p.fits).costs in
      let m : (N - 1) * largest K (shown n) ≤ (N - 1) * 1000000 = mul-le-mul_left (N - 1) c in
      omega (arith, m, p.few_nodes)

  read_small : (limit : ℕ) (x : C) → K.size (read_price_as K limit x) ≤ limit
  read_small limit x = go (leb (K.size x) limit) refl
    where
      go : (b : Bool) → leb (K.size x) limit ≡ b → K.size (cond b x K.zero) ≤ limit
      go true e = leb-true (K.size x) limit e
      go false e = omega (arith, size_zero K laws)

  limited : EachArc Limited (shown n) flow
  limited = each_from Limited (shown n) flow (p.flow_long ∙ sym (length_shown n)) (λ i a f is fs.
      let t = p.fits i a is in
      (t.low, t.high, subst (λ z. nat_abs z ≤ flow_limit) (sym (fs.1 ∙ get_or_default flow i f (pos 0) fs.0)) (p.small_flow i)))

  pub going_start : (ps qs : List C) (limit : ℕ) → length ps ≡ n.nodes → length qs ≡ length ps → limit ≤ 255000000 →
      ((k : ℕ) → k < length qs → get_or qs k K.zero ≡ read_price_as K limit (get_or ps k K.zero)) → Going K n.nodes (shown n) flow 0 0 flow qs
  going_start ps qs limit l m e read = record {
    ready = record {
      fitting = p.fits;
      few = p.few_nodes;
      priced = m ∙ l;
      bounded = λ k h. let b = subst (λ z. K.size z ≤ limit) (sym (read k h)) (read_small limit (get_or ps k K.zero)) in omega (arith, b, e);
      long = p.flow_long ∙ sym (length_shown n);
      small = p.small_flow;
    };
    lapped = refl;
    within = omega (arith, sum_limited K (shown n) flow qs limited);
    done = λ j h. absurd (omega arith);
  }

-- A rise of prices that comes before every other turns no sign; where it leads the price of a node.
use Rattle.std.proofs.Common.{◌≡◌, ℕ, ◌≤◌, Bool, true, false, List, [], ◌∷◌, sym, refl, ap, ◌∙◌, subst₂, arith}
use Rattle.std.specs.List.{AllByRecursion}
use Rattle.std.proofs.ByRecursion.{All-weaker}
use Rattle.costs.specs.Kinds.{Kind, Laws, minus}
use Rattle.networks.specs.declared.network.Arc.{Arc}
use Rattle.flows.specs.Flows.{Ends}
use Rattle.flows.specs.Kilter.{reduced, largest}
use Rattle.flows.specs.searching.Prices.{Raised, SignKept, nearer}
use Rattle.flows.proofs.Group.{comm, left, right, swap, back, cancel, cancel_le, le_refl, neg_down, neg_up}
use Rattle.flows.proofs.Prices.{by_ends, sign_same}

module _ {C : Type 0} (K : Kind C) (laws : Laws K) where
  -- an order in which any two compare
  pub nearer_total : (c d : C) → nearer K c d ≡ false → nearer K d c ≡ true
  nearer_total c d e = let h = laws.total c d in let k = laws.total d c in grind arith

  pub nearer_trans : (a b c : C) → nearer K a b ≡ true → nearer K b c ≡ true → nearer K a c ≡ true
  nearer_trans a b c h k = let x = laws.trans a b c in let y = laws.trans c b a in grind arith

  pub nearer_refl : (c : C) → nearer K c c ≡ true
  nearer_refl c = let h = le_refl K laws c in grind arith

  -- what comes before s does not pass it, from either side of zero
  near_up : (e s : C) → nearer K e s ≡ true → K.le K.zero s ≡ true → K.le e s ≡ true
  near_up e s n h = grind arith

  near_down : (e s : C) → nearer K e s ≡ true → K.le s K.zero ≡ true → K.le s e ≡ true
  near_down e s n d = let h = laws.trans s K.zero e d in grind arith

  module _ (e : C) where
    fallen : (s r : C) → K.plus r e ≡ s → nearer K e s ≡ true → SignKept K s r
    fallen s r h n = record {
      up = λ u. cancel_le K laws K.zero r e (subst₂ (λ x y. K.le x y ≡ true) (sym (left K laws e)) (sym h) (near_up e s n u));
      down = λ d. cancel_le K laws r K.zero e (subst₂ (λ x y. K.le x y ≡ true) (sym h) (sym (left K laws e)) (near_down e s n d));
    }

    risen : (s : C) → nearer K e (K.neg s) ≡ true → SignKept K s (K.plus s e)
    risen s n = record {
      up = λ u. subst₂ (λ x y. K.le x y ≡ true) (comm K laws (K.neg s) s ∙ laws.cancels s) (comm K laws e s) (laws.mono (K.neg s) e s (near_down e (K.neg s) n (neg_down K laws s u)));
      down = λ d. subst₂ (λ x y. K.le x y ≡ true) (comm K laws e s) (comm K laws (K.neg s) s ∙ laws.cancels s) (laws.mono e (K.neg s) s (near_up e (K.neg s) n (neg_up K laws s d)));
    }

    -- raised by what comes before the arc's own rise, its sign stays
    pub sign_raised : (N : ℕ) (inside : ℕ → Bool) (ps qs : List C) → Raised K N e inside ps qs → (a : Arc C) → Ends N a →
        (inside a.from ≡ true → inside a.to ≡ false → nearer K e (reduced K ps a) ≡ true) →
        (inside a.from ≡ false → inside a.to ≡ true → nearer K e (K.neg (reduced K ps a)) ≡ true) → SignKept K (reduced K ps a) (reduced K qs a)
    sign_raised N inside ps qs raised a ends leaves enters = by_ends K laws e N inside ps qs raised a ends (SignKept K (reduced K ps a))
        (λ _. sign_same K laws (reduced K ps a) (reduced K ps a) refl)
        (λ p q r h. fallen (reduced K ps a) r h (leaves p q))
        (λ p q. risen (reduced K ps a) (enters p q))

  -- the price of the far end after a rise that brings the reduced cost to zero: cost above the near one, or below it
  pub to_lands : (c f t : C) → K.plus t (minus K (K.plus c f) t) ≡ K.plus c f
  to_lands c f t = comm K laws t (minus K (K.plus c f) t) ∙ back K laws (K.plus c f) t

  pub from_lands : (c f t : C) → K.plus f (K.neg (minus K (K.plus c f) t)) ≡ minus K t c
  from_lands c f t = across f (minus K (K.plus c f) t) t c (back K laws (K.plus c f) t)
    where
      gone : (x y : C) → K.plus x (K.plus (K.neg y) y) ≡ x
      gone x y = ap (K.plus x) (comm K laws (K.neg y) y ∙ laws.cancels y) ∙ right K laws x

      across : (f r t c : C) → K.plus r t ≡ K.plus c f → K.plus f (K.neg r) ≡ minus K t c
      across f r t c h = cancel K laws (K.plus f (K.neg r)) (minus K t c) (K.plus c r)
          (swap K laws f (K.neg r) c r ∙ gone (K.plus f c) r ∙ comm K laws f c ∙ sym h ∙ comm K laws r t
          ∙ sym (gone (K.plus t r) c) ∙ sym (swap K laws t (K.neg c) r c) ∙ ap (K.plus (minus K t c)) (comm K laws r c))

-- no cost has a size above the largest
pub none_larger : {C : Type 0} (K : Kind C) (arcs : List (Arc C)) → AllByRecursion (λ a. K.size a.cost ≤ largest K arcs) arcs
none_larger K [] = tt
none_larger K (a ∷ rest) = (omega arith, All-weaker (λ b. K.size b.cost ≤ largest K rest) (λ b. K.size b.cost ≤ largest K (a ∷ rest)) (λ b h. omega arith) rest (none_larger K rest))

pub largest_most : {C : Type 0} (K : Kind C) (b : ℕ) (arcs : List (Arc C)) → AllByRecursion (λ a. K.size a.cost ≤ b) arcs → largest K arcs ≤ b
largest_most K b [] h = omega arith
largest_most K b (a ∷ rest) (h, hs) = omega (arith, h, largest_most K b rest hs)

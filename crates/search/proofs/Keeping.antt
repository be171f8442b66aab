-- A flow in kilter is kept: no lap is made, and no reduced cost turns its sign.
use Rattle.std.proofs.Common.{◌≡◌, ℕ, ◌<◌, ◌≤◌, Bool, true, false, cond, nat_lt, not, ◌&&◌, ◌||◌, Ok, List, [], ◌∷◌, map, length, get_or, ℤ, pos, ◌<ℤ◌, sym, refl, ap, ◌∙◌, subst, subst₂, ⊎_elim, arith}
use lib.Signed.{lt_z}
use Rattle.std.proofs.lemmas.Int.{ints}
use Rattle.std.proofs.lemmas.Bool.{cases_lt, lt-ltb}
use Rattle.std.proofs.lemmas.List.{ext_get_or, get_or-map, length-map}
use Rattle.std.proofs.lemmas.List.Folds.{list_any_at}
use Rattle.costs.specs.Kinds.{Kind, Laws, sums}
use Rattle.networks.specs.declared.network.Arc.{Arc}
use Rattle.flows.specs.Flows.{EachArc, total}
use Rattle.flows.specs.Kilter.{InKilter, reduced, out_of_kilter, kilter_number}
use Rattle.flows.specs.Settles.{least, Kept, read_price_as, prices_read}
use Rattle.flows.specs.searching.Fits.{Fitting, Bounded}
use Rattle.flows.specs.searching.Prices.{SignsKept}
use Rattle.flows.specs.searching.Ways.{Amiss}
use Rattle.flows.proofs.ArcSums.{each_get_or}
use Rattle.flows.proofs.Prices.{sign_same, sign_trans, kept_signs_ease}
use Rattle.flows.proofs.Wants.{kilter_stays}
use Rattle.flows.specs.declared.steps.Step.{Step}
use Rattle.labels.specs.Moves.{may}
use Rattle.reach.specs.Rounds.{large}
use Rattle.tidy.specs.Picks.{Tidied}
use Rattle.search.specs.declared.settling.Answer.{Answer}
use Rattle.search.specs.declared.settling.Answer.TheVariants as answer
use Rattle.search.specs.declared.settling.Answer.TheVariants.{Least, None}
use Rattle.search.specs.Going.{any_large, KilterAt, Wanted, StoodStill}
use Rattle.search.specs.Settling.{tables, answered, end_of, is_none_answer, HasTotal}
use Rattle.search.proofs.Taming.{ordered}

-- the tests of an arc in kilter
kilter_tests : (p q r s t u : Bool) → (p || (q || ((r && s) || (t && u)))) ≡ false → (p ≡ false) × (q ≡ false) × (r ≡ true → s ≡ false) × (t ≡ true → u ≡ false)
kilter_tests true q r s t u e = absurd cc
kilter_tests false true r s t u e = absurd cc
kilter_tests false false true true t u e = absurd cc
kilter_tests false false true false true true e = absurd cc
kilter_tests false false true false true false e = (refl, refl, (λ _. refl), (λ _. refl))
kilter_tests false false true false false u e = (refl, refl, (λ _. refl), (λ q. absurd cc))
kilter_tests false false false s true true e = absurd cc
kilter_tests false false false s true false e = (refl, refl, (λ q. absurd cc), (λ _. refl))
kilter_tests false false false s false u e = (refl, refl, (λ q. absurd cc), (λ q. absurd cc))

below : (x y : ℤ) → x <ℤ y → lt_z x y ≡ true
below x y h = grind (arith, ints)

module _ {C : Type 0} (K : Kind C) where
  -- no price is large
  pub none_large : (ps : List C) → any_large K ps ≡ false → Bounded K large ps
  none_large ps e k h = ⊎_elim (λ (l : large < K.size (get_or ps k K.zero)). absurd (let is = list_any_at (λ p. nat_lt large (K.size p)) ps k K.zero h (lt-ltb large (K.size (get_or ps k K.zero)) l) in cc)) (λ (l : K.size (get_or ps k K.zero) ≤ large). l) (cases_lt large (K.size (get_or ps k K.zero)))

  -- prices read one by one
  pub read_all : (limit : ℕ) (ps qs : List C) → length qs ≡ length ps → ((k : ℕ) → k < length qs → get_or qs k K.zero ≡ read_price_as K limit (get_or ps k K.zero)) → qs ≡ map (read_price_as K limit) ps
  read_all limit ps qs l e = ext_get_or K.zero qs (map (read_price_as K limit) ps) (l ∙ sym (length-map ps (read_price_as K limit))) (λ k h. e k h ∙ sym (get_or-map (read_price_as K limit) ps k K.zero K.zero (omega arith)))

  pub read_at : (limit : ℕ) (ps qs : List C) → qs ≡ map (read_price_as K limit) ps → (k : ℕ) → k < length qs → get_or qs k K.zero ≡ read_price_as K limit (get_or ps k K.zero)
  read_at limit ps qs e k h =
      let l : length qs ≡ length ps = ap length e ∙ length-map ps (read_price_as K limit) in
      ap (λ z. get_or z k K.zero) e ∙ get_or-map (read_price_as K limit) ps k K.zero K.zero (omega arith)

-- an arc in kilter is so where nothing changed
pub still : {C : Type 0} (K : Kind C) (arcs : List (Arc C)) (f g : List ℤ) (ps qs : List C) (i : ℕ) → KilterAt K arcs f ps i → g ≡ f → qs ≡ ps → KilterAt K arcs g qs i
still K arcs f g ps qs i kilter e d = subst₂ (λ g qs. KilterAt K arcs g qs i) (sym e) (sym d) kilter

module _ {C : Type 0} (K : Kind C) (laws : Laws K) where
  pub signs_same : (arcs : List (Arc C)) (ps : List C) → SignsKept K arcs ps ps
  signs_same [] ps = tt
  signs_same (a ∷ rest) ps = (sign_same K laws (reduced K ps a) (reduced K ps a) refl, signs_same rest ps)

  pub signs_both : (arcs : List (Arc C)) (ps qs rs : List C) → SignsKept K arcs ps qs → SignsKept K arcs qs rs → SignsKept K arcs ps rs
  signs_both [] ps qs rs p q = tt
  signs_both (a ∷ rest) ps qs rs (p, more) (q, others) = (sign_trans K laws (reduced K ps a) (reduced K qs a) (reduced K rs a) p q, signs_both rest ps qs rs more others)

  -- where no sign turns, an arc in kilter stays so
  pub kilter_kept : (N : ℕ) (arcs : List (Arc C)) (flow : List ℤ) (ps qs : List C) → Fitting K N arcs → length flow ≡ length arcs → SignsKept K arcs ps qs → (i : ℕ) → KilterAt K arcs flow ps i → KilterAt K arcs flow qs i
  kilter_kept N arcs flow ps qs fitting long signs i kilter a is =
      let eased = kept_signs_ease K laws arcs flow ps qs (ordered K N arcs fitting) long signs in
      let falls = each_get_or (λ a f. kilter_number K (reduced K qs a) a f ≤ kilter_number K (reduced K ps a) a f) arcs flow i a eased is in
      kilter_stays K laws (reduced K ps a) (reduced K qs a) a (get_or flow i (pos 0)) (get_or flow i (pos 0)) (fitting i a is).order (kilter a is) falls

  -- from arcs all in kilter, at prices from which no sign has turned and with the flow as it was
  pub kilter_here : (N : ℕ) (arcs : List (Arc C)) (f g : List ℤ) (ps qs : List C) → Fitting K N arcs → length f ≡ length arcs → EachArc (InKilter K ps) arcs f → g ≡ f → SignsKept K arcs ps qs → (i : ℕ) → KilterAt K arcs g qs i
  kilter_here N arcs f g ps qs fitting long each same signs i = subst (λ h. KilterAt K arcs h qs i) (sym same) (kilter_kept N arcs f ps qs fitting long signs i (λ a is. each_get_or (InKilter K ps) arcs f i a each is))

  -- an arc that wants a step is not in kilter
  step_out : (prices : List C) (a : Arc C) (f : ℤ) (along : Bool) → Amiss K prices a along f → may K prices a along f ≡ true → out_of_kilter K (reduced K prices a) a f ≡ false → ⊥
  step_out prices a f along amiss moves kilter = go along amiss moves (kilter_tests (lt_z f a.lo) (lt_z a.hi f) (not (K.le K.zero c)) (lt_z f a.hi) (not (K.le c K.zero)) (lt_z a.lo f) kilter)
    where
      c : C
      c = reduced K prices a

      up : (u d : Bool) → (u ≡ false → d ≡ true) → u ≡ false → (not u ≡ true → lt_z f a.hi ≡ false) → lt_z f (cond d a.hi a.lo) ≡ true → ⊥
      up true d one e t m = cc
      up false true one e t m = absurd (let z = t refl in cc)
      up false false one e t m = absurd (let z = one refl in cc)

      down : (u d : Bool) → (d ≡ false → u ≡ true) → d ≡ false → (not d ≡ true → lt_z a.lo f ≡ false) → lt_z (cond u a.lo a.hi) f ≡ true → ⊥
      down u true one e t m = cc
      down true false one e t m = absurd (let z = t refl in cc)
      down false false one e t m = absurd (let z = one refl in cc)

      go : (along : Bool) → Amiss K prices a along f → may K prices a along f ≡ true → (lt_z f a.lo ≡ false) × (lt_z a.hi f ≡ false) × (not (K.le K.zero c) ≡ true → lt_z f a.hi ≡ false) × (not (K.le c K.zero) ≡ true → lt_z a.lo f ≡ false) → ⊥
      go true amiss moves t = ⊎_elim (λ (l : f <ℤ a.lo). let z = below f a.lo l in let y = t.0 in cc) (λ e. up (K.le K.zero c) (K.le c K.zero) (laws.total K.zero c) e t.2 moves) (amiss.0 refl)
      go false amiss moves t = ⊎_elim (λ (l : a.hi <ℤ f). let z = below a.hi f l in let y = t.1 in cc) (λ e. down (K.le K.zero c) (K.le c K.zero) (laws.total c K.zero) e t.3 moves) (amiss.1 refl)

  pub wanted_out : (N : ℕ) (arcs : List (Arc C)) (flow : List ℤ) (prices : List C) (i : ℕ) (s : Step) (source : ℕ) → Wanted K N arcs flow prices i s source → KilterAt K arcs flow prices i → ⊥
  wanted_out N arcs flow prices i s source w kilter =
      let a = w.chosen.leads.0 in
      let is = w.chosen.leads.1 in
      step_out prices a (get_or flow s.arc (pos 0)) s.along (w.chosen.amiss a is) (w.chosen.moving.1 a is) (subst (KilterAt K arcs flow prices) (sym w.over) kilter a is)

  answer_least : (a : Answer C) (t : C) → end_of a ≡ Ok 0 → HasTotal a t → answered a ≡ least t 0
  answer_least (Least cost laps) t e h = let z : laps ≡ 0 = cc in cc
  answer_least (answer.Paused laps) t e h = absurd cc
  answer_least None t e h = absurd cc

  cond_same : {X : Type 0} (b : Bool) (x y : X) → y ≡ x → cond b x y ≡ x
  cond_same true x y e = refl
  cond_same false x y e = e

  -- what settle owes where the search stood still
  pub kept_by : (N : ℕ) (arcs : List (Arc C)) (flow needs f back : List ℤ) (ps read qs rs : List C) (ms marks : List ℕ) (a : Answer C) → read ≡ prices_read K N arcs ps → StoodStill K arcs flow f read qs 0 (end_of a) → HasTotal a (total (sums K) arcs f) →
      Tidied K arcs qs rs → back ≡ cond (is_none_answer a) flow f → Kept K N arcs (tables flow needs ps ms) (answered a) (tables back needs rs marks)
  kept_by N arcs flow needs f back ps read qs rs ms marks a is still has tidied e = record {
    answer_is = answer_least a (total (sums K) arcs flow) still.0 (subst (λ z. HasTotal a (total (sums K) arcs z)) still.1 has);
    flow_stays = e ∙ cond_same (is_none_answer a) flow f still.1;
    signs = subst (λ z. SignsKept K arcs z rs) is (signs_both arcs read qs rs still.2 tidied.signs);
  }

-- What a round does, by what the next rise is for.
use Rattle.std.proofs.Common.{◌≡◌, ◌<◌, ◌≤◌, Bool, true, false, cond, List, length, get_or, ℤ, pos, Some, None, Option, Ok, Err, sym, refl, ap, ◌∙◌, subst, inl, inr, arith}
use Rattle.std.proofs.lemmas.Bool.{lt-ltb, le-ltb}
use Rattle.costs.specs.Kinds.{Kind, Laws}
use Rattle.networks.specs.Nets.{IsAt}
use Rattle.networks.specs.declared.network.Arc.{Arc}
use Rattle.flows.specs.declared.steps.Step.{Step}
use Rattle.flows.specs.searching.Fits.{Fitting, Bounded, price_limit, change_limit}
use Rattle.flows.specs.Kilter.{reduced, kilter_number}
use Rattle.flows.specs.Laps.{near, far}
use Rattle.flows.specs.searching.Prices.{Raised}
use Rattle.flows.proofs.ArcSums.{each_from}
use Rattle.flows.proofs.Group.{le_refl}
use Rattle.labels.specs.declared.labelling.Labels.{Labels}
use Rattle.labels.specs.Good.{count, node_at, place_of, Labelled, Good, Grown, pushed}
use Rattle.labels.specs.Ways.{Chosen}
use Rattle.labels.proofs.Extending.{grown_none}
use Rattle.reach.specs.declared.scans.Best.{Best}
use Rattle.reach.specs.declared.rises.Rise.{Rise}
use Rattle.reach.specs.declared.rises.Rise.TheVariants.{Label, Kilter}
use Rattle.reach.specs.declared.rounds.Over.TheVariants as over
use Rattle.reach.specs.Scans.{is_labelled, AtMost, BestIs, Sighted, Ripe, link_over}
use Rattle.reach.specs.Rises.{own_limit_at, next_of, NextIs, Risen}
use Rattle.labels.specs.Searches.{Searching}
use Rattle.flows.specs.searching.Prices.{Eased}
use Rattle.reach.specs.Rounds.{Advanced}
use Rattle.reach.proofs.Repriced.{good_raised}
use Rattle.reach.proofs.Ripening.{crossed, slack_is, ripe_raised, link_near, link_node, link_room, link_good, link_grown, link_more}
use Rattle.reach.proofs.Landing.{rise_small, landing}
use Rattle.reach.proofs.Wanting.{ShortOf, UpTo, own_up}
use Rattle.reach.proofs.Aiming.{Aimed, aim, own_small, own_lands, still_chosen}
use Rattle.reach.proofs.Easing.{eased, in_kilter, cut_off}

module _ {C : Type 0} (K : Kind C) where
  next_label : (own : Option C) (best : Option (Best C)) (b : Best C) → Some (Label b) ≡ next_of K own best → (best ≡ Some b) × ShortOf K own b.slack
  next_label None None b h = absurd cc
  next_label None (Some d) b h = (cc, tt)
  next_label (Some c) None b h = absurd cc
  next_label (Some c) (Some d) b h = go (K.le c d.slack) refl h
    where
      go : (t : Bool) → K.le c d.slack ≡ t → Some (Label b) ≡ Some (cond t (Kilter c) (Label d)) → (Some d ≡ Some b) × (K.le c b.slack ≡ false)
      go true q h = absurd cc
      go false q h = let e : d ≡ b = cc in (ap Some e, subst (λ z. K.le c z.slack ≡ false) e q)

  next_kilter : (own : Option C) (best : Option (Best C)) (e : C) → Some (Kilter e) ≡ next_of K own best → (own ≡ Some e) × (Laws K → (s : C) → AtMost K best s → K.le e s ≡ true)
  next_kilter None None e h = absurd cc
  next_kilter None (Some d) e h = absurd cc
  next_kilter (Some c) None e h = (cc, λ laws s m. absurd m)
  next_kilter (Some c) (Some d) e h = go (K.le c d.slack) refl h
    where
      go : (t : Bool) → K.le c d.slack ≡ t → Some (Kilter e) ≡ Some (cond t (Kilter c) (Label d)) → (Some c ≡ Some e) × (Laws K → (s : C) → K.le d.slack s ≡ true → K.le e s ≡ true)
      go true q h = let r : c ≡ e = cc in (ap Some r, λ laws s m. laws.trans e d.slack s (subst (λ z. K.le z d.slack ≡ true) r q) m)
      go false q h = absurd cc

  next_none : (own : Option C) (best : Option (Best C)) → None ≡ next_of K own best → (own ≡ None) × (best ≡ None)
  next_none None None h = (refl, refl)
  next_none None (Some d) h = absurd cc
  next_none (Some c) None h = absurd cc
  next_none (Some c) (Some d) h = absurd cc

  -- below a limit is at most it; a limit is at most itself
  short_up : Laws K → (own : Option C) (e : C) → ShortOf K own e → UpTo K own e
  short_up laws None e h = tt
  short_up laws (Some o) e h = laws.total o e h

  own_up_to : Laws K → (own : Option C) (e : C) → own ≡ Some e → UpTo K own e
  own_up_to laws None e h = tt
  own_up_to laws (Some o) e h = let r : o ≡ e = cc in subst (λ z. K.le e z ≡ true) (sym r) (le_refl K laws e)

-- at the same prices no number is higher
pub none_higher : {C : Type 0} (K : Kind C) (arcs : List (Arc C)) (flow : List ℤ) (ps : List C) → length flow ≡ length arcs → Eased K arcs flow ps ps
none_higher K arcs flow ps long = each_from (λ a f. kilter_number K (reduced K ps a) a f ≤ kilter_number K (reduced K ps a) a f) arcs flow long (λ i a f is at. omega arith)

-- the source stays
pub same_source : {C : Type 0} (K : Kind C) (arcs : List (Arc C)) (flow : List ℤ) (ps : List C) (chosen : Step) (ls ms : Labels) → 1 ≤ count ls → Grown ls ms →
    Chosen K arcs flow ps chosen (node_at ls 0) → Chosen K arcs flow ps chosen (node_at ms 0)
same_source K arcs flow ps chosen ls ms some grown step = subst (Chosen K arcs flow ps chosen) (ap (λ e. e.node) (sym (grown.same 0 (omega arith)))) step

-- over an arc that may move, a node more is labelled at the same prices
module _ {C : Type 0} {K : Kind C} {arcs : List (Arc C)} {flow : List ℤ} {ps : List C} {chosen : Step} {ls : Labels} (now : Searching K arcs flow ps chosen ls) (few : length ps ≤ 256)
    {x : Step} (ripe : Ripe K arcs flow ps chosen.arc ls x) {a : Arc C} (is : IsAt arcs x.arc a) where
  pub open_node : (1 ≤ x.node) × (x.node ≤ 256)
  open_node = link_node K arcs flow ps chosen.arc few ls now.good now.fitting x ripe a is

  pub open_near : Labelled ls x.node
  open_near = link_near K arcs flow ps chosen.arc few ls now.good now.fitting x ripe a is

  pub open_room : count ls < 256
  open_room = link_room K arcs flow ps chosen.arc few ls now.good now.fitting x ripe a is

  pub open_done : (ms : Labels) → ms ≡ pushed ls (link_over ls a x) → Advanced K arcs flow ps ps chosen ls ms (Ok tt)
  open_done ms e = record {
    long = refl;
    changed = inl refl;
    eased = none_higher K arcs flow ps now.long;
    grown = grown;
    ends = (
      link_good K arcs flow ps chosen.arc few ls now.good now.fitting x ripe a is ms e,
      same_source K arcs flow ps chosen ls ms now.good.some grown now.wanted,
      link_more K arcs flow ps chosen.arc few ls now.good now.fitting x ripe a is ms e,
    );
  }
    where
      grown : Grown ls ms
      grown = link_grown K arcs flow ps chosen.arc few ls now.good now.fitting x ripe a is ms e

module _ {C : Type 0} {K : Kind C} (laws : Laws K) {arcs : List (Arc C)} {flow : List ℤ} {ps : List C} {chosen : Step} {ls : Labels} (now : Searching K arcs flow ps chosen ls)
    (small : Bounded K price_limit ps) (sought : place_of ls chosen.node ≡ 0) {best : Option (Best C)} (seen : Sighted K arcs flow ps chosen.arc ls (length arcs) best) where
  the_arc : Arc C
  the_arc = (aim K laws arcs flow ps chosen ls now.fitting now.good now.wanted sought).0

  aimed : Aimed K arcs flow ps chosen ls the_arc
  unfolding the_arc
  aimed = (aim K laws arcs flow ps chosen ls now.fitting now.good now.wanted sought).1

  abbrev own : Option C
  own = own_limit_at K (reduced K ps the_arc) the_arc chosen.along (get_or flow chosen.arc (pos 0))

  pub cut_done : {r : Option (Rise C)} → NextIs K arcs flow ps chosen best r → r ≡ None → Advanced K arcs flow ps ps chosen ls ls (Err over.Cut)
  cut_done next cut = record {
    long = refl;
    changed = inl refl;
    eased = none_higher K arcs flow ps now.long;
    grown = grown_none ls;
    ends = let n = next_none K own best (sym cut ∙ next the_arc aimed.is) in cut_off K laws arcs flow ps chosen ls best now.fitting now.long seen the_arc aimed n.0 n.1;
  }

  -- the chosen arc's own limit comes first
  module _ {e : C} {r : Option (Rise C)} (next : NextIs K arcs flow ps chosen best r) (kilter : r ≡ Some (Kilter e)) where
    first : Some (Kilter e) ≡ next_of K own best
    first = sym kilter ∙ next the_arc aimed.is

    own_first : own ≡ Some e
    own_first = (next_kilter K own best e first).0

    pub kilter_small : K.size e ≤ change_limit
    kilter_small = own_small K laws arcs flow ps chosen ls the_arc aimed e own_first small

    pub kilter_done : {qs : List C} → length qs ≡ length ps → Raised K (length ps) e (is_labelled ls) ps qs → Advanced K arcs flow ps qs chosen ls ls (Err over.Kilter)
    kilter_done {qs} same raised = record {
      long = same;
      changed = inr (own_lands K laws arcs flow ps chosen ls the_arc aimed qs e raised own_first);
      eased = eased K laws arcs flow ps chosen ls best now.fitting now.long seen the_arc aimed qs e raised
          (own_up K laws (reduced K ps the_arc) e the_arc chosen.along (get_or flow chosen.arc (pos 0)) aimed.wants own_first)
          ((next_kilter K own best e first).1 laws) (own_up_to K laws own e own_first);
      grown = grown_none ls;
      ends = in_kilter K laws arcs flow ps chosen ls best now.fitting now.long seen the_arc aimed qs e raised own_first;
    }

  -- the least slack comes first
  module _ {b : Best C} {r : Option (Rise C)} (next : NextIs K arcs flow ps chosen best r) (label : r ≡ Some (Label b)) where
    best_first : (best ≡ Some b) × ShortOf K own b.slack
    best_first = next_label K own best b (sym label ∙ next the_arc aimed.is)

    found : BestIs K arcs flow ps chosen.arc ls (Some b)
    found = subst (BestIs K arcs flow ps chosen.arc ls) best_first.0 seen.found

    pub label_small : K.size b.slack ≤ change_limit
    label_small =
        let (a, x, node, s) = found in
        rise_small K laws ps a b.over.along b.slack (slack_is K laws (reduced K ps a) b.slack a b.over.along (get_or flow b.over.arc (pos 0)) s).0 (now.fitting b.over.arc a x.is) small

    pub label_short : b.over.arc < length flow
    label_short = let (a, x, node, s) = found in omega (arith, x.is.0, now.long)

    module _ (qs : List C) (same : length qs ≡ length ps) (raised : Raised K (length ps) b.slack (is_labelled ls) ps qs) where
      fits : Fitting K (length qs) arcs
      fits = subst (λ n. Fitting K n arcs) (sym same) now.fitting

      still_good : Good K arcs flow qs chosen.arc ls
      still_good = good_raised K arcs flow ps qs chosen.arc b.slack ls same raised now.good

      ripe : Ripe K arcs flow qs chosen.arc ls b.over
      ripe = ripe_raised K laws arcs flow ps qs chosen.arc ls b.slack raised b refl now.fitting found

      lands : Risen K (length ps) ls ps qs
      lands =
          let (a, x, node, s) = found in
          let w = crossed ls a b.over.along x.leads in
          landing K laws ls ps qs a b.over.along b.slack (slack_is K laws (reduced K ps a) b.slack a b.over.along (get_or flow b.over.arc (pos 0)) s).0 (now.fitting b.over.arc a x.is)
          (lt-ltb 0 (place_of ls (near a b.over.along)) w.0) (le-ltb 0 (place_of ls (far a b.over.along)) (let z = w.1 in omega arith)) raised

      up : K.le K.zero b.slack ≡ true
      up = let (a, x, node, s) = found in (slack_is K laws (reduced K ps a) b.slack a b.over.along (get_or flow b.over.arc (pos 0)) s).1

      module _ (few : length ps ≤ 256) {a : Arc C} (is : IsAt arcs b.over.arc a) where
        short : length qs ≤ 256
        short = omega (arith, same, few)

        pub label_node : (1 ≤ b.over.node) × (b.over.node ≤ 256)
        label_node = link_node K arcs flow qs chosen.arc short ls still_good fits b.over ripe a is

        pub label_near : Labelled ls b.over.node
        label_near = link_near K arcs flow qs chosen.arc short ls still_good fits b.over ripe a is

        pub label_room : count ls < 256
        label_room = link_room K arcs flow qs chosen.arc short ls still_good fits b.over ripe a is

        pub label_done : (ms : Labels) → ms ≡ pushed ls (link_over ls a b.over) → Advanced K arcs flow ps qs chosen ls ms (Ok tt)
        label_done ms e = record {
          long = same;
          changed = inr lands;
          eased = eased K laws arcs flow ps chosen ls best now.fitting now.long seen the_arc aimed qs b.slack raised up
              (λ s h. subst (λ o. AtMost K o s) best_first.0 h) (short_up K laws own b.slack best_first.1);
          grown = grown;
          ends = (
            link_good K arcs flow qs chosen.arc short ls still_good fits b.over ripe a is ms e,
            same_source K arcs flow qs chosen ls ms now.good.some grown (still_chosen K laws arcs flow ps chosen ls the_arc aimed qs b.slack raised best_first.1 (node_at ls 0) now.wanted),
            link_more K arcs flow qs chosen.arc short ls still_good fits b.over ripe a is ms e,
          );
        }
          where
            grown : Grown ls ms
            grown = link_grown K arcs flow qs chosen.arc short ls still_good fits b.over ripe a is ms e

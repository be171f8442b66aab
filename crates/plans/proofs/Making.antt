-- One call of a list, and one call more.
use Rattle.std.proofs.Common.{◌≡◌, ℕ, ◌+◌, ◌<◌, ◌≤◌, Bool, true, false, cond, List, [], ◌∷◌, ◌++◌, length, get_or, take, drop, set, ℤ, Some, None, Ok, Err, Option, Result, sym, refl, ap, ◌∙◌, subst, subst₂, inl, inr, arith}
use Rattle.std.specs.Option.{option_map}
use Rattle.std.proofs.lemmas.List.{length-set, drop-set-lt, drop-drop, get_or_default}
use Rattle.costs.specs.Kinds.{Kind, Laws}
use Rattle.networks.specs.declared.stops.Stop.{Stop}
use Rattle.networks.specs.Answers.{Told, refusal, unless}
use Rattle.networks.specs.Nets.{Net, IsAt}
use Rattle.networks.specs.Rings.{Places, through_ring}
use Rattle.flows.specs.Settles.{Tables}
use Rattle.runs.specs.declared.calls.Call.{Call}
use Rattle.runs.specs.declared.calls.Outcome.{Outcome}
use Rattle.runs.specs.Outcomes.{done_as}
use Rattle.runs.specs.States.{State}
use Rattle.runs.specs.Events.{Asked, Came, is_granted, Event, event, asked, came, events}
use Rattle.runs.specs.Steps.{Steps}
use Rattle.runs.proofs.Law.{steps_more}
use Rattle.runs.proofs.Since.{events_more}
use Rattle.plans.specs.Keeping.{done_came, Keeps}
use Rattle.plans.specs.Lists.{ShortOfTags, retagged, ring_after, Makes, MakesAll}

-- a call that leaves the tags alone
pub plain_makes : {C : Type 0} {K : Kind C} {p q : State C} {places : Places} {d c : Asked C} → d ≡ c → (y : Outcome C) {o : Came C} → came y ≡ o → retagged places c ≡ places → Keeps K p (event c o) q → Makes K p places d (Some y) q places
plain_makes {K = K} {p} {q} {places} {d} {c} e y is same keeps =
    subst (λ k. Makes K p places k (Some y) q places) (sym e) (subst (λ x. Keeps K p (event c x) q) (sym is) keeps, kept (is_granted (came y)) (retagged places c) same)
  where
    kept : (b : Bool) (xs : Places) → xs ≡ places → places ≡ cond b xs places
    kept true xs e = sym e
    kept false xs e = refl

-- the outcome that an answer comes to, in the words of events
pub done_is : {C : Type 0} (r : Result (Unit {0}) Stop) → came {C = C} (done_as r) ≡ done_came r
done_is (Ok x) = refl
done_is (Err s) = refl

-- a call through the ring: b says whether the tags suffice, s what stops the call
module _ {C : Type 0} (K : Kind C) (n m due : Net C) (t : Tables C) (places after put : Places) (c : Asked C) (s : Option Told) (put_is : retagged places c ≡ put) where
  abbrev here : State C
  here = record { net = n; tables = t }

  abbrev there : State C
  there = record { net = m; tables = t }

  ring : (x : Result (Unit {0}) Stop) → refusal x ≡ s → after ≡ unless s places put → after ≡ cond (is_granted (done_came {C = C} x)) (retagged places c) places
  ring x so left = go s x so left
    where
      go : (z : Option Told) (y : Result (Unit {0}) Stop) → refusal y ≡ z → after ≡ unless z places put → after ≡ cond (is_granted (done_came {C = C} y)) (retagged places c) places
      go None (Ok u) e l = l ∙ sym put_is
      go (Some f) (Ok u) e l = absurd cc
      go None (Err f) e l = absurd cc
      go (Some f) (Err g) e l = l

  abbrev Kept : Type 0
  Kept = (x : Result (Unit {0}) Stop) → refusal x ≡ s → m ≡ due → Keeps K here (event c (done_came x)) there

  -- the call was made
  made : Kept → (x : Result (Unit {0}) Stop) (y : Outcome C) → came y ≡ done_came x → refusal x ≡ s → m ≡ due → after ≡ unless s places put → Makes K here places c (Some y) there after
  made keeps x y is so net-is ring-is = (
    subst (λ z. Keeps K here (event c z) there) (sym is) (keeps x so net-is),
    ring x so ring-is ∙ ap (λ z. cond (is_granted z) (retagged places c) places) (sym is),
  )

  made_by : Kept → (b : Bool) (z : Option Told) → z ≡ s → (r : Option (Result (Unit {0}) Stop)) (o : Option (Outcome C)) → option_map came o ≡ option_map done_came r → option_map refusal r ≡ through_ring b z →
      m ≡ cond b due n → after ≡ cond b (unless s places put) places → (s ≡ None → b ≡ false → ShortOfTags n places c) → ((f : Told) → s ≡ Some f → due ≡ n) → Makes K here places c o there after
  made_by keeps true z e (Some x) (Some y) came-so said-so net-is ring-is short stays = made keeps x y (let h : came y ≡ done_came x = cc in h) (all z said-so ∙ e) net-is ring-is
    where
      all : (z : Option Told) → ◌≡◌ {A = Option (Option Told)} (Some (refusal x)) (through_ring true z) → refusal x ≡ z
      all None h = cc
      all (Some f) h = cc
  made_by keeps true None e None o came-so said-so net-is ring-is short stays = absurd cc
  made_by keeps true (Some f) e None o came-so said-so net-is ring-is short stays = absurd cc
  made_by keeps true z e (Some x) None came-so said-so net-is ring-is short stays = absurd cc
  made_by keeps false None e None None came-so said-so net-is ring-is short stays = (short (sym e) refl, ap (λ (k : Net C). record { net = k; tables = t }) net-is, ring-is)
  made_by keeps false None e None (Some y) came-so said-so net-is ring-is short stays = absurd cc
  made_by keeps false None e (Some x) o came-so said-so net-is ring-is short stays = absurd cc
  made_by keeps false (Some f) e (Some x) (Some y) came-so said-so net-is ring-is short stays =
      let so : refusal x ≡ Some f = cc in
      let is : came y ≡ done_came x = cc in
      made keeps x y is (so ∙ e) (net-is ∙ sym (stays f (sym e))) (ring-is ∙ ap (λ w. unless w places put) e)
  made_by keeps false (Some f) e (Some x) None came-so said-so net-is ring-is short stays = absurd cc
  made_by keeps false (Some f) e None o came-so said-so net-is ring-is short stays = absurd cc

pub ring_makes : {C : Type 0} {K : Kind C} {n m : Net C} (more : Net C) {t : Tables C} (places : Places) {after put : Places} {c d : Asked C} (s : Option Told) → retagged places c ≡ put → d ≡ c → (b : Bool) (r : Option (Result (Unit {0}) Stop)) (o : Option (Outcome C)) →
    option_map came o ≡ option_map done_came r → option_map refusal r ≡ through_ring b s → m ≡ cond b (unless s n more) n → after ≡ cond b (unless s places put) places → (s ≡ None → b ≡ false → ShortOfTags n places c) →
    ((x : Result (Unit {0}) Stop) → refusal x ≡ s → m ≡ unless s n more → Keeps K (record { net = n; tables = t }) (event c (done_came x)) (record { net = m; tables = t })) → Makes K (record { net = n; tables = t }) places d o (record { net = m; tables = t }) after
ring_makes {K = K} {n} {m} more {t} places {after} {put} {c} {d} s put_is e b r o came-so said-so net-is ring-is short keeps =
    subst (λ k. Makes K (record { net = n; tables = t }) places k o (record { net = m; tables = t }) after) (sym e)
    (made_by K n m (unless s n more) t places after put c s put_is keeps b s refl r o came-so said-so net-is ring-is short (λ f q. ap (λ w. unless w n more) q))

-- ---- lists of calls

-- the first i calls of a list have been made
pub record Done {C : Type 0} (K : Kind C) (found : State C) (places : Places) (offers : List ℤ) (calls : List (Call C)) (outs : List (Outcome C)) (i : ℕ) (now : State C) (after : Places) (outcomes : List (Outcome C)) : Type 0 where
  pub among : i ≤ length calls
  pub noted : i ≤ length outcomes
  pub steps : Steps K found (events offers (take i calls) (take i outcomes)) now
  pub ring : after ≡ ring_after places (events offers (take i calls) (take i outcomes))
  pub rest : drop i outcomes ≡ drop i outs
  pub long : length outcomes ≡ length outs

ring_more : {C : Type 0} (places : Places) (es : List (Event C)) (e : Event C) → ring_after places (es ++ (e ∷ [])) ≡ ring_after (ring_after places es) (e ∷ [])
ring_more places [] e = refl
ring_more places (x ∷ es) e = ring_more (cond (is_granted x.outcome) (retagged places x.call) places) es e

-- one call more
pub done_more : {C : Type 0} (K : Kind C) (laws : Laws K) (found now next : State C) (places after later : Places) (offers : List ℤ) (calls : List (Call C)) (outs outcomes : List (Outcome C)) (i : ℕ) (c : Call C) (o : Outcome C) → Done K found places offers calls outs i now after outcomes →
    IsAt calls i c → i < length outs → Makes K now after (asked offers c) (Some o) next later → Done K found places offers calls outs (i + 1) next later (set outcomes i o)
done_more K laws found now next places after later offers calls outs outcomes i c o d (l, at) room (keeps, ring-is) =
    let e = event (asked offers c) (came o) in
    let h : i < length outcomes = omega (arith, room, d.long) in
    let more = events_more offers calls outcomes i c o l h at in
    let long = length-set outcomes i o in
    record {
      among = omega arith;
      noted = omega (arith, long);
      steps = subst (λ es. Steps K found es next) (sym more) (steps_more K laws found now next (events offers (take i calls) (take i outcomes)) e d.steps keeps.step);
      ring = ring-is ∙ ap (λ xs. ring_after xs (e ∷ [])) d.ring ∙ sym (ring_more places (events offers (take i calls) (take i outcomes)) e) ∙ ap (ring_after places) (sym more);
      rest = drop-set-lt (i + 1) outcomes i o (omega arith) ∙ rest_more outcomes outs i d.rest;
      long = long ∙ d.long;
    }
  where
    rest_more : {X : Type 0} (xs ys : List X) (i : ℕ) → drop i xs ≡ drop i ys → drop (i + 1) xs ≡ drop (i + 1) ys
    rest_more xs ys i e = sym (drop-drop 1 i xs) ∙ ap (drop 1) e ∙ drop-drop 1 i ys

pub done_start : {C : Type 0} (K : Kind C) (found : State C) (places : Places) (offers : List ℤ) (calls : List (Call C)) (outs : List (Outcome C)) → Done K found places offers calls outs 0 found places outs
done_start K found places offers calls outs = record { among = omega arith; noted = omega arith; steps = refl; ring = refl; rest = refl; long = refl }

at_same : {X : Type 0} (xs : List X) (i : ℕ) (a b : X) → i < length xs → a ≡ get_or xs i a → b ≡ get_or xs i b → a ≡ b
at_same xs i a b h p q = p ∙ get_or_default xs i a b h ∙ sym q

module _ {C : Type 0} (K : Kind C) (found now : State C) (places after : Places) (offers : List ℤ) (calls : List (Call C)) (outs outcomes : List (Outcome C)) (i : ℕ) (d : Done K found places offers calls outs i now after outcomes) where
  -- no call is left
  pub done_whole : length calls ≤ i → MakesAll K found places offers calls outs i now after outcomes
  done_whole l = record { among = d.among; noted = d.noted; steps = d.steps; ring = d.ring; rest = d.rest; long = d.long; early = λ c there. absurd (omega (arith, there.0)) }

  -- the tags do not suffice for the next
  pub done_short : (next : State C) (later : Places) (c : Call C) → IsAt calls i c → Makes K now after (asked offers c) None next later → MakesAll K found places offers calls outs i next later outcomes
  done_short next later c (l, at) (short, same, ring-same) = record {
    among = d.among;
    noted = d.noted;
    steps = subst (λ z. Steps K found (events offers (take i calls) (take i outcomes)) z) (sym same) d.steps;
    ring = ring-same ∙ d.ring;
    rest = d.rest;
    long = d.long;
    early = λ e there. inr (subst₂ (λ (z : State C) x. ShortOfTags z.net x (asked offers e)) (sym same) (sym ring-same) (subst (λ x. ShortOfTags now.net after (asked offers x)) (at_same calls i c e l at there.1) short));
  }

  -- no outcome is left
  pub done_full : length outcomes ≡ i → MakesAll K found places offers calls outs (length outcomes) now after outcomes
  done_full e = subst (λ k. MakesAll K found places offers calls outs k now after outcomes) (sym e)
      (record { among = d.among; noted = d.noted; steps = d.steps; ring = d.ring; rest = d.rest; long = d.long; early = λ c there. inl (omega (arith, d.long)) })

-- A file that is read was spelled so, and what is spelled so is read; a table that was read opens.
use Rattle.std.proofs.Common.{◌≡◌, ℕ, zero, suc, ◌≤◌, Bool, true, false, cond, eqb, leb, List, [], ◌∷◌, ◌++◌, length, map, pos, Some, None, Ok, Err, Result, sym, refl, ap, ap₂, ◌∙◌, subst, append-nil, arith}
use Rattle.std.specs.List.{flat_map}
use Rattle.std.proofs.lemmas.List.{length-map, length-replicate}
use Rattle.std.proofs.lemmas.Bool.{le-leb}
use Rattle.std.proofs.lemmas.Bool.Decides.{nat_tests}
use Rattle.networks.specs.declared.network.Arc.{Arc}
use Rattle.networks.specs.Limits.{most_nodes, counts_fit}
use Rattle.networks.specs.Answers.{unless}
use Rattle.networks.specs.Nets.{Net, mapped_from, shown_arc, shown}
use Rattle.networks.proofs.Shown.{length_shown}
use Rattle.flows.specs.Stops.{stop_unless, or_else, arc_stop, arcs_stop, lengths_fit, open_stop}
use Rattle.makes.specs.declared.table.Row.{Row}
use Rattle.makes.specs.Bases.{base_net, unfit_net}
use Rattle.makes.specs.Tables.{row_arc, rows_net}
use Rattle.lines.specs.Readings.{Reading, Outcome, start_of}
use Rattle.lines.proofs.Again.{at}
use Rattle.files.specs.declared.faults.FileFault.{FileFault}
use Rattle.files.specs.declared.faults.FileFault.TheVariants.{After}
use Rattle.files.specs.declared.faults.ReadStop.TheVariants as stops
use Rattle.networks.specs.declared.stops.Stop.TheVariants.{Lengths}
use Rattle.files.specs.Kinds.{Tiers, TierLaws, Sized}
use Rattle.files.specs.Tables.{Counts, header_in, rows_in, kept, body_in, in_read, with_counts, roomed, table_in}
use Rattle.files.specs.Texts.{header_text, arc_text, table_text, net_counts, row_of, net_rows, net_text}
use Rattle.files.specs.Stopping.{no_flow, unfit_stop, write_stop}
use Rattle.files.specs.Spelling.{Orderly, Spells}
use Rattle.files.proofs.Takes.{Counted, rows_takes, header_takes}
use Rattle.files.proofs.Again.{rows_reads, header_reads}

-- where no arc can be out, all show as they are
all_shown : {C : Type 0} (k : ℕ) (arcs : List (Arc C)) → mapped_from (λ a. shown_arc false) k arcs ≡ arcs
all_shown k [] = refl
all_shown k (x ∷ xs) = ap (λ z. x ∷ z) (all_shown (suc k) xs)

rows_back : {C : Type 0} (rows : List (Row C)) → map row_of (map row_arc rows) ≡ rows
rows_back [] = refl
rows_back (x ∷ xs) = ap (λ z. x ∷ z) (rows_back xs)

-- the stops look at ends, cost and bounds alone
same_stops : {C : Type 0} (size : C → ℕ) (nodes k : ℕ) (arcs : List (Arc C)) (flow : ℕ) → arcs_stop size nodes k (map row_arc (map row_of arcs)) (no_flow flow) ≡ arcs_stop size nodes k arcs (no_flow flow)
same_stops size nodes k [] flow = refl
same_stops size nodes k (x ∷ xs) zero = refl
same_stops size nodes k (x ∷ xs) (suc n) = ap (or_else (arc_stop size nodes k x (pos 0))) (same_stops size nodes (suc k) xs n)

-- the parts of order
pub record Ordered {C : Type 0} (size : C → ℕ) (h : Counts) (rows : List (Row C)) : Type 0 where
  pub counts : counts_fit h.nodes h.arcs ≡ true
  pub rows_are : length rows ≡ h.arcs
  pub arcs : arcs_stop size h.nodes 1 (map row_arc rows) (no_flow h.arcs) ≡ None

module _ {C : Type 0} (size : C → ℕ) (h : Counts) (rows : List (Row C)) where
  net_is : counts_fit h.nodes h.arcs ≡ true → length rows ≡ h.arcs → rows_net h.nodes h.arcs rows ≡ base_net h.nodes (map row_arc rows)
  net_is c l =
      let e : eqb (length rows) h.arcs ≡ true = grind (arith, nat_tests) in
      ap (λ o. unless o unfit_net (base_net h.nodes (map row_arc rows)))
      (ap (λ b. cond b (cond (eqb (length rows) h.arcs) None (Some (2, 0))) (Some (1, 0))) c ∙ ap (λ b. cond b None (Some (2, 0))) e)

  base_stop : length rows ≡ h.arcs → unfit_stop size (base_net h.nodes (map row_arc rows)) ≡ stop_unless (counts_fit h.nodes h.arcs) 1 0 (arcs_stop size h.nodes 1 (map row_arc rows) (no_flow h.arcs))
  base_stop l = ap₂ (λ n xs. stop_unless (counts_fit h.nodes n) 1 0 (arcs_stop size h.nodes 1 xs (no_flow n))) (length-map rows row_arc ∙ l) (all_shown 1 (map row_arc rows))

  pub unstopped : Ordered size h rows → unfit_stop size (rows_net h.nodes h.arcs rows) ≡ None
  unstopped o =
      ap (unfit_stop size) (net_is o.counts o.rows_are) ∙ base_stop o.rows_are
      ∙ ap (λ b. cond b (arcs_stop size h.nodes 1 (map row_arc rows) (no_flow h.arcs)) (Some (1, 0))) o.counts ∙ o.arcs

  pub ordered : unfit_stop size (rows_net h.nodes h.arcs rows) ≡ None → Ordered size h rows
  ordered e = go (counts_fit h.nodes h.arcs) (eqb (length rows) h.arcs) refl refl e
    where
      none : unfit_stop size (unfit_net {C = C}) ≡ None → ⊥
      none e = cc

      tested : (b : Bool) → counts_fit h.nodes h.arcs ≡ b → length rows ≡ h.arcs → cond b (arcs_stop size h.nodes 1 (map row_arc rows) (no_flow h.arcs)) (Some (1, 0)) ≡ None → Ordered size h rows
      tested true c l e = record { counts = c; rows_are = l; arcs = e }
      tested false c l e = absurd cc

      go : (b d : Bool) → counts_fit h.nodes h.arcs ≡ b → eqb (length rows) h.arcs ≡ d
          → unfit_stop size (unless (cond b (cond d None (Some (2, 0))) (Some (1, 0))) unfit_net (base_net h.nodes (map row_arc rows))) ≡ None → Ordered size h rows
      go true true c d e = let l : length rows ≡ h.arcs = grind (arith, nat_tests) in tested true c l (sym (ap (λ b. cond b (arcs_stop size h.nodes 1 (map row_arc rows) (no_flow h.arcs)) (Some (1, 0))) c) ∙ sym (base_stop l) ∙ e)
      go true false c d e = absurd (none e)
      go false d c f e = absurd (none e)

  -- the text of the table of these rows
  pub text_of_table : (t : Tiers C) → Orderly size t h rows → net_text t (rows_net h.nodes h.arcs rows) ≡ table_text t h rows
  text_of_table t o =
      let p = ordered o.unstopped in
      ap (net_text t) (net_is p.counts p.rows_are)
      ∙ ap₂ (λ n xs. table_text t (record { nodes = h.nodes; arcs = n; tiers = t.count }) xs) (length-map rows row_arc ∙ p.rows_are) (ap (map row_of) (all_shown 1 (map row_arc rows)) ∙ rows_back rows)
      ∙ ap (λ k. table_text t (record { nodes = h.nodes; arcs = h.arcs; tiers = k }) rows) (sym o.tiers)

  -- nothing stops its opening at no flow
  pub opens : {t : Tiers C} → Orderly size t h rows → open_stop size (rows_net h.nodes h.arcs rows) (no_flow h.arcs) h.nodes h.nodes h.nodes ≡ None
  opens o =
      let p = ordered o.unstopped in
      let long : lengths_fit h.nodes h.arcs (length (no_flow h.arcs)) h.nodes h.nodes h.nodes ≡ true = (let l = length-replicate h.arcs (pos 0) in grind (arith, nat_tests)) in
      ap (λ n. open_stop size n (no_flow h.arcs) h.nodes h.nodes h.nodes) (net_is p.counts p.rows_are)
      ∙ ap₂ (λ k xs. stop_unless (counts_fit h.nodes k) 1 0 (stop_unless (lengths_fit h.nodes k (length (no_flow h.arcs)) h.nodes h.nodes h.nodes) 2 0 (or_else (arcs_stop size h.nodes 1 xs (no_flow h.arcs)) None)))
      (length-map rows row_arc ∙ p.rows_are) (all_shown 1 (map row_arc rows))
      ∙ ap₂ (λ b d. stop_unless b 1 0 (stop_unless d 2 0 (or_else (arcs_stop size h.nodes 1 (map row_arc rows) (no_flow h.arcs)) None))) p.counts long
      ∙ ap (λ o. or_else o None) p.arcs

-- a network that can be written has its rows in order
pub orderly_net : {C : Type 0} (size : C → ℕ) (t : Tiers C) (n : Net C) → unfit_stop size n ≡ None → Orderly size t (net_counts t n) (net_rows n)
orderly_net size t n e = record { tiers = refl; unstopped = unstopped size (net_counts t n) (net_rows n) (go (counts_fit n.nodes (length n.arcs)) refl e) }
  where
    go : (b : Bool) → counts_fit n.nodes (length n.arcs) ≡ b → cond b (arcs_stop size n.nodes 1 (shown n) (no_flow (length n.arcs))) (Some (1, 0)) ≡ None → Ordered size (net_counts t n) (net_rows n)
    go true c e = record { counts = c; rows_are = length-map (shown n) row_of ∙ length_shown n; arcs = same_stops size n.nodes 1 (shown n) (length n.arcs) ∙ e }
    go false c e = absurd cc

module _ {C : Type 0} (size : C → ℕ) (t : Tiers C) (laws : TierLaws t) (sized : Sized size t) where
  kept_rows : (o : Outcome (List (Row C))) (rows : List (Row C)) → kept o ≡ Ok rows → (n : List (Row C) × Reading) × ((o ≡ Ok n) × ((n.1.rest ≡ []) × (n.0 ≡ rows)))
  kept_rows (Ok n) rows e = (n, (refl, go (eqb (length n.1.rest) 0) refl e))
    where
      empty : (xs : List ℕ) → length xs ≡ 0 → xs ≡ []
      empty [] e = refl
      empty (x ∷ xs) e = absurd (omega arith)

      go : (b : Bool) → eqb (length n.1.rest) 0 ≡ b → cond b (Ok n.0) (Err (After n.1.spot.line)) ≡ Ok rows → (n.1.rest ≡ []) × (n.0 ≡ rows)
      go true q e = let l : length n.1.rest ≡ 0 = grind (arith, nat_tests) in (empty n.1.rest l, cc)
      go false q e = absurd cc
  kept_rows (Err x) rows e = absurd cc

  -- what is read was spelled so
  pub was_spelled : (room : ℕ) (text : List ℕ) (y : Counts × List (Row C)) → table_in t room text ≡ Ok y → Spells size t y.0 y.1 text
  was_spelled room text y e = go (header_in t.count t.count (start_of text)) refl e
    where
      lines : (m : Counts × Reading) (rows : List (Row C)) → header_in t.count t.count (start_of text) ≡ Ok m → body_in t m.0 m.1 ≡ Ok rows → Spells size t m.0 rows text
      lines m rows p q =
          let k = kept_rows (rows_in t m.0.nodes m.0.arcs m.1) rows q in
          let h = header_takes t.count t.count (start_of text) m p in
          let l = rows_takes size t laws sized m.0.nodes m.0.arcs m.1 k.0 k.1.0 in
          let c : counts_fit m.0.nodes m.0.arcs ≡ true = (let a = h.1.nodes in let b = h.1.arcs in grind (arith, nat_tests)) in
          let tiers : m.0.tiers ≡ t.count = (let a = h.1.tiers in omega arith) in
          let whole = h.0 ∙ ap (λ v. header_text m.0 ++ v) (l.0 ∙ ap (λ v. flat_map (arc_text t) k.0.0 ++ v) k.1.1.0 ∙ append-nil (flat_map (arc_text t) k.0.0)) in
          subst (λ z. Spells size t m.0 z text) k.1.1.1
          (record {
            orderly = record { tiers = tiers; unstopped = unstopped size m.0 k.0.0 (record { counts = c; rows_are = l.1.0; arcs = l.1.1 1 }) };
            text_is = whole;
          })

      whole : (b : Bool) (m : Counts × Reading) (w : Result (List (Row C)) FileFault) → ((rows : List (Row C)) → w ≡ Ok rows → Spells size t m.0 rows text)
          → cond b (with_counts m.0 (in_read w)) (Err (stops.Stop Lengths)) ≡ Ok y → Spells size t y.0 y.1 text
      whole true m (Ok rows) f e = let i : (m.0, rows) ≡ y = cc in subst (λ z. Spells size t z.0 z.1 text) i (f rows refl)
      whole true m (Err x) f e = absurd cc
      whole false m w f e = absurd cc

      go : (o : Outcome Counts) → header_in t.count t.count (start_of text) ≡ o → roomed t room o ≡ Ok y → Spells size t y.0 y.1 text
      go (Ok m) p e = whole (leb m.0.arcs room) m (body_in t m.0 m.1) (λ rows q. lines m rows p q) e
      go (Err x) p e = absurd cc

  -- what is spelled so is read
  pub is_read : (room : ℕ) (h : Counts) (rows : List (Row C)) → Orderly size t h rows → h.arcs ≤ room → table_in t room (table_text t h rows) ≡ Ok (h, rows)
  is_read room h rows o l =
      let p = ordered size h rows o.unstopped in
      let body = flat_map (arc_text t) rows in
      let few : h.nodes ≤ most_nodes = (let c = p.counts in grind (arith, nat_tests)) in
      let c : Counted t.count t.count h = record {
        nodes = (let c = p.counts in (grind (arith, nat_tests), grind (arith, nat_tests)));
        arcs = (let c = p.counts in grind (arith, nat_tests));
        tiers = (let i = o.tiers in (omega arith, omega arith));
      } in
      let first = header_reads t.count t.count h (record { line = 1; place = 1 }) body laws.few c in
      let none : arcs_stop size h.nodes 1 (map row_arc rows) (no_flow (length rows)) ≡ None = ap (λ k. arcs_stop size h.nodes 1 (map row_arc rows) (no_flow k)) p.rows_are ∙ p.arcs in
      let rest = rows_reads size t laws sized h.nodes few rows 1 first.0 [] none in
      let read : rows_in t h.nodes h.arcs (at first.0 body) ≡ Ok (rows, at rest.0 []) =
      ap₂ (λ k v. rows_in t h.nodes k (at first.0 v)) (sym p.rows_are) (sym (append-nil body)) ∙ rest.1 in
      ap (roomed t room) first.1
      ∙ ap (λ b. cond b (with_counts h (in_read (kept (rows_in t h.nodes h.arcs (at first.0 body))))) (Err (stops.Stop Lengths))) (le-leb h.arcs room l)
      ∙ ap (λ w. with_counts h (in_read (kept w))) read

-- the table of rows that were read is written as the text that they were read of
pub text_again : {C : Type 0} (size : C → ℕ) (t : Tiers C) (h : Counts) (rows : List (Row C)) (text : List ℕ) (n : Net C) (room : ℕ) → Spells size t h rows text → n ≡ rows_net h.nodes h.arcs rows → room ≡ length text
    → (net_text t n ≡ text) × (write_stop size t n room ≡ None)
text_again size t h rows text n room s e l =
    let is : net_text t n ≡ text = ap (net_text t) e ∙ text_of_table size h rows t s.orderly ∙ sym s.text_is in
    let fits : leb (length (net_text t n)) room ≡ true = le-leb (length (net_text t n)) room (let i = ap length is in omega arith) in
    (is, ap₂ or_else (ap (unfit_stop size) e ∙ s.orderly.unstopped) (ap (λ b. cond b None (Some (2, 0))) fits))

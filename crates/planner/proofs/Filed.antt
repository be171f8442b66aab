-- What came of a table that was read, or was not, and the text of it.
use Rattle.std.proofs.Common.{◌≡◌, ℕ, List, ◌++◌, length, drop, replicate, ℤ, pos, Ok, Err, Result, sym, refl, ap, ◌∙◌, subst, ap₂, arith}
use Rattle.std.proofs.Math.Seq.{drop-length}
use Rattle.std.proofs.lemmas.List.{append-nil}
use Rattle.costs.specs.Kinds.{Kind}
use Rattle.costs.specs.Models.{plain_kind, two_tier_kind}
use Rattle.networks.specs.declared.stops.Stop.{Stop}
use Rattle.networks.specs.Nets.{Net}
use Rattle.makes.specs.declared.table.Row.{Row}
use Rattle.makes.specs.Tables.{rows_net}
use Rattle.search.specs.declared.settling.Answer.{Answer}
use Rattle.runs.specs.States.{State, state}
use Rattle.files.specs.declared.faults.ReadStop.{ReadStop}
use Rattle.files.specs.declared.faults.FileFault.{FileFault}
use Rattle.files.specs.declared.faults.ReadStop.TheVariants.{Fault}
use Rattle.files.specs.Kinds.{Tiers, plain_tiers, two_tiers}
use Rattle.files.specs.Tables.{Counts, counts_of, table_in, header_of, rows_after}
use Rattle.files.proofs.Headed.{counts_read, rows_read}
use Rattle.planner.specs.Once.{SettlesOnce}
use Rattle.planner.specs.Texts.{refusal_line, cost_text, answer_text}
use Rattle.planner.specs.Files.{as_read, begun, SettledFile, TableText, TextBy}

-- rows that fill what was lent
filled : {C : Type 0} (lent rows : List (Row C)) → length lent ≡ length rows → rows ++ drop (length rows) lent ≡ rows
filled lent rows e = ap (λ n. rows ++ drop n lent) (sym e) ∙ ap (λ zs. rows ++ zs) (drop-length lent) ∙ append-nil rows

module _ {C : Type 0} (K : Kind C) (flow needs : List ℤ) (prices : List C) (marks : List ℕ) (lent : List (Row C)) where
  abbrev pub found : List (Row C) → ℕ → ℕ → State C
  found rows nodes arcs = state (rows_net nodes arcs rows) flow needs prices marks

  -- it was not read
  pub not_read : (T : Result (Counts × List (Row C)) ReadStop) (s : ReadStop) → Err s ≡ header_of T → SettledFile K found lent T (Err s) flow marks
  not_read (Ok x) s e = absurd cc
  not_read (Err t) s e = let i : s ≡ t = cc in ap Err i

  -- it was, and its plan settled
  pub read_settled : (T : Result (Counts × List (Row C)) ReadStop) (h : Counts) (rows : List (Row C)) (n : Net C) (r : Result (Answer C) ReadStop) (answer : Result (Answer C) Stop) (left : State C) →
      Ok h ≡ header_of T → rows ≡ rows_after lent T → n ≡ rows_net h.nodes h.arcs rows → SettlesOnce K h.arcs (state n flow needs prices marks) answer left → r ≡ as_read answer → SettledFile K found lent T r left.tables.flow left.tables.marks
  read_settled (Err t) h rows n r answer left e q o s told = absurd cc
  read_settled (Ok x) h rows n r answer left e q o s told =
      let i : h ≡ x.0 = cc in
      let counted = subst (λ k. SettlesOnce K k.arcs (state n flow needs prices marks) answer left) i s in
      record {
        answer = answer;
        left = left;
        settles = subst (λ m. SettlesOnce K x.0.arcs (state m flow needs prices marks) answer left) (o ∙ ap₂ (λ rows k. rows_net k.nodes k.arcs rows) q i) counted;
        told = told;
        flow_is = refl;
        marks_are = refl;
      }

  -- over zeros it began as the file's plan does
  module _ (t : Tiers C) (file : List ℕ) (h : Counts) (first : counts_of file ≡ Ok h) (long : length lent ≡ h.arcs)
      (flow_is : flow ≡ replicate h.arcs (pos 0)) (needs_are : needs ≡ replicate h.nodes (pos 0)) (prices_are : prices ≡ replicate h.nodes K.zero) (marks_are : marks ≡ replicate h.nodes 0) where
    begins : (x : Counts × List (Row C)) → table_in t (length lent) file ≡ Ok x → found (rows_after lent (Ok x)) x.0.nodes x.0.arcs ≡ begun K x.0 x.1
    begins x read =
        let e : x.0 ≡ h = counts_read t (length lent) file h x first read in
        let l : length x.1 ≡ x.0.arcs = rows_read t (length lent) file x read in
        let rows : rows_after lent (Ok x) ≡ x.1 = filled lent x.1 (long ∙ sym (l ∙ ap (λ k. k.arcs) e)) in
        ap (λ zs. found zs x.0.nodes x.0.arcs) rows
        ∙ ap₂ (λ fs ns. state (rows_net x.0.nodes x.0.arcs x.1) fs ns prices marks) (flow_is ∙ ap (λ k. replicate k.arcs (pos 0)) (sym e)) (needs_are ∙ ap (λ k. replicate k.nodes (pos 0)) (sym e))
        ∙ ap₂ (λ ps ms. state (rows_net x.0.nodes x.0.arcs x.1) (replicate x.0.arcs (pos 0)) (replicate x.0.nodes (pos 0)) ps ms) (prices_are ∙ ap (λ k. replicate k.nodes K.zero) (sym e)) (marks_are ∙ ap (λ k. replicate k.nodes 0) (sym e))

    -- the text of a table by what came of it
    pub table_text : (r : Result (Answer C) ReadStop) (carried : List ℤ) (marked text : List ℕ) →
        SettledFile K found lent (table_in t (length lent) file) r carried marked → text ≡ answer_text (cost_text t) r carried marked → TableText K t (table_in t h.arcs file) text
    table_text r carried marked text settled says =
        subst (λ room. TableText K t (table_in t room file) text) long (go (table_in t (length lent) file) begins settled)
      where
        go : (T : Result (Counts × List (Row C)) ReadStop) → ((x : Counts × List (Row C)) → T ≡ Ok x → found (rows_after lent (Ok x)) x.0.nodes x.0.arcs ≡ begun K x.0 x.1) → SettledFile K found lent T r carried marked → TableText K t T text
        go (Err s) same d = says ∙ ap (λ z. answer_text (cost_text t) z carried marked) d
        go (Ok x) same d = record {
          answer = d.answer;
          left = d.left;
          settles = subst (λ p. SettlesOnce K x.0.arcs p d.answer d.left) (same x refl) d.settles;
          says = says ∙ ap (λ z. answer_text (cost_text t) z carried marked) d.told ∙ ap₂ (λ fs ms. answer_text (cost_text t) (as_read d.answer) fs ms) d.flow_is d.marks_are;
        }

module _ (file text : List ℕ) where
  -- the first line is not in order
  pub file_refused : (fault : FileFault) → Err fault ≡ counts_of file → text ≡ refusal_line (Fault fault) → TextBy file (counts_of file) text
  file_refused fault e d = subst (λ r. TextBy file r text) e d

  -- it is, and costs have one number, or two
  pub file_one : (h : Counts) → Ok h ≡ counts_of file → h.tiers ≡ 1 → TableText plain_kind plain_tiers (table_in plain_tiers h.arcs file) text → TextBy file (counts_of file) text
  file_one h e one d = subst (λ r. TextBy file r text) e ((λ _. d), (λ two. absurd (omega (arith, one, two))))

  pub file_two : (h : Counts) → Ok h ≡ counts_of file → h.tiers ≡ 2 → TableText two_tier_kind two_tiers (table_in two_tiers h.arcs file) text → TextBy file (counts_of file) text
  file_two h e two d = subst (λ r. TextBy file r text) e ((λ one. absurd (omega (arith, one, two))), (λ _. d))

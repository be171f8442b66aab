-- What the rows of a table hold, once it is known what it means.
use Rattle.std.proofs.Common.{◌≡◌, ℕ, Bool, true, false, cond, eqb, List, [], map, length, set, ℤ, Some, None, Option, sym, refl, ap, ◌∙◌, subst}
use Rattle.std.specs.Option.{option_map, unwrap_or}
use Rattle.std.proofs.lemmas.List.{length-set}
use Rattle.std.proofs.lemmas.Bool.{cond-true, eq-eqb}
use Rattle.networks.specs.declared.network.Arc.{Arc}
use Rattle.networks.specs.Limits.{counts_fit}
use Rattle.networks.specs.Answers.{Told, unless}
use Rattle.networks.specs.Nets.{Net, numbered, replaced, rebounded, with_bounds, rebound_stop}
use Rattle.networks.proofs.Numbered.{length_mapped}
use Rattle.makes.specs.declared.table.Row.{Row}
use Rattle.makes.specs.Bases.{base_net, unfit_net, arcs_from, shown_of}
use Rattle.makes.specs.Tables.{table_stop, row_arc, rows_net}
use Rattle.makes.proofs.Tables.{as_they_stand}

-- ---- a rebound leaves the counts

same_length : {X : Type 0} (xs : List X) (a : ℕ) (o : Option X) → length (replaced xs a o) ≡ length xs
same_length xs a None = refl
same_length xs a (Some x) = length-set xs _ x

same_counts : {C : Type 0} (s : Option Told) (n m : Net C) → m.nodes ≡ n.nodes → length m.arcs ≡ length n.arcs → ((unless s n m).nodes ≡ n.nodes) × (length (unless s n m).arcs ≡ length n.arcs)
same_counts None n m e l = (e, l)
same_counts (Some s) n m e l = (refl, refl)

module _ {C : Type 0} (n : Net C) (a : ℕ) (lo hi : ℤ) where
  abbrev after : Net C
  after = record { nodes = n.nodes; arcs = replaced n.arcs a (option_map (with_bounds lo hi) (numbered n.arcs a)); locks = n.locks }

  pub rebounded_counts : ((rebounded n a lo hi).nodes ≡ n.nodes) × (length (rebounded n a lo hi).arcs ≡ length n.arcs)
  rebounded_counts = same_counts (rebound_stop n a) n after refl (same_length n.arcs a (option_map (with_bounds lo hi) (numbered n.arcs a)))

-- ---- a table that means a network of the counts that it was made for

module _ {C : Type 0} (nodes arcs : ℕ) (fits : counts_fit nodes arcs ≡ true) (m : Net C) (so_many : m.nodes ≡ nodes) (long : length m.arcs ≡ arcs) where
  pub held : (o : Option ℕ) (rows : List (Row C)) → base_net (unwrap_or o 0) (arcs_from (λ a r. row_arc r) 1 (shown_of o rows)) ≡ m → rows_net nodes arcs rows ≡ m
  held None rows e =
      let z : nodes ≡ 0 = sym so_many ∙ sym (ap (λ (x : Net C). x.nodes) e) in
      let bad : counts_fit 0 arcs ≡ true = subst (λ k. counts_fit k arcs ≡ true) z fits in
      cc
  held (Some k) rows e =
      let z : nodes ≡ k = sym so_many ∙ sym (ap (λ (x : Net C). x.nodes) e) in
      let len : length rows ≡ arcs = sym (length_mapped (λ a r. row_arc r) 1 rows) ∙ ap (λ (x : Net C). length x.arcs) e ∙ long in
      let none : table_stop nodes arcs (length rows) ≡ None = cond-true _ _ _ fits ∙ cond-true _ _ _ (eq-eqb (length rows) arcs len) in
      ap (λ s. unless s unfit_net (base_net nodes (map row_arc rows))) none
      ∙ ap (base_net nodes) (sym (as_they_stand 1 rows))
      ∙ ap (λ j. base_net j (arcs_from (λ a r. row_arc r) 1 rows)) z
      ∙ e

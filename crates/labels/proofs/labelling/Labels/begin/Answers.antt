use Rattle.std.proofs.Common.{◌≡◌, ℕ, ◌-◌, ◌<◌, ◌≤◌, List, [], get_or, replicate, sym, refl, ap, ◌∙◌, subst, ⊎_elim, arith}
use Rattle.std.proofs.lemmas.List.{length-replicate, get_or-replicate, get_or_past}
use Rattle.std.proofs.lemmas.Bool.{cases_lt}
use Rattle.labels.specs.declared.labelling.Entry.{Entry}
use Rattle.labels.specs.declared.labelling.Labels.{Labels}
use Rattle.labels.specs.Good.{Whole, Begun, pushed}
use Rattle.labels.proofs.More.{whole_more, entry_new}
use Rattle.labels.proofs.labelling.Labels.begin.Goals as goal

abbrev empty : Labels
empty = record { places = replicate 256 0; entries = record { items = [] } }

abbrev zeros : List ℕ
zeros = replicate 256 0

no_place : (i : ℕ) → get_or zeros i 0 ≡ 0
no_place i = ⊎_elim (λ (h : i < 256). get_or-replicate 256 i 0 0 h) (λ (h : 256 ≤ i). get_or_past zeros i 0 h) (cases_lt i 256)

none : (N : ℕ) → Whole N empty
none N = record {
  places_long = length-replicate {A = ℕ} 256 0;
  few = omega arith;
  tally = refl;
  nodes = λ k h. absurd (omega arith);
  placed = λ k h. absurd (omega arith);
  holds = λ n l h. absurd (let z = no_place (n - 1) in omega arith);
}

begun : (source : ℕ) (e : Entry) → e.node ≡ source → 1 ≤ source → source ≤ 256 → Begun source (pushed empty e)
begun source e q low high = record {
  whole = λ N h few. whole_more N few empty (none N) e (omega arith) (omega arith) (no_place (e.node - 1));
  one = refl;
  starts = ap (λ z. z.node) (entry_new 256 (omega arith) empty (none 256) e (omega arith) (omega arith) (no_place (e.node - 1))) ∙ q;
}

pub returns : goal.returns
returns c =
    let e : Entry = record { node = c.args.source; parent = c.default.result.parent; step = c.default.result.step } in
    subst (Begun c.args.source) (sym c.push.ensures) (subst (λ xs. Begun c.args.source (pushed (record { places = zeros; entries = record { items = xs } }) e)) (sym c.new.ensures) (begun c.args.source e refl c.requires.0 c.requires.1))

-- What stands in the bytes where nothing stops the writing, and what is read of them again.
use Rattle.std.proofs.Common.{◌≡◌, ℕ, ◌≤◌, cond, leb, Some, None, Ok, Err, Result, sym, ap, ◌∙◌, length, take, drop, take_at, List, Option, arith}
use Rattle.std.specs.Prelude.{IfOk}
use Rattle.networks.specs.declared.stops.Stop.{Stop}
use Rattle.networks.specs.Nets.{Net}
use Rattle.files.specs.Kinds.{Tiers, TierLaws, Sized}
use Rattle.files.specs.Tables.{table_in}
use Rattle.std.proofs.lemmas.Bool.{le-leb}
use Rattle.networks.specs.Answers.{Told, unless}
use Rattle.makes.specs.Tables.{table_net}
use Rattle.flows.specs.Stops.{or_else}
use Rattle.files.specs.Sheets.{over, written}
use Rattle.files.specs.Texts.{net_text, net_counts, net_rows}
use Rattle.files.specs.Stopping.{unfit_stop}
use Rattle.files.proofs.Laws.{is_read, orderly_net}
use Rattle.files.proofs.Overlaid.{over_whole}
use Rattle.files.proofs.writing.write_table.Goals as goal

wrote : (text old new : List ℕ) (unfit : Option Told) → None ≡ unfit → length text ≤ length old → new ≡ over old 0 text
    → new ≡ unless (or_else unfit (cond (leb (length text) (length old)) None (Some (2, 0)))) old (written text old)
wrote text old new unfit e h p =
    p ∙ over_whole old text h ∙ sym (ap (λ u. unless (or_else u (cond (leb (length text) (length old)) None (Some (2, 0)))) old (written text old)) (sym e) ∙ ap (λ b. unless (cond b None (Some (2, 0))) old (written text old)) (le-leb _ _ h))

pub returns-clause-leaves : goal.returns-clause-leaves
returns-clause-leaves g c =
    let n = table_net c.args.table.now in
    let text = net_text g.C.FileCost.numbers n in
    let unfit = unfit_stop g.C.CostKind.kind.size n in
    let a = c.in_ok-check_fit.ensures in
    wrote text c.args.out.now c.write_text-2.new.out unfit a (omega (arith, c.write_text.ensures.answers)) c.write_text-2.ensures.leaves

-- what was written is read
back : {C : Type 0} (size : C → ℕ) (t : Tiers C) (laws : TierLaws t) (sized : Sized size t) (n : Net C) (old new : List ℕ) (r : Result ℕ Stop) → None ≡ unfit_stop size n → r ≡ Ok (length (net_text t n)) → new ≡ written (net_text t n) old
    → IfOk r (λ k. (room : ℕ) → length n.arcs ≤ room → table_in t room (take k new) ≡ Ok (net_counts t n, net_rows n))
back size t laws sized n old new (Ok k) e f w =
    let i : k ≡ length (net_text t n) = cc in
    λ room l. ap (table_in t room) (ap (take k) w ∙ take_at (net_text t n) (drop (length (net_text t n)) old) k (sym i)) ∙ is_read size t laws sized room (net_counts t n) (net_rows n) (orderly_net size t n (sym e)) l
back size t laws sized n old new (Err x) e f w = absurd cc

pub returns-clause-back : goal.returns-clause-back
returns-clause-back g c =
    let n = table_net c.args.table.now in
    let t = g.C.FileCost.numbers in
    let text = net_text t n in
    let fits : length text ≤ length c.args.out.now = omega (arith, c.write_text.ensures.answers) in
    let k : c.write_text-2.result ≡ length text = omega (arith, c.write_text.ensures.answers, c.write_text-2.ensures.answers) in
    back g.C.CostKind.kind.size t g.met.C.FileCost.written g.met.C.FileCost.sized n c.args.out.now c.write_text-2.new.out (Ok c.write_text-2.result) c.in_ok-check_fit.ensures (ap Ok k)
    (c.write_text-2.ensures.leaves ∙ over_whole c.args.out.now text fits)

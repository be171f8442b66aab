use Rattle.std.proofs.Common.{◌≡◌, ◌≤◌, List, [], map, sym, refl, ap, ◌∙◌, arith}
use Rattle.std.specs.List.{flat_map}
use Rattle.networks.specs.declared.network.Arc.{Arc}
use Rattle.networks.specs.Limits.{most_counted}
use Rattle.files.specs.Kinds.{Tiers}
use Rattle.files.specs.Texts.{arc_text, row_of}
use Rattle.files.specs.Sheets.{Sheet, inked}
use Rattle.files.specs.Pens.{sheet}
use Rattle.files.proofs.Overlaid.{inked_none, inked_next, length-inked}
use Rattle.files.proofs.writing.write_arcs.Goals as goal

-- the arcs are those of the iterator
all_lines : {C : Type 0} (t : Tiers C) (left arcs : List (Arc C)) (s : Sheet) → left ≡ arcs → inked (flat_map (arc_text t) (map row_of left)) s ≡ inked (flat_map (arc_text t) (map row_of arcs)) s
all_lines t left arcs s e = ap (λ z. inked (flat_map (arc_text t) (map row_of z)) s) e

pub loop-arc-init : goal.loop-arc-init
loop-arc-init g c =
    let i = c.into_iter-arc-iterator.ensures.into_iter_gives in
    (omega arith, refl, rw i (all_lines g.C.FileCost.numbers _ _ (sheet c.args.pen.now) c.arcs_of-arc-items.ensures))

-- none is left
no_lines : {C : Type 0} (t : Tiers C) (left : List (Arc C)) (s : Sheet) → s.count ≤ most_counted → left ≡ [] → s ≡ inked (flat_map (arc_text t) (map row_of left)) s
no_lines t left s h e = sym (ap (λ z. inked (flat_map (arc_text t) (map row_of z)) s) e ∙ inked_none s h)

pub loop-arc-preserved : goal.loop-arc-preserved
loop-arc-preserved g c =
    let s = sheet c.loop-arc.pen in
    let u = sheet c.write_arc.new.pen in
    let p = c.write_arc.ensures.is in (
      omega (arith, length-inked _ s u p, c.loop-arc.invariant.0),
      c.write_arc.ensures.same_reference ∙ c.loop-arc.invariant.1,
      inked_next (arc_text g.C.FileCost.numbers) row_of c.in-Some.arc _ _ s u c.loop-arc.invariant.0 c.in-Some.ensures.steps p ∙ c.loop-arc.invariant.2,
    )

pub returns-clause-is : goal.returns-clause-is
returns-clause-is g c =
    no_lines g.C.FileCost.numbers _ (sheet c.loop-arc.pen) c.loop-arc.pen.counted c.in-None.ensures.steps.0 ∙ c.loop-arc.invariant.2

use Rattle.std.proofs.Common.{◌≡◌, ℕ, List, [], ◌∷◌, ◌++◌, length, take, ap, ◌∙◌, subst, refl, arith}
use Rattle.std.proofs.lemmas.List.{reverse-append, take_all, drop_all, append-nil}
use Rattle.std.specs.Prelude.{reverse}
use Rattle.std.specs.List.{refill}
use Rattle.labels.specs.Ways.{Way}
use Rattle.labels.proofs.laps.trace.Goals as goal

refill_whole : {X : Type 0} (n : ℕ) (xs ws : List X) → n ≡ length xs → length ws ≡ length xs → refill n xs ws ≡ ws
refill_whole n xs ws e l = ap (λ z. take n (ws ++ z)) (drop_all (length ws) xs (omega arith)) ∙ ap (take n) (append-nil ws) ∙ take_all n ws (omega arith)

pub returns : goal.returns
returns c =
    let p = c.push-2.new.self.items in
    let zero : c.loop-k.k ≡ 0 = omega arith in
    let e : c.reverse.new.self ≡ c.args.chosen ∷ reverse c.loop-k.steps.items = c.reverse.ensures.after ∙ ap reverse (c.as_mut_slice.ensures.value ∙ c.push-2.ensures.items) ∙ reverse-append c.loop-k.steps.items (c.args.chosen ∷ []) in
    (reverse c.loop-k.steps.items, refill_whole (length p) p c.reverse.new.self refl (c.reverse.ensures.len ∙ ap length c.as_mut_slice.ensures.value) ∙ e, subst (λ z. Way c.args.labels.now z (reverse c.loop-k.steps.items) c.args.place) zero c.loop-k.invariant.2)

-- A text over the bytes.
use Rattle.std.proofs.Common.{◌≡◌, ◌+◌, ◌-◌, ◌++◌, min, length, take, drop, ap, ap₂, ◌∙◌, arith}
use Rattle.networks.specs.Limits.{most_counted}
use Rattle.files.specs.Sheets.{inked}
use Rattle.files.proofs.Overlaid.{put_down}
use Rattle.files.proofs.pen.Pen.put.Goals as goal

pub returns-clause-is : goal.returns-clause-is
unfolding inked
returns-clause-is c =
    let old = c.args.self.now in
    let text = c.args.text.now in
    let start = c.min-start.result in
    let k = c.min.result - start in
    let l : length (take k (drop start old.out.now)) ≡ k = omega (arith, c.copy_from_slice.ensures.after) in
    let put = c.copy_from_slice.ensures.after ∙ ap (λ n. take n text) l in
    let count : c.saturating_add-self.result ≡ min (old.count + length text) most_counted = omega arith in
    ap₂ (λ bytes n. record { bytes = bytes; count = n }) (ap (λ ys. take start old.out.now ++ (ys ++ drop k (drop start old.out.now))) put ∙ put_down old.out.now text old.count start k (omega arith) (omega arith)) count

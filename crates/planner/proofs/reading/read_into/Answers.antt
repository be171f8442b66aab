use Rattle.std.proofs.Common.{◌≡◌, ℕ, ◌+◌, ◌-◌, ◌≤◌, List, ◌++◌, length, take, drop, sym, ap, ◌∙◌, subst, append_assoc, take-append-drop, length-append, length-take, length-drop, arith}
use Rattle.std.proofs.lemmas.List.{length-take-le, take_at}
use Rattle.std.specs.Io.KnownBytes.{Consumes}
use Rattle.std.proofs.KnownBytes.{Consumes-trans}
use borrow.Rule.Slice.PartMut.{put_mid, post_of, same_len_mid}
use Rattle.planner.proofs.reading.read_into.Goals as goal

-- what was read before, and then what is read into the part after it
part_more : (at k n : ℕ) (xs ys : List ℕ) → at ≤ length xs → n ≤ length ys → take (at + n) (put_mid at k xs ys) ≡ take at xs ++ take n ys
part_more at k n xs ys h g =
    let regrouped : take at xs ++ ((take n ys ++ drop n ys) ++ post_of at k xs) ≡ (take at xs ++ take n ys) ++ (drop n ys ++ post_of at k xs) = simp append_assoc in
    ap (λ zs. take (at + n) (take at xs ++ (zs ++ post_of at k xs))) (sym (take-append-drop n ys)) ∙ ap (take (at + n)) regrouped
    ∙ take_at (take at xs ++ take n ys) (drop n ys ++ post_of at k xs) (at + n) (omega (arith, length-append (take at xs) (take n ys), length-take-le at xs h, length-take-le n ys g))

pub loop-len-preserved : goal.loop-len-preserved
loop-len-preserved g c = record {
  within = omega (arith, same_len_mid c.loop-len.len (length c.loop-len.room - c.loop-len.len) c.loop-len.room c.read.new.buf c.read.auto.buf, c.in_ok-n.ensures.bound.0, c.read.auto.buf, length-take {A = ℕ}, length-drop {A = ℕ});
  read = subst (Consumes (g.R.Read.remaining c.args.reader.now) (g.R.Read.remaining c.read.new.self)) (sym (part_more c.loop-len.len _ c.in_ok-n.n c.loop-len.room c.read.new.buf c.loop-len.invariant.within c.in_ok-n.ensures.bound.0))
      (Consumes-trans _ (g.R.Read.remaining c.loop-len.reader) _ _ _ c.loop-len.invariant.read c.in_ok-n.ensures.bytes.0);
}

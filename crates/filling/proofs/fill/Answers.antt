-- What a read gave stands after the bytes that came before it.
use Rattle.std.proofs.Common.{◌≡◌, ℕ, ◌+◌, ◌-◌, ◌≤◌, List, ◌++◌, rules, arith, length, take, slice_range, sym, ap, ◌∙◌, subst, le_refl, drop_at, length-take-le}
use Rattle.std.proofs.lemmas.Slice.{take-put_mid_below}
use Rattle.std.specs.Io.KnownBytes.{Consumes}
use Rattle.std.proofs.KnownBytes.{Consumes-trans}
use borrow.Rule.Slice.PartMut.{put_mid, post_of}
use lib.Seq.{take-add, take-append-le}
use Rattle.filling.proofs.fill.Goals as goal

take-further : (a n : ℕ) (old new : List ℕ) → take a new ≡ take a old → take a old ++ slice_range new a (a + n) ≡ take (a + n) new
take-further a n old new front =
    let same : (a + n) - a ≡ n = omega arith in
    ap (λ l. l ++ slice_range new a (a + n)) (sym front) ∙ sym (take-add a ((a + n) - a) new) ∙ ap (λ m. take (a + m) new) same

slice_range-put_mid : (a k n : ℕ) (xs ys : List ℕ) → a ≤ length xs → n ≤ length ys → slice_range (put_mid a k xs ys) a (a + n) ≡ take n ys
slice_range-put_mid a k n xs ys within fits =
    let same : (a + n) - a ≡ n = omega arith in
    let after = post_of a k xs in
    ap (take ((a + n) - a)) (drop_at (take a xs) (ys ++ after) a (length-take-le a xs within)) ∙ ap (λ m. take m (ys ++ after)) same ∙ take-append-le n ys after fits

pub loop-at-preserved : goal.loop-at-preserved
loop-at-preserved g c =
    let l = c.loop-at in
    let room = length l.buffer - l.at in
    let part = slice_range-put_mid l.at room c.in-Ok.more l.buffer c.read.new.buf l.invariant.within c.in-Ok.ensures.bound.0 in
    let joined = take-further l.at c.in-Ok.more l.buffer (put_mid l.at room l.buffer c.read.new.buf) (take-put_mid_below _ _ _ _ _ (le_refl _) l.invariant.within) in
    record {
      within = search rules;
      same_length = search rules;
      taken = subst (Consumes _ _) (ap (λ k. take l.at l.buffer ++ k) (sym part) ∙ joined) (Consumes-trans _ _ _ _ _ l.invariant.taken c.in-Ok.ensures.bytes.0);
    }

-- The loop that hands frames out, one turn of it, and its end: the frames handed out are the rule's.
use Prim.Native.Nat.{ℕ, suc, ◌+◌, ◌-◌, ◌^◌, ◌≤◌, ◌<◌}
use mathlib.Core.Path.{◌≡◌, refl, sym, ap, ◌∙◌, subst}
use mathlib.Core.Logic.{⊎_elim}
use mathlib.Core.List.{List, ◌++◌}
use native.Mathlib.Omega.{arith}
use lib.ListN.{length, get_or, set, drop}
use Rattle.bits.specs.Sums.{up_to}
use Rattle.bits.proofs.Lists.{part_at, part-rest, part_step}
use Rattle.code.specs.Guarantees.{Guarantees}
use Rattle.code.specs.declared.Card.{Card}
use Rattle.majority.specs.Rule.{corrected}
use Rattle.majority.specs.Rule as Rule
use Rattle.majority.specs.Plain.{decided, decoded}
use Rattle.burst.specs.Sums.{HasSums}
use Rattle.burst.specs.Registers.{TakenIn, written, taken_out, Corrected, NoneFrom, corrected_by}
use Rattle.burst.specs.declared.registers.Registers.{Registers}
use Rattle.burst.specs.Held.{Before, With, Handing}
use Rattle.burst.proofs.Following.{taken_in}
use Rattle.burst.proofs.Deciding.{fed_back_first, handed_out}

-- no register that was written has a 1
pub none_written : {sums : List (List ℕ)} {k p m f held : ℕ} {before after : Registers} → TakenIn sums k p m f before after held
    → held ≡ 0 → (j : ℕ) → j < p → get_or after.syndromes j 0 ≡ 0
none_written {p = p} {before = before} T z j l =
    ap (λ y. get_or y j 0) T.syndromes_is ∙ part_at _ before.syndromes p j l ∙ T.none_held z j l

pub after_none : {sums : List (List ℕ)} {counts checks : List ℕ} {k p errors : ℕ} {before after : Registers} → Corrected sums counts checks k p before after errors
    → NoneFrom p before.syndromes → NoneFrom p after.syndromes
after_none {sums} {p = p} {errors = errors} {before = before} {after = after} C z j l =
    ⊎_elim (λ (w : (errors ≡ 0) × (after.syndromes ≡ before.syndromes)). ap (λ y. get_or y j 0) w.1 ∙ z j l)
    (λ w. ap (λ y. get_or y j 0) w ∙ part-rest (taken_out sums before.syndromes errors) before.syndromes p j l ∙ z j l) C.after_is

-- one frame more, and the frame m before it handed out
module _ (c : Card) (G : Guarantees c) (sums : List (List ℕ)) (S : HasSums c.generators c.k c.p (2 ^ c.k) sums) (frames : List ℕ) where
  pub hand-turn : (u v : ℕ) (output₀ : List ℕ) {now taken after : Registers} {output : List ℕ} {held errors : ℕ}
      → u + c.m < length frames → length frames ≤ length output₀ + c.m
      → TakenIn sums c.k c.p c.m (get_or frames (u + c.m) 0) now taken held
      → Corrected sums c.counts c.checks c.k c.p taken after errors
      → v ≡ corrected_by (get_or frames u 0) c.k errors
      → Handing c frames output₀ u now output
      → Handing c frames output₀ (u + 1) after (set output u v)
  hand-turn u v output₀ {now = now} {taken = taken} {after = after} {output = output} {errors = errors} ht ho T C q handing =
      let m = c.m in
      let t = u + m in
      let W : With c frames t taken = taken_in c G sums S frames t (get_or frames t 0) refl now handing.ready T in
      let f = corrected c frames (decided c frames (length frames - m)) in
      let e : t - m ≡ u = omega arith in
      let n : suc (u + m) ≡ u + 1 + m = omega arith in
      record {
        ready = subst (λ x. Before c frames x after) n (fed_back_first c G frames t taken W (omega arith) sums S after errors C);
        handed = part_step f output₀ u output v (omega arith) handing.handed
            (q ∙ rw e at (handed_out c G frames t taken W (omega arith) sums S after errors C (length frames - m) (omega arith)));
      }

-- registers that are ready for the frame of time m are ready to hand out the first
pub hand-none : (c : Card) (frames output : List ℕ) {r : Registers} → Before c frames c.m r → Handing c frames output 0 r output
unfolding up_to
hand-none c frames output {r} B = let z : c.m ≡ 0 + c.m = omega arith in record { ready = subst (λ t. Before c frames t r) z B; handed = refl }

-- all of them
pub all-handed : (c : Card) (frames output₀ : List ℕ) {output : List ℕ} → output ≡ written (length frames - c.m) (corrected c frames (decided c frames (length frames - c.m))) output₀
    → output ≡ decoded c frames ++ drop (length frames - c.m) output₀
unfolding Rule.decoded
all-handed c frames output₀ e = e

-- a burst of fewer than m frames
pub none-handed : (c : Card) (frames output : List ℕ) → length frames < c.m → output ≡ decoded c frames ++ drop (length frames - c.m) output
unfolding Rule.decoded up_to
none-handed c frames output h =
    let z : length frames - c.m ≡ 0 = omega arith in
    sym (ap (λ n. up_to n (corrected c frames (decided c frames (length frames - c.m))) ++ drop n output) z)

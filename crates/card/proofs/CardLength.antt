-- No card within the limits has more bytes than the longest.
use Prim.Native.Nat.{ℕ, zero, suc, ◌+◌, ◌-◌, ◌*◌, ◌≤◌}
use mathlib.Core.Path.{◌≡◌, ap}
use mathlib.Core.Bool.{cond}
use mathlib.Core.List.{List, [], ◌∷◌, ◌++◌}
use mathlib.Core.Logic.{⊎_elim}
use native.Mathlib.Nat.{mul-le-mul_right}
use native.Mathlib.Omega.{arith}
use lib.ListN.{length, length-append}
use lib.Dec.{eqb}
use borrow.Author.Tests.{eq-eqb, ne_eqb}
use Rattle.bits.proofs.Cases.{same_or_not}
use Rattle.code.specs.Limits.{most_checks}
use Rattle.card.specs.Fields.{Head, Stream, Fields}
use Rattle.card.specs.Layout.{bytes4, layout_masks, optional, layout_head, all_rows, layout_rows, layout_checks, layout_streams, layout, AllMasksIn, AllStreamsIn, InRanges, longest_card}
use Rattle.card.proofs.LayoutLaws.{rows_long}

pub mask-length : (v : ℕ) → length (cond (eqb v 0) [] (bytes4 v)) ≤ 4
unfolding bytes4
mask-length v = ⊎_elim (λ q. rw (eq-eqb v 0 q) (omega arith)) (λ q. rw (ne_eqb v 0 q) (omega arith)) (same_or_not v 0)

pub masks-length : (vs : List ℕ) → length (layout_masks vs) ≤ 4 * length vs
unfolding layout_masks
masks-length [] = omega arith
masks-length (v ∷ vs) =
    let i = masks-length vs in
    let n = length-append (cond (eqb v 0) [] (bytes4 v)) (layout_masks vs) in
    let m = mask-length v in
    omega arith

checks-length : (p m : ℕ) (checks : List (List ℕ)) → AllMasksIn p m checks → length (layout_checks checks) ≤ length checks * (1 + 4 * p)
unfolding layout_checks
checks-length p m [] a = omega arith
checks-length p m (vs ∷ checks) a =
    let i = checks-length p m checks a.1 in
    let n = length-append (layout_masks vs) (layout_checks checks) in
    let k = masks-length vs in
    let l = a.0.many in
    omega arith

streams-length : (p m : ℕ) (streams : List Stream) → AllStreamsIn p m streams → length (layout_streams streams) ≤ length streams * (1 + most_checks * (1 + 4 * p))
unfolding layout_streams
streams-length p m [] a = omega arith
streams-length p m (s ∷ streams) a =
    let i = streams-length p m streams a.1 in
    let n = length-append (layout_checks s.checks) (layout_streams streams) in
    let k = checks-length p m s.checks a.0.masks in
    let many = a.0.many in
    let most = a.0.j_most in
    let c : length s.checks * (1 + 4 * p) ≤ most_checks * (1 + 4 * p) = mul-le-mul_right (1 + 4 * p) (omega arith) in
    omega arith

pub optional-length : (d v : ℕ) → length (optional d v) ≤ 1
unfolding optional
optional-length d v = ⊎_elim (λ q. rw (eq-eqb d 1 q) (omega arith)) (λ q. rw (ne_eqb d 1 q) (omega arith)) (same_or_not d 1)

pub head-size : (h : Head) → length (layout_head h) ≡ 3 + (length (optional h.k_stands h.k) + length (optional h.n_stands h.n))
unfolding layout_head
head-size h =
    let a = length-append (optional h.k_stands h.k) (optional h.n_stands h.n ++ (h.m ∷ [])) in
    let b = length-append (optional h.n_stands h.n) (h.m ∷ []) in
    omega arith

pub head-length : (h : Head) → length (layout_head h) ≤ 5
head-length h = omega (arith, head-size h, optional-length h.k_stands h.k, optional-length h.n_stands h.n)

pub few-generators : (k p : ℕ) → k ≤ 4 → k + p ≤ 8 → k * p ≤ 16
few-generators zero p h l = omega arith
few-generators (suc zero) p h l = omega arith
few-generators (suc (suc zero)) p h l = omega arith
few-generators (suc (suc (suc zero))) p h l = omega arith
few-generators (suc (suc (suc (suc zero)))) p h l = omega arith
few-generators (suc (suc (suc (suc (suc k))))) p h l = absurd (omega arith)

-- the head x, the generators' masks y, the checks z
sum-up : (k p x y z : ℕ) → k ≤ 4 → k * p ≤ 16 → x ≤ 5 → y ≤ 4 * (k * p) → z ≤ k * (1 + most_checks * (1 + 4 * p)) → {t u : ℕ} → t ≡ x + suc (suc u) → u ≡ y + z → t ≤ longest_card
sum-up k p x y z h e a b c q r = omega arith

pub layout-length : (f : Fields) → InRanges f → length (layout f) ≤ longest_card
unfolding layout layout_rows
layout-length f w =
    let k = f.head.k in
    let p = f.head.n - f.head.k in
    let most = w.n_most in
    let least = w.n_least in
    let few = few-generators k p w.k_most (omega arith) in
    let r = masks-length (all_rows f.rows) in
    let r₁ = rows_long p f.head.m f.rows w.rows_in in
    let r₂ : length f.rows * p ≡ k * p = ap (λ x. x * p) w.row_count in
    let s = streams-length p f.head.m f.streams w.streams_in in
    let s₁ : length f.streams * (1 + most_checks * (1 + 4 * p)) ≡ k * (1 + most_checks * (1 + 4 * p)) = ap (λ x. x * (1 + most_checks * (1 + 4 * p))) w.stream_count in
    sum-up k p (length (layout_head f.head)) (length (layout_masks (all_rows f.rows))) (length (layout_streams f.streams)) w.k_most few
    (head-length f.head) (omega arith) (omega arith)
    (length-append (layout_head f.head) (layout_rows f.rows ++ layout_streams f.streams))
    (length-append (layout_masks (all_rows f.rows)) (layout_streams f.streams))

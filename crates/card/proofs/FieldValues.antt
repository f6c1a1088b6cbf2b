-- What is known where a field has a value.
use Prim.Native.Nat.{ℕ, ◌+◌, ◌-◌, ◌*◌, ◌/◌, ◌%◌, ◌^◌, ◌≤◌, ◌<◌}
use mathlib.Core.Path.{◌≡◌, refl, sym, ap, ◌∙◌}
use mathlib.Core.Bool.{true, false}
use mathlib.Core.List.{List}
use mathlib.Core.Logic.{⊎_elim}
use native.Mathlib.Nat.{div-lt_iff_lt-mul, pow-succ', one-mul}
use native.Mathlib.Numerals.{add-one}
use native.Mathlib.Omega.{arith}
use lib.ListN.{length, get_or, take, drop, length-drop}
use lib.Seq.{take_all, get_or-drop}
use lib.Dec.{leb, ltb, eqb}
use lib.Pow.{pow_pos, shl_exact}
use borrow.Author.Tests.{lt-leb, le-leb, ltb-true, leb-true, eqb-true, eqb-false}
use Rattle.bits.proofs.Cases.{picked}
use Rattle.card.specs.Reading.{Field, byte_field, standing_field, k_field, n_field, map_field, mask_field, word_at, standing_mask}
use Rattle.card.specs.Reading.Field.{value, bad}
use Rattle.card.specs.declared.CardRule.{CardRule}
use Rattle.card.specs.declared.CardRule.TheVariants.{Former, Present}

pub not-value : {A : Type 0} {n o v : ℕ} → bad n o ≡ value v → A
not-value e = let z : ◌≡◌ {A = ℕ} 0 1 = cc in absurd (omega arith)

pub value_same : {x v : ℕ} → value x ≡ value v → x ≡ v
value_same e = cc

-- ---- the bytes from an offset on, as the program takes them apart
module _ (bs : List ℕ) (at : ℕ) where
  abbrev from : List ℕ
  from = take (length bs - at) (drop at bs)

  from-is : from ≡ drop at bs
  from-is = take_all (length bs - at) (drop at bs) (omega (arith, length-drop at bs))

  pub from-at : (i : ℕ) → get_or from i 0 ≡ get_or bs (at + i) 0
  from-at i = ap (λ xs. get_or xs i 0) from-is ∙ get_or-drop at bs i 0

  -- a field of w bytes ends within them, or is cut short
  pub ends-inside : {w : ℕ} → at ≤ length bs → w ≤ length from → leb (at + w) (length bs) ≡ true
  ends-inside {w} h l = le-leb (at + w) (length bs) (omega (arith, ap length from-is, length-drop at bs))

  pub ends-beyond : {w : ℕ} → at ≤ length bs → length from < w → leb (at + w) (length bs) ≡ false
  ends-beyond {w} h l = lt-leb (at + w) (length bs) (omega (arith, ap length from-is, length-drop at bs))

pub record ByteIs (bs : List ℕ) (at low high v : ℕ) : Type 0 where
  pub inside : at < length bs
  pub least : low ≤ v
  pub most : v ≤ high
  pub byte : get_or bs at 0 ≡ v

pub byte-is : (bs : List ℕ) (at low high number v : ℕ) → byte_field bs at low high number ≡ value v → ByteIs bs at low high v
unfolding byte_field
byte-is bs at low high number v e =
    ⊎_elim
    (λ h.
    ⊎_elim
    (λ h₂.
    ⊎_elim
    (λ h₃.
    let q : get_or bs at 0 ≡ v = value_same h₃.1 in
    record {
      inside = ltb-true _ _ h.0;
      least = rw q at (leb-true low (get_or bs at 0) h₂.0);
      most = rw q at (leb-true (get_or bs at 0) high h₃.0);
      byte = q;
    })
    (λ h₃. not-value h₃.1)
    (picked (leb (get_or bs at 0) high) h₂.1))
    (λ h₂. not-value h₂.1)
    (picked (leb low (get_or bs at 0)) h.1))
    (λ h. not-value h.1)
    (picked (ltb at (length bs)) e)

pub standing-bad : (rule : CardRule) (default at n o : ℕ) → standing_field rule default at (bad n o) ≡ bad n o
unfolding standing_field
standing-bad Former default at n o = refl
standing-bad Present default at n o = refl

-- a field that stands has the value that was read, ..
pub standing-is : (rule : CardRule) (default at : ℕ) (f : Field) (v : ℕ) → standing_field rule default at f ≡ value v → f ≡ value v
unfolding standing_field
standing-is Former default at f v e = e
standing-is Present default at (bad n o) v e = e
standing-is Present default at (value x) v e = ⊎_elim (λ h. not-value h.1) (λ h. h.1) (picked (eqb x default) e)

-- .. and under the present rule that is not its default
pub standing-other : (default at : ℕ) (f : Field) (v : ℕ) → standing_field Present default at f ≡ value v → v ≡ default → ⊥
unfolding standing_field
standing-other default at (bad n o) v e q = not-value e
standing-other default at (value x) v e q =
    ⊎_elim (λ h. not-value h.1) (λ h. eqb-false x default h.0 (value_same h.1 ∙ q)) (picked (eqb x default) e)

pub k-is : (rule : CardRule) (bs : List ℕ) (stands v : ℕ) → k_field rule bs stands ≡ value v → (1 ≤ v) × (v ≤ 4)
unfolding k_field
k-is rule bs stands v e =
    ⊎_elim
    (λ h. let q = byte-is bs 2 1 4 2 v (standing-is rule 1 2 _ v h.1) in (q.least, q.most))
    (λ h. let q : 1 ≡ v = value_same h.1 in omega arith)
    (picked (eqb stands 1) e)

pub n-is : (rule : CardRule) (bs : List ℕ) (at stands k v : ℕ) → n_field rule bs at stands k ≡ value v → (k + 1 ≤ v) × (v ≤ 8)
unfolding n_field
n-is rule bs at stands k v e =
    ⊎_elim
    (λ h. let q = byte-is bs at (k + 1) 8 3 v (standing-is rule 2 at _ v h.1) in (q.least, q.most))
    (λ h.
    ⊎_elim
    (λ h₂. let q : 2 ≡ v = value_same h₂.1 in let l = leb-true (k + 1) 2 h₂.0 in omega arith)
    (λ h₂. not-value h₂.1)
    (picked (leb (k + 1) 2) h.1))
    (picked (eqb stands 1) e)

-- the generator map
pub record MapIs (bs : List ℕ) (at count v : ℕ) : Type 0 where
  pub inside : at + 2 ≤ length bs
  pub within : v / 2 ^ count ≡ 0
  pub bytes : get_or bs at 0 + get_or bs (at + 1) 0 * 256 ≡ v

pub map_is : (bs : List ℕ) (at count v : ℕ) → map_field bs at count ≡ value v → MapIs bs at count v
unfolding map_field
map_is bs at count v e =
    ⊎_elim
    (λ h.
    ⊎_elim
    (λ h₂.
    let q : get_or bs at 0 + get_or bs (at + 1) 0 * 256 ≡ v = value_same h₂.1 in
    record {
      inside = leb-true _ _ h.0;
      within = rw q at (eqb-true ((get_or bs at 0 + get_or bs (at + 1) 0 * 256) / 2 ^ count) 0 h₂.0);
      bytes = q;
    })
    (λ h₂. not-value h₂.1)
    (picked (eqb ((get_or bs at 0 + get_or bs (at + 1) 0 * 256) / 2 ^ count) 0) h.1))
    (λ h. not-value h.1)
    (picked (leb (at + 2) (length bs)) e)

-- a standing mask
pub record MaskIs (bs : List ℕ) (at m v : ℕ) : Type 0 where
  pub inside : at + 4 ≤ length bs
  pub stands : v ≡ 0 → ⊥
  pub within : v / 2 ^ m ≤ 1
  pub word : word_at bs at ≡ v

pub mask_is : (bs : List ℕ) (at m v : ℕ) → mask_field bs at m ≡ value v → MaskIs bs at m v
unfolding mask_field
mask_is bs at m v e =
    ⊎_elim
    (λ h.
    ⊎_elim
    (λ h₂. not-value h₂.1)
    (λ h₂.
    ⊎_elim
    (λ h₃.
    let q : word_at bs at ≡ v = value_same h₃.1 in
    record {
      inside = leb-true _ _ h.0;
      stands = λ z. eqb-false (word_at bs at) 0 h₂.0 (q ∙ z);
      within = rw q at (leb-true (word_at bs at / 2 ^ m) 1 h₃.0);
      word = q;
    })
    (λ h₃. not-value h₃.1)
    (picked (leb (word_at bs at / 2 ^ m) 1) h₂.1))
    (picked (eqb (word_at bs at) 0) h.1))
    (λ h. not-value h.1)
    (picked (leb (at + 4) (length bs)) e)

-- no bit above m
pub within-lt : (v m : ℕ) → v / 2 ^ m ≤ 1 → v < 2 ^ (m + 1)
within-lt v m h = rw (add-one, pow-succ') ((div-lt_iff_lt-mul {y = 2} (pow_pos m)).0 (omega arith))

-- a mask that may stand
pub standing-inside : (bs : List ℕ) (at m d v : ℕ) → at ≤ length bs → d < 2 → standing_mask bs at m d ≡ value v → at + d * 4 ≤ length bs
unfolding standing_mask
standing-inside bs at m d v l h e =
    ⊎_elim
    (λ w. let q = eqb-true d 1 w.0 in let i = (mask_is bs at m v w.1).inside in omega arith)
    (λ w. let q = eqb-false d 1 w.0 in let z : d ≡ 0 = omega arith in omega arith)
    (picked (eqb d 1) e)

pub standing-within : (bs : List ℕ) (at m d v : ℕ) → standing_mask bs at m d ≡ value v → v < 2 ^ (m + 1)
unfolding standing_mask
standing-within bs at m d v e =
    ⊎_elim
    (λ w. within-lt v m (mask_is bs at m v w.1).within)
    (λ w. let z : 0 ≡ v = value_same w.1 in let q = pow_pos (m + 1) in omega arith)
    (picked (eqb d 1) e)

-- ---- the largest map of p streams, as the program writes it
pub map-limit : (bs : List ℕ) (at p : ℕ) → p ≤ 7 → {f : Field} → byte_field bs at 0 (1 * 2 ^ p % 4294967296 - 1) 5 ≡ f → byte_field bs at 0 (2 ^ p - 1) 5 ≡ f
map-limit bs at p h e =
    let whole : 1 * 2 ^ p % 4294967296 ≡ 2 ^ p = shl_exact {a = 1} 1 p 32 (omega arith) (omega arith) ∙ one-mul (2 ^ p) in
    ap (λ n. byte_field bs at 0 (n - 1) 5) (sym whole) ∙ e

-- R-7's last sentence: where no level that is looked at lies within the band, the rule's answers are those of the former reading.
use Prim.Native.Nat.{ℕ, zero, suc, ◌+◌, ◌*◌, ◌^◌, ◌≤◌}
use mathlib.Core.Path.{◌≡◌, refl, sym, ap, ap₂, ◌∙◌}
use mathlib.Core.Bool.{Bool, true, false, cond, ◌||◌}
use mathlib.Core.List.{List, [], ◌∷◌, map}
use native.Mathlib.Omega.{arith}
use lib.ListN.{get_or}
use lib.Dec.{leb, ltb, eqb}
use lib.IntN.{ℤ}
use lib.Ieee.{nan, inf, fin, up, down}
use lib.Ieee.Fits.{down_pos}
use borrow.Author.Tests.{le-ltb, lt-leb, ne_eqb}
use Rattle.bits.specs.Digits.{from_digits}
use Rattle.bits.proofs.Digits.{from_digits-lt, from_digits-same}
use Rattle.code.specs.declared.Card.{Card}
use Rattle.receiving.specs.Answers.{Given}
use Rattle.receiving.specs.Calls.{Call, byte, readings}
use Rattle.receiving.specs.declared.Reading.{Reading}
use Rattle.receiving.specs.declared.Reading.TheVariants.{Level, Erased}
use Rattle.terms.specs.Terms.{handed, digits_of, refusal, taken_calls, frames_taken}
use Rattle.terms.proofs.Calls.{is, is_le}
use Rattle.terms.specs.Terms.{answers_to, ByTheRule, read_now, read_before, Outside}

-- ---- a reading

-- what is refused now was refused before
same-refusal : (r : Reading) → is 12 (read_before r) ≡ is 12 (read_now r)
unfolding read_before read_now
same-refusal Erased = refl
same-refusal (Level nan) = refl
same-refusal (Level (inf sign)) = refl
same-refusal (Level (fin sign m e)) = go (sign || eqb m 0) (ltb (4 * (m * up e)) (down e)) sign
  where
    go : (a b sign : Bool) → is 12 (cond a 0 1) ≡ is 12 (cond b 2 (cond sign 0 1))
    go true true sign = refl
    go true false true = refl
    go true false false = refl
    go false true sign = refl
    go false false true = refl
    go false false false = refl

-- outside the band a reading yields what it did; zero lies within
same-reading : (r : Reading) → ((sign : Bool) (m : ℕ) (e : ℤ) → r ≡ Level (fin sign m e) → down e ≤ 4 * (m * up e)) → read_before r ≡ read_now r
unfolding read_before read_now
same-reading Erased out = refl
same-reading (Level nan) out = refl
same-reading (Level (inf sign)) out = refl
same-reading (Level (fin sign m e)) out =
    let l = out sign m e refl in
    rw (le-ltb (4 * (m * up e)) (down e) l) (signed sign (not-zero m e l))
  where
    not-zero : (m : ℕ) (e : ℤ) → down e ≤ 4 * (m * up e) → eqb m 0 ≡ false
    not-zero zero e l = absurd (omega (arith, down_pos e))
    not-zero (suc m) e l = ne_eqb (suc m) 0 (λ z. omega arith)

    signed : (sign : Bool) → eqb m 0 ≡ false → ◌≡◌ {A = ℕ} (cond (sign || eqb m 0) 0 1) (cond sign 0 1)
    signed true q = refl
    signed false q = ap (λ (b : Bool). cond b 0 1) q

-- ---- a call
module _ (n : ℕ) where
  same_digits : (value : ℕ) (a : Call) → Outside n a → digits_of value read_before n a ≡ digits_of value read_now n a
  unfolding digits_of Outside
  same_digits value (byte number f) out = refl
  same_digits value (readings number levels) out = from_digits-same n _ _ (λ s l. ap (is value) (same-reading _ (out s l)))

  -- of each of some calls
  same_in : (value : ℕ) (calls : List Call) → ((t : ℕ) → Outside n (get_or calls t (byte 0 0))) → map (digits_of value read_before n) calls ≡ map (digits_of value read_now n) calls
  same_in value [] out = refl
  same_in value (a ∷ calls) out = ap₂ (λ (f : ℕ) (l : List ℕ). f ∷ l) (same_digits value a (out 0)) (same_in value calls (λ t. out (suc t)))

  same-refused : (a : Call) → digits_of 12 read_before n a ≡ digits_of 12 read_now n a
  unfolding digits_of
  same-refused (byte number f) = refl
  same-refused (readings number levels) = from_digits-same n _ _ (λ s l. same-refusal (get_or levels s (Level nan)))

  -- no frame of readings has a digit beyond its streams, whichever way it is read
  same-beyond : (a : Call) → leb (2 ^ n) (digits_of 1 read_before n a) ≡ leb (2 ^ n) (digits_of 1 read_now n a)
  unfolding digits_of
  same-beyond (byte number f) = refl
  same-beyond (readings number levels) = within read_before ∙ sym (within read_now)
    where
      within : (read : Reading → ℕ) → leb (2 ^ n) (from_digits n (λ s. is 1 (read (get_or levels s (Level nan))))) ≡ false
      within read = lt-leb (2 ^ n) _ (from_digits-lt n _ (λ s l. omega (arith, is_le 1 (read (get_or levels s (Level nan))))))

module _ (c : Card) where
  refused_as : (t : ℕ) (a : Call) → refusal read_before c t a ≡ refusal read_now c t a
  unfolding refusal
  refused_as t a = rw (same-beyond (c.k + c.p) a, same-refused (c.k + c.p) a)

  taken_as : (t : ℕ) (calls : List Call) → taken_calls read_before c t calls ≡ taken_calls read_now c t calls
  unfolding taken_calls
  taken_as t [] = refl
  taken_as t (a ∷ calls) = rw (refused_as t a, taken_as (suc t) calls, taken_as t calls)

  answers-as : (out : ℕ → ℕ) (t : ℕ) (calls : List Call) → answers_to read_before c out t calls ≡ answers_to read_now c out t calls
  unfolding answers_to
  answers-as out t [] = refl
  answers-as out t (a ∷ calls) = rw (refused_as t a, answers-as out (suc t) calls, answers-as out t calls)

  -- ---- a list of calls
  pub as_before : (calls : List Call) (given : List Given) → ((t : ℕ) → Outside (c.k + c.p) (get_or (taken_calls read_now c 0 calls) t (byte 0 0)))
      → ByTheRule read_now c calls given → ByTheRule read_before c calls given
  as_before calls given out r =
      let l = taken_calls read_now c 0 calls in
      let same : (value : ℕ) → map (digits_of value read_before (c.k + c.p)) (taken_calls read_before c 0 calls) ≡ map (digits_of value read_now (c.k + c.p)) l =
      λ value. ap (map (digits_of value read_before (c.k + c.p))) (taken_as 0 calls) ∙ same_in (c.k + c.p) value l out in
      record {
        errors = r.errors;
        decided = rw (same 1, same 2) r.decided;
        answers_are = r.answers_are ∙ rw (same 1) (sym (answers-as (handed c (frames_taken read_now c calls) r.errors) 0 calls));
      }

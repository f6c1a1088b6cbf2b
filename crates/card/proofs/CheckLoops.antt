-- What the loops of `read_checks` keep, and what they leave. r is the whole answer, c the card before its checks.
use Prim.Native.Nat.{ℕ, ◌+◌, ◌-◌, ◌*◌, ◌/◌, ◌%◌, ◌^◌, ◌≤◌, ◌<◌, zero-le}
use mathlib.Core.Path.{◌≡◌, refl, sym, ap, ap₂, ◌∙◌}
use mathlib.Core.List.{List, [], ◌∷◌, ◌++◌}
use mathlib.Core.Logic.{⊎_elim}
use native.Mathlib.Nat.{le_antisymm, mod-lt, zero-lt-suc}
use native.Mathlib.Omega.{arith}
use lib.ListN.{length, get_or, set, replicate, length-append, length-set}
use lib.Pow.{pow_pos}
use lib.Seq.{get_or-set_same, get_or-set_other}
use Rattle.bits.proofs.Cases.{same_or_not}
use Rattle.bits.proofs.Lists.{zeros-at, snoc-last, snoc-other}
use Rattle.code.specs.Limits.{most_checks, check_words, check_start}
use Rattle.orthogonal.specs.Pass.{Passed, word_code, information_streams, parity_streams, first_masks}
use Rattle.card.specs.Reading.{Read, read_mapped, byte_field, standing_mask, judge_after, read_streams}
use Rattle.card.specs.Reading.Field.{value, bad}
use Rattle.card.specs.Reading.Read.{got, fault}
use Rattle.card.specs.Parts.{Tables, tables_with}
use Rattle.code.specs.declared.Card.{Card}
use Rattle.card.proofs.Judging.{Union, union-none, judged-same, judged-union}
use Rattle.card.proofs.FieldValues.{byte-is, standing-inside, standing-within, map-limit}
use Rattle.card.proofs.RestChecks.{rest_streams, rest_checks, rest_masks, streams-start, streams-turn, streams-fault, streams-end, checks-turn, checks-fault, checks-end}
use Rattle.card.proofs.RestChecks.{check-turn, check-fault, check-stands, check-fails}

-- what the reader of the head and the generators leaves
pub record Limits (c : Card) : Type 0 where
  pub k_most : c.k ≤ 4
  pub n_most : c.k + c.p ≤ 8
  pub p-most : c.p ≤ 7
  pub m_most : c.m < 32

-- before stream i
pub record AtStreams (bs : List ℕ) (c : Card) (r : Read Tables) (counts checks : List ℕ) (at i : ℕ) : Type 0 where
  pub limits : Limits c
  pub stream-most : i ≤ c.k
  pub inside : at ≤ length bs
  pub long-counts : length counts ≡ 4
  pub long-checks : length checks ≡ check_words
  pub same : rest_streams bs c i counts checks at ≡ r

-- before check q of stream i, whose earlier checks touch the errors `touched`
pub record AtChecks (bs : List ℕ) (c : Card) (r : Read Tables) (i count : ℕ) (counts : List ℕ)
    (checks touched : List ℕ) (at q : ℕ) : Type 0 where
  pub limits : Limits c
  pub stream-lt : i < c.k
  pub check-most : q ≤ count
  pub count_most : count ≤ most_checks
  pub inside : at ≤ length bs
  pub long-counts : length counts ≡ 4
  pub long-checks : length checks ≡ check_words
  pub earlier : List (List ℕ)
  pub union : Union c earlier touched
  pub same : rest_checks bs c i count q earlier counts checks at ≡ r

-- the masks of a check that were read, in an array
pub record Seen (m : ℕ) (masks : List ℕ) (j : ℕ) (seen : List ℕ) : Type 0 where
  pub many : length seen ≡ j
  pub within : (n : ℕ) → get_or seen n 0 < 2 ^ (m + 1)
  pub same : (n : ℕ) → get_or masks n 0 ≡ get_or seen n 0

-- before mask j of check q, whose map stands at place
pub record AtMasks (bs : List ℕ) (c : Card) (r : Read Tables) (i count : ℕ) (counts : List ℕ) (q place : ℕ) (touched : List ℕ)
    (checks masks : List ℕ) (rest at j : ℕ) : Type 0 where
  pub limits : Limits c
  pub stream-lt : i < c.k
  pub check-lt : q < count
  pub mask-most : j ≤ c.p
  pub count_most : count ≤ most_checks
  pub inside : at ≤ length bs
  pub long-counts : length counts ≡ 4
  pub long-checks : length checks ≡ check_words
  pub long-masks : length masks ≡ 8
  pub earlier : List (List ℕ)
  pub union : Union c earlier touched
  pub seen : List ℕ
  pub seen_are : Seen c.m masks j seen
  pub same : rest_masks bs c i count q place earlier counts seen j checks rest at ≡ r

pub next-most : {n most : ℕ} → n < most → n + 1 ≤ most
next-most h = omega arith

-- a check whose masks are all read is judged as the definition has it
module _ {bs : List ℕ} {c : Card} {r : Read Tables} {i count : ℕ} {counts : List ℕ} {q at₀ : ℕ} {touched : List ℕ} {checks masks : List ℕ} {rest at j : ℕ}
    (v : AtMasks bs c r i count counts q at₀ touched checks masks rest at j) (whole : c.p ≤ j) {number : ℕ} {after : List ℕ}
    (P : Passed (word_code c.generators (information_streams c.k) (parity_streams c.k c.p)) i (first_masks (parity_streams c.k c.p) masks) touched number after) where
  all_seen : length v.seen ≡ c.p
  all_seen = v.seen_are.many ∙ le_antisymm v.mask-most whole

  judged-number : judge_after c i v.earlier v.seen ≡ number
  judged-number =
      let l = v.limits in
      let s = v.seen_are in
      judged-same c l.n_most l.m_most v.seen masks all_seen s.within s.same P v.union

  judged-errors : number ≡ 0 → Union c (v.seen ∷ v.earlier) after
  judged-errors =
      let l = v.limits in
      let s = v.seen_are in
      judged-union c l.n_most l.m_most v.seen masks all_seen s.within s.same P v.union

-- one mask more
pub seen_more : {m : ℕ} {masks : List ℕ} {j : ℕ} {seen : List ℕ} {v : ℕ} → j < length masks → v < 2 ^ (m + 1) → Seen m masks j seen
    → Seen m (set masks j v) (j + 1) (seen ++ (v ∷ []))
seen_more {m} {masks} {j} {seen} {v} l h s =
    record {
      many = length-append seen (v ∷ []) ∙ omega (arith, s.many);
      within = λ n. ⊎_elim (λ e. rw (snoc-last seen v n (e ∙ sym s.many)) h) (λ e. rw (snoc-other seen v n (λ q. e (q ∙ s.many))) (s.within n)) (same_or_not n j);
      same = λ n.
          ⊎_elim (λ e. ap (λ x. get_or (set masks j v) x 0) e ∙ get_or-set_same masks j v 0 l ∙ sym (snoc-last seen v n (e ∙ sym s.many)))
          (λ e. get_or-set_other masks j n v 0 e ∙ s.same n ∙ sym (snoc-other seen v n (λ q. e (q ∙ s.many)))) (same_or_not n j);
    }

-- ---- the turns, faults and ends
pub streams-begin : (bs : List ℕ) (c : Card) (start : ℕ) {counts checks : List ℕ} → Limits c → start ≤ length bs → counts ≡ replicate 4 0 → checks ≡ replicate check_words 0
    → AtStreams bs c (read_mapped (tables_with 0 (replicate 4 0) (replicate check_words 0)) (read_streams bs c c.k 0 start)) counts checks start 0
streams-begin bs c start l h e q =
    record {
      limits = l;
      stream-most = zero-le;
      inside = h;
      long-counts = ap length e;
      long-checks = ap length q;
      same = ap₂ (λ x y. rest_streams bs c 0 x y start) e q ∙ streams-start bs c (replicate 4 0) (replicate check_words 0) start;
    }

module _ {bs : List ℕ} {c : Card} {r : Read Tables} {counts checks : List ℕ} {at i : ℕ} where
  pub checks-begin : {count : ℕ} → AtStreams bs c r counts checks at i → i < c.k → byte_field bs at 1 most_checks 7 ≡ value count
      → AtChecks bs c r i count (set counts i count) checks (replicate 8 0) (at + 1) 0
  checks-begin v l e =
      let b = byte-is _ _ _ _ _ _ e in
      record {
        limits = v.limits;
        stream-lt = l;
        check-most = zero-le;
        count_most = b.most;
        inside = next-most b.inside;
        long-counts = simp length-set v.long-counts;
        long-checks = v.long-checks;
        earlier = [];
        union = union-none c;
        same = sym (streams-turn bs c i counts checks at l e) ∙ v.same;
      }

  pub streams-stop : {n o : ℕ} → AtStreams bs c r counts checks at i → i < c.k → byte_field bs at 1 most_checks 7 ≡ bad n o → fault n o ≡ r
  streams-stop v l e = sym (streams-fault bs c i counts checks at l e) ∙ v.same

  pub streams-whole : AtStreams bs c r counts checks at i → c.k ≤ i → got (record { counts = counts; checks = checks }) at ≡ r
  streams-whole v l = sym (streams-end bs c i counts checks at l) ∙ v.same

  module _ {count q : ℕ} {touched : List ℕ} (v : AtChecks bs c r i count counts checks touched at q) where
    pub masks-begin : {map : ℕ} → q < count → byte_field bs at 0 (1 * 2 ^ c.p % 4294967296 - 1) 5 ≡ value map
        → AtMasks bs c r i count counts q at touched checks (replicate 8 0) map (at + 1) 0
    masks-begin l e =
        record {
          limits = v.limits;
          stream-lt = v.stream-lt;
          check-lt = l;
          mask-most = zero-le;
          count_most = v.count_most;
          inside = next-most (byte-is _ _ _ _ _ _ e).inside;
          long-counts = v.long-counts;
          long-checks = v.long-checks;
          long-masks = refl;
          earlier = v.earlier;
          union = v.union;
          seen = [];
          seen_are = record { many = refl; within = λ n. pow_pos _; same = λ n. zeros-at 8 n };
          same = sym (checks-turn bs c i count q v.earlier counts checks at l (map-limit bs at c.p v.limits.p-most e)) ∙ v.same;
        }

    pub checks-stop : {n o : ℕ} → q < count → byte_field bs at 0 (1 * 2 ^ c.p % 4294967296 - 1) 5 ≡ bad n o → fault n o ≡ r
    checks-stop l e = sym (checks-fault bs c i count q v.earlier counts checks at l (map-limit bs at c.p v.limits.p-most e)) ∙ v.same

    pub streams-next : count ≤ q → AtStreams bs c r counts checks at (i + 1)
    streams-next l =
        record {
          limits = v.limits;
          stream-most = next-most v.stream-lt;
          inside = v.inside;
          long-counts = v.long-counts;
          long-checks = v.long-checks;
          same = sym (checks-end bs c i count q v.earlier counts checks at l) ∙ v.same;
        }

  module _ {count q place : ℕ} {touched masks : List ℕ} {rest j : ℕ} (v : AtMasks bs c r i count counts q place touched checks masks rest at j) where
    pub masks-next : {x : ℕ} → j < c.p → standing_mask bs at c.m (rest % 2) ≡ value x
        → AtMasks bs c r i count counts q place touched (set checks (check_start i q + j) x) (set masks j x) (rest / 2) (at + rest % 2 * 4) (j + 1)
    masks-next {x} l e =
        record {
          limits = v.limits;
          stream-lt = v.stream-lt;
          check-lt = v.check-lt;
          mask-most = next-most l;
          count_most = v.count_most;
          inside = standing-inside bs at c.m (rest % 2) x v.inside (mod-lt rest (zero-lt-suc 1)) e;
          long-counts = v.long-counts;
          long-checks = simp length-set v.long-checks;
          long-masks = simp length-set v.long-masks;
          earlier = v.earlier;
          union = v.union;
          seen = v.seen ++ (x ∷ []);
          seen_are = seen_more (rw v.long-masks (let p = v.limits.p-most in omega arith)) (standing-within bs at c.m (rest % 2) x e) v.seen_are;
          same = sym (check-turn bs c i count q v.earlier counts place v.seen j checks rest at l e) ∙ v.same;
        }

    pub masks-stop : {n o : ℕ} → j < c.p → standing_mask bs at c.m (rest % 2) ≡ bad n o → fault n o ≡ r
    masks-stop l e = sym (check-fault bs c i count q v.earlier counts place v.seen j checks rest at l e) ∙ v.same

    -- the check is whole, and is judged
    module _ (whole : c.p ≤ j) {number : ℕ} {after : List ℕ}
        (P : Passed (word_code c.generators (information_streams c.k) (parity_streams c.k c.p)) i (first_masks (parity_streams c.k c.p) masks) touched number after) where
      pub checks-next : number ≡ 0 → AtChecks bs c r i count counts checks after at (q + 1)
      checks-next e =
          record {
            limits = v.limits;
            stream-lt = v.stream-lt;
            check-most = next-most v.check-lt;
            count_most = v.count_most;
            inside = v.inside;
            long-counts = v.long-counts;
            long-checks = v.long-checks;
            earlier = v.seen ∷ v.earlier;
            union = judged-errors v whole P e;
            same = sym (check-stands bs c i count q v.earlier counts place v.seen j checks rest at whole (judged-number v whole P ∙ e)) ∙ v.same;
          }

      pub check-stop : {n : ℕ} → number ≡ n → 1 ≤ n → fault n place ≡ r
      check-stop e l =
          sym (check-fails bs c i count q v.earlier counts place v.seen j checks rest at whole (judged-number v whole P ∙ e) (λ z. omega arith)) ∙ v.same

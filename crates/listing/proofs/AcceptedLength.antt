-- No accepted card is too long, whatever numbers its bytes are: each part of a reading goes on by so many bytes at most. The audit looks at no byte of a file
-- that was not read to its end, so nothing says there that they are below 256, as `card/proofs/Acceptance: accepted-length` asks.
use Prim.Native.Nat.{ℕ, zero, suc, ◌+◌, ◌-◌, ◌*◌, ◌/◌, ◌%◌, ◌^◌, ◌≤◌}
use mathlib.Core.Path.{◌≡◌}
use mathlib.Core.List.{List, [], ◌∷◌}
use native.Mathlib.Nat.{mul-le-mul_right}
use native.Mathlib.Omega.{arith}
use lib.ListN.{length}
use Rattle.code.specs.Limits.{most_checks}
use Rattle.code.specs.declared.Card.{Card}
use Rattle.card.specs.Outcome.{accepted}
use Rattle.card.specs.Fields.{Stream, code_of}
use Rattle.card.specs.Reading.{Read, next, read_mapped, byte_field, map_field, standing_mask, read_masks, read_rows, read_generators, read_check, read_checks, read_streams, read_under}
use Rattle.card.specs.Reading.Read.{got}
use Rattle.card.specs.Layout.{longest_card}
use Rattle.card.specs.declared.CardRule.{CardRule}
use Rattle.card.proofs.FieldValues.{byte-is}
use Rattle.card.proofs.ReadParts.{got-where, field-got, next-got, map-got, head-is}
use Rattle.card.proofs.WholeReading.{check-is, fields-are, accepted-read}
use Rattle.card.proofs.Limits.{read-in}
use Rattle.card.proofs.CardLength.{few-generators}

module _ (bs : List ℕ) where
  masks-end : (m left map at : ℕ) {vs : List ℕ} {at₁ : ℕ} → read_masks bs m left map at ≡ got vs at₁ → at₁ ≤ at + 4 * left
  unfolding read_masks
  masks-end m zero map at e = omega (arith, got-where e)
  masks-end m (suc left) map at e =
      let rest = read_masks bs m left (map / 2) (at + map % 2 * 4) in
      let a = field-got (standing_mask bs at m (map % 2)) (λ v. read_mapped (λ vs. v ∷ vs) rest) e in
      let b = map-got (λ vs. a.0 ∷ vs) rest a.2 in
      omega (arith, masks-end m left (map / 2) (at + map % 2 * 4) b.1)

  rows-end : (m p left map at : ℕ) {rows : List (List ℕ)} {at₁ : ℕ} → read_rows bs m p left map at ≡ got rows at₁ → at₁ ≤ at + 4 * (left * p)
  unfolding read_rows
  rows-end m p zero map at e = omega (arith, got-where e)
  rows-end m p (suc left) map at e =
      let rest : ℕ → Read (List (List ℕ)) = read_rows bs m p left (map / 2 ^ p) in
      let a = next-got (read_masks bs m p map at) (λ vs after. read_mapped (λ rows. vs ∷ rows) (rest after)) e in
      let b = map-got (λ rows. a.0 ∷ rows) (rest a.1) a.3 in
      omega (arith, masks-end m p map at a.2, rows-end m p left (map / 2 ^ p) a.1 b.1)

  generators-end : (at k p m : ℕ) {rows : List (List ℕ)} {at₁ : ℕ} → read_generators bs at k p m ≡ got rows at₁ → at₁ ≤ at + 2 + 4 * (k * p)
  unfolding read_generators
  generators-end at k p m e =
      let a = field-got (map_field bs at (k * p)) (λ map. read_rows bs m p k map (at + 2)) e in
      rows-end m p k a.0 (at + 2) a.2

  checks-end : (c : Card) (i left : ℕ) (earlier : List (List ℕ)) (at : ℕ) {checks : List (List ℕ)} {at₁ : ℕ}
      → read_checks bs c i left earlier at ≡ got checks at₁ → at₁ ≤ at + left * (1 + 4 * c.p)
  unfolding read_checks
  checks-end c i zero earlier at e = omega (arith, got-where e)
  checks-end c i (suc left) earlier at e =
      let rest : List ℕ → ℕ → Read (List (List ℕ)) = λ vs. read_checks bs c i left (vs ∷ earlier) in
      let a = next-got (read_check bs c i earlier at) (λ vs after. read_mapped (λ checks. vs ∷ checks) (rest vs after)) e in
      let b = map-got (λ checks. a.0 ∷ checks) (rest a.0 a.1) a.3 in
      let k = check-is bs c i earlier at a.2 in
      omega (arith, masks-end c.m c.p k.map (at + 1) k.masks-read, checks-end c i left (a.0 ∷ earlier) a.1 b.1)

  streams-end : (c : Card) (left i at : ℕ) {streams : List Stream} {at₁ : ℕ} → read_streams bs c left i at ≡ got streams at₁
      → at₁ ≤ at + left * (1 + most_checks * (1 + 4 * c.p))
  unfolding read_streams
  streams-end c zero i at e = omega (arith, got-where e)
  streams-end c (suc left) i at e =
      let rest : ℕ → Read (List Stream) = read_streams bs c left (i + 1) in
      let stream : ℕ → List (List ℕ) → List Stream → List Stream = λ count checks streams. record { count = count; checks = checks } ∷ streams in
      let read : ℕ → Read (List (List ℕ)) = λ count. read_checks bs c i count [] (at + 1) in
      let go_on : ℕ → List (List ℕ) → ℕ → Read (List Stream) = λ count checks after. read_mapped (stream count checks) (rest after) in
      let a = field-got (byte_field bs at 1 most_checks 7) (λ count. next (read count) (go_on count)) e in
      let b = next-got (read a.0) (go_on a.0) a.2 in
      let d = map-got (stream a.0 b.0) (rest b.1) b.3 in
      let n = byte-is bs at 1 most_checks 7 a.0 a.1 in
      let most : a.0 * (1 + 4 * c.p) ≤ most_checks * (1 + 4 * c.p) = mul-le-mul_right (1 + 4 * c.p) n.most in
      omega (arith, checks-end c i a.0 [] (at + 1) b.2, streams-end c left (i + 1) b.1 {streams = d.0} d.1)

  pub accepted-short : (rule : CardRule) → (read_under rule bs).outcome ≡ accepted → length bs ≤ longest_card
  accepted-short rule e =
      let a = accepted-read rule bs e in
      let f = a.0 in
      let k = f.head.k in
      let p = f.head.n - k in
      let w = (read-in rule bs f a.1 a.2).ranges in
      let parts = fields-are rule bs f a.1 a.2 in
      let h = head-is rule bs f.head parts.at₀ parts.head_read in
      let few = few-generators k p w.k_most (omega (arith, w.n_least, w.n_most)) in
      let rows = generators-end parts.at₀ k p f.head.m parts.rows-read in
      let streams = streams-end (code_of f.head f.rows) k 0 parts.at₁ parts.streams-read in
      omega (arith, w.k_most, h.at-is, h.map-byte.most, parts.at-end)

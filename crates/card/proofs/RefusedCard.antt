-- A refused card is the empty one, and no verdict is both.
use Prim.Native.Nat.{ℕ}
use mathlib.Core.Path.{◌≡◌, refl}
use mathlib.Core.List.{List}
use native.Mathlib.Omega.{arith}
use Rattle.card.specs.Fields.{Fields, empty_card}
use Rattle.card.specs.Outcome.{Outcome, accepted, refused}
use Rattle.card.specs.Reading.{Read, got, fault, answer, read_fields, read_under}
use Rattle.card.specs.declared.CardRule.{CardRule}

pub not-both : {o : Outcome} {n at : ℕ} → o ≡ accepted → o ≡ refused n at → ⊥
not-both p q = let z : ◌≡◌ {A = ℕ} 0 1 = cc in omega arith

empty-answer : (r : Read Fields) {n at : ℕ} → (answer r).outcome ≡ refused n at → (answer r).card ≡ empty_card
empty-answer (got f at) e = absurd (not-both refl e)
empty-answer (fault n at) e = refl

pub refused-card : (rule : CardRule) (bytes : List ℕ) {n at : ℕ} → (read_under rule bytes).outcome ≡ refused n at → (read_under rule bytes).card ≡ empty_card
unfolding read_under
refused-card rule bytes e = empty-answer (read_fields rule bytes) e

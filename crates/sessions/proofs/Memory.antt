-- An accepted card's memory is at most 31.
use Prim.Native.Nat.{ℕ, ◌≤◌}
use mathlib.Core.Path.{◌≡◌, sym, subst}
use mathlib.Core.List.{List}
use Rattle.code.specs.declared.Card.{Card}
use Rattle.card.specs.Fields.{card_of}
use Rattle.card.specs.Outcome.Outcome.{accepted}
use Rattle.card.specs.Reading.{read_card}
use Rattle.card.specs.declared.CardRule.TheVariants.{Present}
use Rattle.card.proofs.Limits.{read-in}
use Rattle.card.proofs.WholeReading.{accepted-read}

pub memory-most : (bytes : List ℕ) → (read_card bytes).outcome ≡ accepted → (read_card bytes).card.m ≤ 31
unfolding card_of
memory-most bytes e =
    let a = accepted-read Present bytes e in
    subst (λ (c : Card). c.m ≤ 31) (sym a.3) (read-in Present bytes a.0 a.1 a.2).ranges.m_most

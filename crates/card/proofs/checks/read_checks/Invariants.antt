-- Nothing is refused so far, and the rest of the checks from where the loops stand gives the whole answer (`RestChecks`, `CheckLoops`).
use Prim.Native.Nat.{ℕ}
use Rattle.std.specs.Prelude.{◌≡◌, Ok}
use mathlib.Core.List.{List}
use lib.ListN.{replicate}
use Rattle.code.specs.Limits.{check_words}
use Rattle.card.specs.Reading.{Read, read_mapped, read_streams}
use Rattle.card.specs.Parts.{Tables, code_by, tables_with}
use Rattle.card.specs.declared.parts.Sizes.{Sizes}
use Rattle.card.proofs.CheckLoops.{AtStreams, AtChecks, AtMasks}
use Rattle.card.proofs.checks.read_checks.Given as goal

-- the whole answer
abbrev whole : List ℕ → ℕ → Sizes → List ℕ → Read Tables
whole bytes start sizes generators =
    read_mapped (tables_with 0 (replicate 4 0) (replicate check_words 0)) (read_streams bytes (code_by sizes generators) sizes.k 0 start)

abbrev pub invariant-loop-j : goal.invariant-loop-j
invariant-loop-j l =
    record {
      unbroken : l.outcome ≡ Ok tt;
      place : AtMasks l.bytes (code_by l.sizes l.generators) (whole l.bytes l.start l.sizes l.generators) l.i l.q-end l.counts l.q l.place l.touched l.checks l.masks l.rest l.at l.j;
    }

abbrev pub invariant-loop-q : goal.invariant-loop-q
invariant-loop-q l =
    record {
      unbroken : l.outcome ≡ Ok tt;
      place : AtChecks l.bytes (code_by l.sizes l.generators) (whole l.bytes l.start l.sizes l.generators) l.i l.q-end l.counts l.checks l.touched l.at l.q;
    }

abbrev pub invariant-card : goal.invariant-card
invariant-card l =
    record {
      unbroken : l.outcome ≡ Ok tt;
      place : AtStreams l.bytes (code_by l.sizes l.generators) (whole l.bytes l.start l.sizes l.generators) l.counts l.checks l.at l.i;
    }

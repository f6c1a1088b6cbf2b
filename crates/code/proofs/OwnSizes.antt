-- The sizes of an accepted card are its own.
use Prim.Native.Nat.{◌+◌, ◌-◌, min}
use mathlib.Core.Path.{◌≡◌}
use native.Mathlib.Omega.{arith}
use Rattle.code.specs.Guarantees.{Guarantees}
use Rattle.code.specs.Sizes.{sizes_of}
use Rattle.code.specs.declared.Card.{Card}
use Rattle.code.specs.declared.Sizes.{Sizes}

abbrev pub own : Card → Sizes
own c = record { k = c.k; p = c.p; n = c.k + c.p; m = c.m }

pub sizes-are : (c : Card) → Guarantees c → sizes_of c.k c.p c.m ≡ own c
sizes-are c G =
    let k-is : min c.k 4 ≡ c.k = omega (arith, G.k_most) in
    let p-is : min c.p (8 - min c.k 4) ≡ c.p = omega (arith, G.k_most, G.n_most) in
    cc (k-is, p-is)

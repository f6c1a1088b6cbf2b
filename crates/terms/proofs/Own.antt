-- The own digit of a check: the page's word for it, and that of the definitions below.
use Prim.Native.Nat.{ℕ, ◌-◌}
use mathlib.Core.Path.{◌≡◌, refl}
use mathlib.Core.Bool.{Bool, true, false, cond, ◌&&◌}
use lib.Dec.{eqb}
use Rattle.code.specs.Checks.{besides}
use Rattle.terms.specs.Terms.{own}

pub besides-is : (i b s : ℕ) → besides i b s ≡ 1 - own i b s
unfolding besides
besides-is i b s = go (eqb b 0) (eqb s i)
  where
    go : (x y : Bool) → cond x (cond y 0 1) 1 ≡ 1 - cond (x && y) 1 0
    go true true = refl
    go true false = refl
    go false y = refl

pub own_is : (i b s : ℕ) → own i b s ≡ 1 - besides i b s
unfolding besides
own_is i b s = go (eqb b 0) (eqb s i)
  where
    go : (x y : Bool) → cond (x && y) 1 0 ≡ 1 - cond x (cond y 0 1) 1
    go true true = refl
    go true false = refl
    go false y = refl

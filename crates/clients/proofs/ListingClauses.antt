-- What the clauses of the listing's promise give.
use Prim.Native.Nat.{ℕ}
use mathlib.Core.Path.{◌≡◌, sym, ◌∙◌}
use mathlib.Core.List.{List, ◌++◌}
use lib.ListN.{length, take}
use lib.Seq.{take_at}
use Rattle.outcomes.specs.Listing.{listing}
use Rattle.listing.specs.Promise.{Lists}
use Rattle.listing.proofs.AtFront.{front-is}

-- the bytes counted are the listing of every input that begins so
pub listed-whole : {input output after : List ℕ} {r : ℕ} → Lists input output r after → length input ≡ 34819 → (more : List ℕ)
    → take r after ≡ listing (input ++ more)
listed-whole {input} promise long more = front-is promise.listed ∙ sym (promise.by_the_front (input ++ more) (sym (take_at input more 34819 long)))

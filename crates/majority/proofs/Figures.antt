-- Where no syndrome is held the link figure is 0: before the first frame, and without memory. And the rows of the figure, by computing.
use Prim.Native.Nat.{ℕ, ◌-◌}
use mathlib.Core.Path.{◌≡◌, refl}
use mathlib.Core.List.{List, []}
use native.Mathlib.Omega.{arith}
use lib.ListN.{length}
use Rattle.bits.specs.Sums.{sum_below, back, grown}
use Rattle.bits.specs.Digits.{bit, from_digits}
use Rattle.bits.proofs.Sums.{sum-none}
use Rattle.code.specs.Code.{generator, digit, parity_at}
use Rattle.code.specs.Checks.{count, check_mask, touches_info, touches_by, besides}
use Rattle.code.specs.Judging.{clashes}
use Rattle.code.specs.declared.Card.{Card}
use Rattle.majority.specs.Rule.{syndrome, cleared, check_at, voting, voters, votes, decide, decide_frame, decided, figure_by}
use Rattle.majority.specs.Figures.{FigureRows}

figure-none : (c : Card) (frames erased : List ℕ) → length frames - (length frames - c.m) ≡ 0 → figure_by c frames erased ≡ 0
unfolding figure_by
figure-none c frames erased none = sum-none _ _ (λ j l. sum-none _ _ (λ a k. absurd (omega arith)))

pub figure-fresh : (c : Card) → figure_by c [] [] ≡ 0
figure-fresh c = figure-none c [] [] (omega arith)

pub figure-without-memory : (c : Card) (frames erased : List ℕ) → c.m ≡ 0 → figure_by c frames erased ≡ 0
figure-without-memory c frames erased e = figure-none c frames erased (omega arith)

pub figure-rows : FigureRows
unfolding sum_below back grown bit from_digits generator digit parity_at count check_mask touches_info touches_by besides clashes syndrome cleared check_at voting voters votes decide decide_frame decided figure_by
figure-rows =
    record {
      one_frame = refl;
      two_frames = refl;
      later_frames = refl;
      undecided = refl;
      fed_back_first = refl;
      fed_back_by_votes = refl;
      fed_back_by_all = refl;
      twenty_frames = refl;
    }

use Rattle.std.proofs.Common.{rules}
use Rattle.code.specs.Registers.{generator_mask}
use Rattle.code.proofs.generator.Goals as goal

pub returns-then-j-lt8 : goal.returns-then-j-lt8
unfolding generator_mask
returns-then-j-lt8 c = search rules

pub returns-else-i-lt4 : goal.returns-else-i-lt4
unfolding generator_mask
returns-else-i-lt4 c = search rules

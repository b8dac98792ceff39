use Rattle.std.proofs.Common.{◌≡◌, take}
use Rattle.nodes.specs.Nodes.{suffix_mask}
use Rattle.words.specs.Index.{indexed}
use Rattle.link.proofs.expect.mask_of.Given as goal

-- the mask of the words so far
abbrev pub invariant-loop-j : goal.invariant-loop-j
invariant-loop-j l = l.mask ≡ suffix_mask (take l.j (indexed l.words)) l.string

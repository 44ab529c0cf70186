-- The claims, by the laws of the other files.
use Rattle.net_laws.specs.Claims.{RootPair, JunctionEnd, NearestEnd, LineWire, FallbackWire, WiredOn, RootWire, Branch, BranchRow, BranchLaid}
use Rattle.net_laws.proofs.Roots.{root}
use Rattle.net_laws.proofs.Choices.{junction-first, nearest-first}
use Rattle.net_laws.proofs.Pages.{wired-on}
use Rattle.net_laws.proofs.Lines.{line-wire, fallback-wire}
use Rattle.net_laws.proofs.Nets.{wire-net, branch-net, branch_row, branch-laid}

pub root_pair_is : RootPair
root_pair_is xs ys n h = root xs ys n h

pub junction-end : JunctionEnd
junction-end E px py m i h s = junction-first E px py m i h s

pub nearest-end : NearestEnd
nearest-end E px py m h = nearest-first E px py m h

pub a-line : LineWire
a-line Spot lo hi O S L D is_root J two n m = line-wire Spot lo hi S.range O S.long S.near_x S.near_y L D is_root J two n m

pub a-fallback : FallbackWire
a-fallback Spot lo hi O S sx sy ex ey s e along J n m = fallback-wire Spot lo hi S.range O S.long S.near_x S.near_y sx sy ex ey s e along J n m

pub wired : WiredOn
wired O P sx sy ex ey J L W = wired-on L W

pub a-root : RootWire
a-root Spot lo hi range O Q j₀ W R j N L D sx sy ex ey s e leads along is_root J few z = wire-net Spot lo hi range O Q j₀ W R j N L D sx sy ex ey s e leads along is_root J few z

pub a-branch : Branch
a-branch Spot lo hi range O Q j₀ W R j N L D sx sy s reach along some few z = branch-net Spot lo hi range O Q j₀ W R j N L D sx sy s reach along some few z

pub a-row : BranchRow
a-row Spot lo hi range O Q j₀ W R j N L D sx sy s reach along some few z = branch_row Spot lo hi range O Q j₀ W R j N L D sx sy s reach along some few z

pub branch-is-laid : BranchLaid
branch-is-laid Spot lo hi range O Q j₀ W R j N L D sx sy s reach along some few z = branch-laid Spot lo hi range O Q j₀ W R j N L D sx sy s reach along some few z

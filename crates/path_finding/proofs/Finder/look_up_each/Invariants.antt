-- The ends passed are nodes, and listed.
use Rattle.std.proofs.Common.{◌≡◌, true, take}
use Rattle.path_finding.specs.Lent.{graph_in, ends_x, ends_y, Kept}
use Rattle.path_finding.specs.Places.{known_to, nodes_to}
use Rattle.path_finding.proofs.Finder.look_up_each.Given as goal

abbrev pub invariant-loop-i : goal.invariant-loop-i
invariant-loop-i l = record {
  known : true ≡ known_to (graph_in l.fn.self) (ends_x l.ends) (ends_y l.ends) l.i;
  nodes : take l.i l.self.list.now ≡ nodes_to (graph_in l.fn.self) (ends_x l.ends) (ends_y l.ends) l.i;
  kept : Kept l.fn.self l.self;
}

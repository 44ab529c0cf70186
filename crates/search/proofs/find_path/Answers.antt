-- The line lies at the end of the list, and is written out from there.
use Rattle.std.proofs.Common.{length, ◌-◌, ◌∙◌}
use borrow.Author.Rules.{part_to_end}
use Rattle.path_finding.specs.Places.{nodes_in}
use Rattle.path_finding.proofs.Between.{nodes-below, unwrapped}
use Rattle.search.proofs.find_path.Goals as goal

pub write-requires : goal.write-requires
write-requires c =
    let list = c.find_between-found.new.self.list.now in
    let found = c.find_between-found.result in
    let nodes = c.unwrap_or.ensures ∙ unwrapped found in
    rw (c.find_between-found.ensures.kept.same_graph, nodes) (nodes-below _ _ _ _ _ _ _ _ c.find_between-found.ensures.answered c.requires.ready _ (part_to_end list (length list - nodes_in found)))

use Rattle.prune.proofs.Lent.{links-moved}
use Rattle.prune.proofs.move_links.Goals as goal

pub returns-clause-value : goal.returns-clause-value
returns-clause-value c =
    let inside = c.requires.1 in
    let a = c.link-a.ensures.value inside in
    let b = c.link-b.ensures.value inside in
    let d = c.link-c.ensures.value inside in
    let e = c.link-d.ensures.value inside in
    links-moved _ _ _ _ _ _ _ _ _ _ _ a b d e c.put_link.ensures.value c.put_link-2.ensures.value c.put_link-3.ensures.value c.put_link-4.ensures.value

use Rattle.std.proofs.Common.{◌==◌, ◌&&◌, ◌∙◌, ap, sym}
use Rattle.std.specs.Prelude.{find}
use Rattle.change_lists.specs.Lists.{is_link_at}
use Rattle.config_graph.specs.declared.node.Link.{Link}
use Rattle.change_lists.proofs.LookupLemmas.{no_link}
use Rattle.change_lists.proofs.lookups.LinkIndex.link.Goals as goal

pub returns-in-Some : goal.returns-in-Some
returns-in-Some c =
    let i = c.in-Some.place in
    let x = c.args.made in
    c.copied.ensures ∙ c.get.ensures.value ∙ c.self.invariant i x.require ∙ ap (find (λ (l : Link). (i == l.from) && (x.require == l.require))) c.self.view_is
    ∙ ap (λ place. find (is_link_at place x) c.args.self.now) (sym c.in-Some.is)

pub returns-in-None : goal.returns-in-None
returns-in-None c = no_link c.args.made c.args.self.now ∙ ap (λ place. find (is_link_at place c.args.made) c.args.self.now) (sym c.in-None.is)

use Rattle.quiesce_laws.proofs.WalkLemmas.{denied_link, allowed_link, link_that_closes}
use Rattle.quiesce_laws.proofs.cycles.links_that_close_walks_are_denied.Goals as goal

pub returns : goal.returns
returns c = record {
  denied = λ s p n x h. denied_link s p n x h;
  allowed = λ s p n x h w. allowed_link s p n x h w;
  exactly = λ s p n x live unlinked provision settled. (denied_link s p n x, link_that_closes s p n x live unlinked provision settled);
}

use Rattle.std.proofs.Common.{rules}
use Rattle.node_host.proofs.posting.post.Goals as goal

pub returns : goal.returns
returns g c = record {
  posted = c.is_ok-posted.result;
  waits = search rules;
  tried = search rules;
  full = search rules;
  put = search rules;
  counts = search rules;
  told = search rules;
}

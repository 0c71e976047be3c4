use Rattle.std.proofs.Common.{◌∙◌, ap, is_some, bytes_eq}
use Rattle.base.proofs.FindLaws.{is_some-position}
use Rattle.darwin_types.proofs.names.Names.contains.Goals as goal

pub returns : goal.returns
returns c = c.is_some.ensures ∙ ap is_some c.position.ensures.place ∙ is_some-position (bytes_eq c.args.name.now) c.args.self.now

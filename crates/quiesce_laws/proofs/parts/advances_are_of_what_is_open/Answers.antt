use Rattle.quiesce_core.proofs.LegalLaws.{legal}
use Rattle.quiesce_laws.proofs.Advancing.{advance_port, advances_are_others, of_the_named, of_the_open}
use Rattle.quiesce_laws.proofs.parts.advances_are_of_what_is_open.Goals as goal

pub returns : goal.returns
returns c = record {
  port = λ s e k may advances. let o = advance_port s e k (legal s e may) advances in (o.port, o.of_it, o.open_);
  which = advances_are_others;
  exactly = λ s e k may. of_the_open s e k (legal s e may);
  named = λ s e p j may names. of_the_named s e p j (legal s e may) names;
}

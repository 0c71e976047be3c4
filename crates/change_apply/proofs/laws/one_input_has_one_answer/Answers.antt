use Rattle.std.proofs.Common.{◌∙◌, ap}
use Rattle.cfg_io.specs.Sink.{with_bytes}
use Rattle.change_apply.specs.Applied.{Place, ending_of}
use Rattle.change_apply.proofs.LawLemmas.{one_place}
use Rattle.change_apply.proofs.laws.one_input_has_one_answer.Goals as goal

pub returns : goal.returns
returns c = λ r came before taken e h read.
    let is = one_place r came h.place h.reached h.over (λ unread. read (h.is ∙ unread)) in
    (h.put ∙ ap (λ (p : Place). with_bytes before p.text) is, h.is ∙ ap (λ (p : Place). ending_of p.answer) is)

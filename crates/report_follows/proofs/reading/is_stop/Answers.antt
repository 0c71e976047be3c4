use Rattle.std.proofs.Common.{◌≡◌, ◌∙◌, sym}
use Rattle.std.specs.Prelude.{◌↔◌, IsTrue}
use Rattle.report_follows.specs.Fronts.{IsStopOf, is_stop_of}
use Rattle.report_follows.proofs.OpeningLemmas.{stop_finds, stop_means}
use Rattle.report_follows.proofs.reading.is_stop.Goals as goal
use Rattle.std.proofs.lemmas.Result.{IfOk-weaker}

pub returns : goal.returns
returns c =
    let ls = c.args.lines.now in
    let ports = c.args.ports.now in
    IfOk-weaker c.is_stop.result (λ b. b ≡ is_stop_of ports ls) (λ b. IsTrue b ↔ IsStopOf ports ls) (λ b e. (λ h. stop_means ports ls (sym e ∙ h), λ x. e ∙ stop_finds ports ls x)) c.is_stop.ensures

use Rattle.std.proofs.Common.{sym, ◌∙◌}
use Rattle.std.proofs.lemmas.Option.{same_Some}
use Rattle.change_round_laws.specs.SoundStatements.{elaborates_by}
use Rattle.change_round_laws.proofs.StatementLaws.{one_list}
use Rattle.change_round_laws.proofs.saying.a_script_has_one_list_of_statements.Goals as goal

pub returns : goal.returns
returns c = record { one = λ elab script a b x y. one_list (elaborates_by elab) (λ file name args g h p q. same_Some g h (sym p ∙ q)) script a b x y }

use Rattle.std.proofs.Common.{◌==◌, [], ap, sym, ◌∙◌, option_map}
use Rattle.std.specs.Option.{option_map_or}
use Rattle.report_writing.specs.MadeNodes.{slot_path_of}
use Rattle.report_writing.specs.Reports.{SlotPath}
use Rattle.report_writing.proofs.writing.search_path.Goals as goal
use Rattle.base.proofs.FindLaws.{find-map}

pub returns-in-Some : goal.returns-in-Some
returns-in-Some c =
    let is_of = λ (m : SlotPath). m.slot == c.args.slot in
    ap (λ o. option_map_or (λ (m : SlotPath). m.path) (option_map slot_path_of o) []) c.in-Some.ensures ∙ sym (ap (λ o. option_map_or (λ (m : SlotPath). m.path) o []) (find-map is_of slot_path_of c.args.made.now))

pub returns-in-None : goal.returns-in-None
returns-in-None c =
    let is_of = λ (m : SlotPath). m.slot == c.args.slot in
    ap (λ o. option_map_or (λ (m : SlotPath). m.path) (option_map slot_path_of o) []) c.in-None.ensures ∙ sym (ap (λ o. option_map_or (λ (m : SlotPath). m.path) o []) (find-map is_of slot_path_of c.args.made.now))

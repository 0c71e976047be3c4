use Rattle.change_round_laws.proofs.ending.a_sound_script_has_a_report.Goals as goal

pub returns : goal.returns
returns c = record { exists = c.a_sound_script_has_a_report_where_stops_end.ensures.exists c.stops_come_to_an_end.ensures.end }

-- Requests, sessions and runs, from what the parts of the code say.
use Rattle.std.proofs.Common.{◌≡◌, ◌∙◌, ◌++◌, ℕ, List, [], Option, Some, None, Ok, Err, inl, inr, length, map, refl, sym, ap, subst, arith}
use Rattle.std.specs.List.{enumerate_from}
use Rattle.std.specs.Prelude.{◌==◌, if◌then◌else◌}
use Rattle.std.specs.Io.Buffered.{reader_buffer, reader_capacity, reader_inner, reader_remaining}
use Rattle.std.specs.Io.KnownBytes.{prepend_known}
use Rattle.std.specs.declared.io.buffered.BufReader.{BufReader}
use Rattle.std.proofs.lemmas.List.{length-map}
use Rattle.std.proofs.lemmas.List.FromFn.{length-enumerate_from}
use Rattle.base.specs.Count.{Rose}
use Rattle.cfg_io.specs.Shelf.{Files}
use Rattle.config_graph.specs.Graph.{Graph, IsGraph, ports}
use Rattle.config_graph.specs.Sound.{Sound}
use Rattle.config_graph.specs.declared.node.Made.{Made}
use Rattle.change_apply.specs.Sessions.{CanChange, change_in}
use Rattle.change_apply.specs.Talks.{Bytes, CountsFaults, Ends}
use Rattle.change_apply.specs.declared.request.Request.{Request}
use Rattle.change_apply.specs.declared.said.Ending.{Ending}
use Rattle.change_apply.specs.declared.said.Ending.TheVariants as ending
use Rattle.change_plan.specs.Plans.{IsPlanOf}
use Rattle.change_plan.specs.Refusals.{CanPlan}
use Rattle.change_plan.specs.Room.{HasRoomFor}
use Rattle.change_plan.specs.declared.plan_data.Plan.{Plan}
use Rattle.change_plan_laws.specs.Committing.{made_in}
use Rattle.change_spec.specs.Scripts.{more_made, nothing_made}
use Rattle.command_answers.specs.Answers.{Refusal, description, no_memory, no_memory_line, read_fault, refusal_status, refusal_text, script, usage}
use Rattle.command_answers.specs.declared.status.Status.{Status}
use Rattle.command_answers.specs.declared.status.Status.TheVariants as status
use Rattle.command_program.specs.Coming.{Comes, EndsIn, stop_status, stop_text}
use Rattle.command_program.specs.Planning.{CanMake, IsChangeOf}
use Rattle.command_program.specs.declared.change_lines.Planned.{Planned}
use Rattle.command_program.specs.declared.answer.Stop.{Stop}
use Rattle.command_program.specs.declared.answer.Stop.TheVariants as stops
use Rattle.command_program.proofs.ComingLaws.{comes_here, comes_on, comes_stop}
use Rattle.command_spec.specs.Courses.{End, came, not_fetched, refusal, said, says, Follows}
use Rattle.command_spec.specs.Lines.{Progress, begun, of_lines}
use Rattle.command_spec.specs.Plans.{lines_of_change, made_of_graph, statements_of_change}
use Rattle.command_spec.proofs.ChangeLineLaws.{first_made}
use Rattle.command_spec.specs.Runs.{Run, Written, stopped as stopped_at, whole}
use Rattle.command_words.specs.declared.sessions.SessionWords.{SessionWords}
use Rattle.quiesce_core.specs.Start.{gate_of, slot_of, started}
use Rattle.command_apply.specs.Applying.{AppliesBy, GoesOn, IsRequest, Talks, TalksTo, course_to_session}
use Rattle.command_apply.specs.Requests.{Asked, EndsWith, IsRequestFor}

-- a start makes what stands behind it
same_made : (g : Graph) → made_of_graph g ≡ made_in (started g).config
same_made g =
    let of : ℕ → ℕ → Made = λ n m. record { nodes = n; ports = m } in
    ap (λ n. of n (length (ports g.nodes)))
    (sym (length-map (enumerate_from 0 g.nodes) (slot_of g.nodes) ∙ length-enumerate_from 0 g.nodes))
    ∙ ap (of (length (map (slot_of g.nodes) (enumerate_from 0 g.nodes)))) (sym (length-map (ports g.nodes) (gate_of g)))

-- what can be made may be carried out
started_is_graph : (g : Graph) → Sound g → HasRoomFor nothing_made g → IsGraph g
started_is_graph g sound room = record {
  paths_rise = sound.paths_rise;
  within = sound.within;
  in_order = sound.in_order;
  few_nodes = omega (arith, room.nodes_fit);
  few_ports = omega (arith, room.ports_fit);
}

can_change :
    (old new : Graph) (plan : Plan) (within : ℕ) → Sound old → HasRoomFor nothing_made old → IsGraph new → Sound new
    → IsPlanOf old new [] plan → CanPlan old new [] (more_made nothing_made (length old.nodes) (length (ports old.nodes)))
    → CanChange (record { old = old; new = new; plan = plan; within = within })
can_change old new plan within old_sound room new_is new_sound is_plan can = record {
  old_graph = started_is_graph old old_sound room;
  old_sound = old_sound;
  few_nodes = omega (arith, room.nodes_fit);
  few_ports = omega (arith, room.ports_fit);
  new_graph = new_is;
  new_sound = new_sound;
  is_plan = is_plan;
  can_plan = subst (CanPlan old new []) (first_made old ∙ same_made old) can;
}

pub can_request : (within : ℕ) (p : Planned) (r : Request) → IsRequestFor within p r → CanMake p → CanChange (change_in r)
can_request within p r f can =
    let change = can.can_change in
    rw (f.from_graph, f.to_graph, f.plan_is)
    (can_change p.start.graph p.change.graph p.change.plan r.within can.can_start.sound can.can_start.room change.is_graph change.sound
    (subst (λ ms. IsPlanOf p.start.graph p.change.graph ms p.change.plan) can.no_moves change.is_plan)
    (subst (λ ms. CanPlan p.start.graph p.change.graph ms (more_made nothing_made (length p.start.graph.nodes) (length (ports p.start.graph.nodes)))) can.no_moves change.can_plan))

-- the request of what was planned
is_request :
    (asked : SessionWords) (p : Planned) (q : Progress) (r : Request) → IsChangeOf asked.change p q → CanMake p → IsRequestFor asked.within p r
    → IsRequest asked q.statements r
is_request asked p q r c can f = record {
  from_name = f.from_name ∙ c.from_name;
  from_args = f.from_args ∙ c.from_args;
  to_name = f.to_name ∙ c.to_name;
  to_args = f.to_args ∙ c.to_args;
  said_are = c.said_are ∙ (λ i. statements_of_change asked.change (sym f.from_graph i) (sym f.to_graph i));
  is_plan = rw (f.from_graph, f.to_graph, f.plan_is) (subst (λ ms. IsPlanOf p.start.graph p.change.graph ms p.change.plan) can.no_moves can.can_change.is_plan);
  within_is = f.within_is;
}

module _ (files : Option Files) (asked : SessionWords) (failures failures' : List (List ℕ)) where
  pub comes_to_request :
      (p : Planned) (r : Request) → Comes (IsChangeOf asked.change) files (of_lines begun (lines_of_change asked.change)) failures failures' (Ok p)
      → CanMake p → IsRequestFor asked.within p r → Comes Asked files (course_to_session asked) failures failures' (Ok r)
  comes_to_request p r first can f =
      comes_on (IsChangeOf asked.change) Asked files (λ (q : Progress). says (IsRequest asked q.statements)) (of_lines begun (lines_of_change asked.change)) files
      failures failures' failures' p (Ok r) refl first
      (λ q is. comes_here Asked files (says (IsRequest asked q.statements)) failures' failures' (Ok r) refl
      (r, refl, said r (is_request asked p q r is can f)))

  pub stops_before :
      (stop : Stop) → Comes (IsChangeOf asked.change) files (of_lines begun (lines_of_change asked.change)) failures failures' (Err stop)
      → Comes {T = Request} Asked files (course_to_session asked) failures failures' (Err stop)
  stops_before stop by =
      comes_stop (IsChangeOf asked.change) Asked files (λ (q : Progress). says (IsRequest asked q.statements)) (of_lines begun (lines_of_change asked.change)) failures
      failures' stop by

-- the input, behind an empty buffer
none_ahead : (known : Option (List ℕ)) → prepend_known [] known ≡ known
none_ahead None = refl
none_ahead (Some xs) = refl

-- A session, and what is done at its end. What the sink took, its faults and the status are given one by one.
abbrev pub with_sink : Run → Bytes → Bytes → ℕ → ℕ → Status → Run
with_sink seen k k' n n' own = record seen { taken = k; taken' = k'; faults = n; faults' = n'; status = own }

pub talked :
    (r : Request) (input : Bytes) (seen : Run) (k k' k'' : Bytes) (n n' n'' : ℕ) (own : Status) (e : Ending) → Ends r input k k' e → CountsFaults n n' e
    → EndsWith e (with_sink seen k' k'' n' n'' own) → TalksTo r input (with_sink seen k k'' n n'' own) e
talked r input seen k k' k'' n n' n'' own ending.NoMemory ends faults with =
    (k', ends, subst (λ m. Written status.NoMemory no_memory_line (with_sink seen k' k'' m n'' own)) faults with)
talked r input seen k k' k'' n n' n'' own ending.Committed ends faults with = (rw with.0 ends, rw with.1 faults, with.2)
talked r input seen k k' k'' n n' n'' own ending.GivenUp ends faults with = (rw with.0 ends, rw with.1 faults, with.2)
talked r input seen k k' k'' n n' n'' own ending.Denied ends faults with = (rw with.0 ends, rw with.1 faults, with.2)
talked r input seen k k' k'' n n' n'' own ending.Bad ends faults with = (rw with.0 ends, rw with.1 faults, with.2)
talked r input seen k k' k'' n n' n'' own ending.Unread ends faults with = (rw with.0 ends, rw with.1 faults, with.2)
talked r input seen k k' k'' n n' n'' own ending.Unwritten ends faults with = (rw with.0 ends, rw with.1 faults, with.2)

-- a run, from the request that it input to, or why it input to none
pub applied_by :
    (asked : SessionWords) (input : Bytes) (seen : Run) (r : Request)
    → Comes Asked seen.files (course_to_session asked) seen.failures seen.failures' (Ok r) → Talks r input seen → AppliesBy asked input seen
applied_by asked input seen r by talked = record {
  failing = by.failing;
  end = came r;
  by = subst (λ x. Follows seen.files (course_to_session asked) by.failing (came x)) (sym by.ends.1) by.ends.2;
  noted = by.noted;
  goes_on = talked;
}

pub stopped :
    (asked : SessionWords) (input : Bytes) (seen : Run) (stop : Stop)
    → Comes Asked seen.files (course_to_session asked) seen.failures seen.failures' (Err stop) → Written (stop_status stop) (stop_text stop) seen
    → AppliesBy asked input seen
stopped asked input seen stop by written = of stop by.failing by.noted by.ends written
  where
    of : (stop : Stop) (failing : List (List ℕ)) → seen.failures' ≡ seen.failures ++ failing
        → EndsIn Asked seen.files (course_to_session asked) failing (Err stop) → Written (stop_status stop) (stop_text stop) seen → AppliesBy asked input seen
    of (stops.Refused answer) failing noted (why, refuses, on) written = record {
      failing = failing;
      end = refusal why;
      by = on;
      noted = noted;
      goes_on = subst (λ s. Written s (refusal_text why) seen) refuses.status_is (subst (λ t. Written answer.status t seen) refuses.text_is written);
    }
    of stops.NoMemory failing noted (inl none) written = record {
      failing = [];
      end = refusal no_memory;
      by = not_fetched;
      noted = subst (λ ns. seen.failures' ≡ seen.failures ++ ns) none noted;
      goes_on = written;
    }
    of stops.NoMemory failing noted (inr on) written = record { failing = failing; end = refusal no_memory; by = on; noted = noted; goes_on = written }

-- what is left of a reader that was just made is all of the input
pub fresh_reader :
    {T A : Type 0} (left : T → Option (List ℕ)) (r : BufReader T A) (input : T) → reader_inner r ≡ input → reader_buffer r ≡ []
    → reader_capacity r ≡ 8192 → reader_remaining left r ≡ left input
fresh_reader left r input inner empty capacity =
    ap (λ n. if n == 0 then None else prepend_known (reader_buffer r) (left r.inner)) capacity
    ∙ (ap (λ bytes. prepend_known bytes (left r.inner)) empty ∙ (none_ahead (left r.inner) ∙ ap left inner))

-- status 5 comes exactly where the sink failed

written_fault : (own : Status) (text : List ℕ) (seen : Run) → (own ≡ status.WriteFault → ⊥) → Written own text seen → seen.status ≡ status.WriteFault → Rose seen.faults seen.faults'
written_fault own text seen other (whole taken steady is) fault = absurd (other (sym is ∙ fault))
written_fault own text seen other (stopped_at n short taken rose is) fault = rose

written_steady : (own : Status) (text : List ℕ) (seen : Run) → Written own text seen → (seen.status ≡ status.WriteFault → ⊥) → seen.faults' ≡ seen.faults
written_steady own text seen (whole taken steady is) other = steady
written_steady own text seen (stopped_at n short taken rose is) other = absurd (other is)

talked_fault : (r : Request) (input : Bytes) (seen : Run) (e : Ending) → TalksTo r input seen e → seen.status ≡ status.WriteFault → Rose seen.faults seen.faults'
talked_fault r input seen ending.NoMemory t fault = written_fault status.NoMemory no_memory_line (record seen { taken = t.0 }) (λ same. cc) t.2 fault
talked_fault r input seen ending.Unwritten t fault = t.1
talked_fault r input seen ending.Committed t fault = cc (t.2, fault)
talked_fault r input seen ending.GivenUp t fault = cc (t.2, fault)
talked_fault r input seen ending.Denied t fault = cc (t.2, fault)
talked_fault r input seen ending.Bad t fault = cc (t.2, fault)
talked_fault r input seen ending.Unread t fault = cc (t.2, fault)

talked_steady : (r : Request) (input : Bytes) (seen : Run) (e : Ending) → TalksTo r input seen e → (seen.status ≡ status.WriteFault → ⊥) → seen.faults' ≡ seen.faults
talked_steady r input seen ending.NoMemory t other = written_steady status.NoMemory no_memory_line (record seen { taken = t.0 }) t.2 other
talked_steady r input seen ending.Unwritten t other = absurd (other t.2)
talked_steady r input seen ending.Committed t other = t.1
talked_steady r input seen ending.GivenUp t other = t.1
talked_steady r input seen ending.Denied t other = t.1
talked_steady r input seen ending.Bad t other = t.1
talked_steady r input seen ending.Unread t other = t.1

refusal_is_no_fault : (why : Refusal) → refusal_status why ≡ status.WriteFault → ⊥
refusal_is_no_fault usage same = cc
refusal_is_no_fault (description file fault) same = cc
refusal_is_no_fault (script file fault) same = cc
refusal_is_no_fault (read_fault file) same = cc
refusal_is_no_fault no_memory same = cc

pub write_fault_only : (asked : SessionWords) (input : Bytes) (seen : Run) → AppliesBy asked input seen → seen.status ≡ status.WriteFault → Rose seen.faults seen.faults'
write_fault_only asked input seen run fault = by run.end run.goes_on
  where
    by : (end : End Request) → GoesOn input seen end → Rose seen.faults seen.faults'
    by (came r) t = talked_fault r input seen t.0 t.1 fault
    by (refusal why) w = written_fault (refusal_status why) (refusal_text why) seen (refusal_is_no_fault why) w fault

pub write_fault_always : (asked : SessionWords) (input : Bytes) (seen : Run) → AppliesBy asked input seen → (seen.status ≡ status.WriteFault → ⊥) → seen.faults' ≡ seen.faults
write_fault_always asked input seen run other = by run.end run.goes_on
  where
    by : (end : End Request) → GoesOn input seen end → seen.faults' ≡ seen.faults
    by (came r) t = talked_steady r input seen t.0 t.1 other
    by (refusal why) w = written_steady (refusal_status why) (refusal_text why) seen w other

-- The course of one transaction, which a port and a serial name: its events in their order.
use Rattle.std.specs.Prelude.{ℕ, Bool, true, false, ◌&&◌, ◌||◌, ◌==◌, nat_lt, List, Option, Some, None, option_and_then, fold, if◌then◌else◌}
use Rattle.config_graph.specs.declared.node.Target.{Target}
use Rattle.quiesce_core.specs.declared.event.Event.{Event}
use Rattle.quiesce_core.specs.declared.event.Event.TheVariants.{Begin, Call, Take, Give, End, More, Ask, Hear}
use Rattle.quiesce_word.specs.declared.phase.Phase.{Phase}
use Rattle.quiesce_word.specs.declared.phase.Phase.TheVariants as phase
use Rattle.quiesce_core.specs.declared.state.Service.{Service}
use Rattle.quiesce_core.specs.State.{State, target, exchange, service}

-- how far a transaction has come: its request waits, its target serves it and has heard its last message, an
-- intermediate reply was sent, a further message was sent for it, the last reply was sent
pub data TransactionStage : Type 0 where
  unbegun : TransactionStage
  waiting : TransactionStage
  serving : TransactionStage
  replied : TransactionStage
  prompted : TransactionStage
  answered : TransactionStage
  ended : TransactionStage

-- each event of a transaction leads it on from where it must be
abbrev pub on_begin : TransactionStage → Option TransactionStage
on_begin unbegun = Some waiting
on_begin _ = None

abbrev pub on_take : TransactionStage → Option TransactionStage
on_take waiting = Some serving
on_take _ = None

abbrev pub on_more : TransactionStage → Option TransactionStage
on_more serving = Some replied
on_more _ = None

abbrev pub on_ask : TransactionStage → Option TransactionStage
on_ask replied = Some prompted
on_ask _ = None

abbrev pub on_hear : TransactionStage → Option TransactionStage
on_hear prompted = Some serving
on_hear _ = None

abbrev pub on_give : TransactionStage → Option TransactionStage
on_give serving = Some answered
on_give _ = None

abbrev pub on_end : TransactionStage → Option TransactionStage
on_end answered = Some ended
on_end _ = None

-- the course of the transaction of port p with serial k after one more event, where that event may come; other events
-- leave it
abbrev pub course_next : ℕ → ℕ → TransactionStage → Event → Option TransactionStage
course_next p k c (Begin q j v) = if q == p && j == k then on_begin c else Some c
course_next p k c (Call q j v) = if q == p && j == k then on_begin c else Some c
course_next p k c (Take q j v) = if q == p && j == k then on_take c else Some c
course_next p k c (More q j v) = if q == p && j == k then on_more c else Some c
course_next p k c (Ask q j v) = if q == p && j == k then on_ask c else Some c
course_next p k c (Hear q j v) = if q == p && j == k then on_hear c else Some c
course_next p k c (Give q j v) = if q == p && j == k then on_give c else Some c
course_next p k c (End q j v) = if q == p && j == k then on_end c else Some c
course_next p k c _ = Some c

-- after these events; none where one of them may not come
abbrev pub course_after : ℕ → ℕ → List Event → Option TransactionStage
course_after p k es = fold (λ c e. option_and_then (λ d. course_next p k d e) c) (Some unbegun) es

-- whether the last message of port p was heard, where its target is in its service
abbrev pub heard_by : ℕ → Service → Option Bool
heard_by p v = if v.port == p then Some v.heard else None

abbrev pub heard_at : State → ℕ → Option Bool
heard_at s p = option_and_then (λ (t : Target). option_and_then (heard_by p) (service s t.node)) (target s.config p)

-- what a state says of the last transaction of a port
abbrev pub course_in : Phase → Option Bool → TransactionStage
course_in phase.Idle h = ended
course_in phase.Asked None = waiting
course_in phase.Asked (Some true) = serving
course_in phase.Asked (Some false) = prompted
course_in phase.Answered h = answered
course_in phase.More h = replied

-- those before it have ended, and those behind it are yet to come
abbrev pub course_of : ℕ → TransactionStage → ℕ → TransactionStage
course_of serial last k = if k == 0 || nat_lt serial k then unbegun else if nat_lt k serial then ended else last

abbrev pub course_at : State → ℕ → ℕ → TransactionStage
course_at s p k = course_of (exchange s p).serial (course_in (exchange s p).phase (heard_at s p)) k

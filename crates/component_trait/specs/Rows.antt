-- Short logs of each kind, with the numbers of the state to which they lead, and whether the node is done then.
-- `None`: no node of the kind has such a log. The first port of each node is 7; ports 3 and 4 are others' ports that
-- are linked to it.
use Rattle.std.specs.Prelude.{◌≡◌, ℕ, Bool, true, false, List, [], ◌∷◌, Option, Some, None, option_map}
use Rattle.config_graph.specs.declared.kind.Kind.{Kind}
use Rattle.config_graph.specs.declared.kind.Kind.TheVariants.{Philosopher, Place, Fork, Source, Map, Buffer, Sink}
use Rattle.config_graph.specs.declared.kind.Kind.TheVariants.{Teller, Branch, Account, Asker, Adder}
use Rattle.quiesce_core.specs.declared.event.Event.{Event}
use Rattle.quiesce_core.specs.declared.event.Event.TheVariants.{Begin, Call, Take, Give, End, More, Ask, Hear, Miss}
use Rattle.quiesce_core.specs.declared.event.Event.TheVariants.{Close}
use Rattle.component_trait.specs.States.{Kept, with_count, with_total, with_items}
use Rattle.component_trait.specs.Tables.{opening}
use Rattle.component_trait.specs.Moves.{is_done, numbers}
use Rattle.component_trait.specs.Fold.{fold_of}

abbrev pub shown_from : Kind → ℕ → Kept → List Event → Option (List ℕ)
shown_from k arg kept es = option_map numbers (fold_of k arg 7 kept es)

abbrev pub shown : Kind → ℕ → List Event → Option (List ℕ)
shown k arg es = shown_from k arg (opening k arg) es

abbrev pub done_from : Kind → ℕ → Kept → List Event → Option Bool
done_from k arg kept es = option_map is_done (fold_of k arg 7 kept es)

abbrev pub done : Kind → ℕ → List Event → Option Bool
done k arg es = done_from k arg (opening k arg) es

pub record AreWorked : Type 0 where
  -- a philosopher eats until it ate enough, and an answer other than 1 counts for nothing
  pub eats : shown Philosopher 2 (Begin 7 1 0 ∷ End 7 1 1 ∷ Begin 7 2 0 ∷ End 7 2 2 ∷ Begin 7 3 0 ∷ End 7 3 1 ∷
      []) ≡ Some (2 ∷ [])
  pub ate_enough : shown Philosopher 1 (Begin 7 1 0 ∷ End 7 1 1 ∷ Begin 7 2 0 ∷ []) ≡ None
  pub replies_0 : shown Philosopher 1 (Begin 7 1 0 ∷ Ask 7 1 0 ∷ End 7 1 1 ∷ []) ≡ Some (1 ∷ [])
  pub serves_nobody : shown Philosopher 1 (Take 3 1 0 ∷ []) ≡ None
  -- a place that has both forks gives both back, and gives 1 whatever the last one says; one that misses the second
  -- gives the first back and makes no other call; an answer other than 1 is no fork; any number but 0 is the right
  pub dines : shown Place 1 (Take 3 1 9 ∷ Call 8 1 1 ∷ End 8 1 1 ∷ Call 7 1 1 ∷ End 7 1 1 ∷ Call 7 2 0 ∷ End 7 2 0 ∷
      Call 8 2 0 ∷ End 8 2 1 ∷ Give 3 1 1 ∷ []) ≡ Some []
  pub last_says_0 : shown Place 0 (Take 3 1 0 ∷ Call 7 1 1 ∷ End 7 1 1 ∷ Call 8 1 1 ∷ End 8 1 1 ∷ Call 8 2 0 ∷
      End 8 2 1 ∷ Call 7 2 0 ∷ End 7 2 0 ∷ Give 3 1 1 ∷ []) ≡ Some []
  pub left_first : shown Place 0 (Take 3 1 0 ∷ Call 7 1 1 ∷ End 7 1 0 ∷ Give 3 1 0 ∷ []) ≡ Some []
  pub right_first : shown Place 2 (Take 3 1 0 ∷ Call 8 1 1 ∷ []) ≡ Some []
  pub first_says_2 : shown Place 0 (Take 3 1 0 ∷ Call 7 1 1 ∷ End 7 1 2 ∷ Give 3 1 0 ∷ []) ≡ Some []
  pub second_says_2 : shown Place 0 (Take 3 1 0 ∷ Call 7 1 1 ∷ End 7 1 1 ∷ Call 8 1 1 ∷ End 8 1 2 ∷ Call 7 2 0 ∷
      End 7 2 1 ∷ Give 3 1 0 ∷ []) ≡ Some []
  pub misses_second : shown Place 0 (Take 3 1 0 ∷ Call 7 1 1 ∷ End 7 1 1 ∷ Miss 8 ∷ Call 7 2 0 ∷ End 7 2 1 ∷
      Give 3 1 0 ∷ []) ≡ Some []
  pub keeps_one : shown Place 0 (Take 3 1 0 ∷ Call 7 1 1 ∷ End 7 1 1 ∷ Miss 8 ∷ Give 3 1 0 ∷ []) ≡ None
  pub one_at_a_time : shown Place 0 (Take 3 1 0 ∷ Take 4 1 0 ∷ []) ≡ None
  pub of_the_change : shown Place 0 (Close 7 ∷ []) ≡ None
  pub place_replies_0 : shown Place 0 (Take 3 1 0 ∷ Call 7 1 1 ∷ Ask 7 1 0 ∷ []) ≡ Some []
  -- a fork that is held isn't given to another; one that is given back is free; any other value changes nothing
  pub is_held : shown Fork 0 (Take 3 1 1 ∷ Give 3 1 1 ∷ Take 4 1 1 ∷ Give 4 1 0 ∷ []) ≡ Some (1 ∷ [])
  pub stays_held : shown Fork 0 (Take 3 1 1 ∷ Give 3 1 1 ∷ Take 4 1 7 ∷ Give 4 1 0 ∷ []) ≡ Some (1 ∷ [])
  pub is_free_again : shown Fork 0 (Take 3 1 1 ∷ Give 3 1 1 ∷ Take 3 2 0 ∷ Give 3 2 1 ∷ Take 4 1 7 ∷ Give 4 1 0 ∷
      []) ≡ Some (0 ∷ [])
  pub stays_free : shown Fork 0 (Take 3 1 0 ∷ Give 3 1 1 ∷ []) ≡ Some (0 ∷ [])
  pub moved_fork : shown_from Fork 0 (with_count 1) (Take 3 1 1 ∷ Give 3 1 0 ∷ []) ≡ Some (1 ∷ [])
  -- a source sends the next number once the last was accepted, up to its argument
  pub sends : shown Source 4 (Begin 7 1 1 ∷ End 7 1 1 ∷ Begin 7 2 2 ∷ End 7 2 0 ∷ Begin 7 3 2 ∷ []) ≡ Some (1 ∷ [])
  pub sends_another : shown Source 4 (Begin 7 1 2 ∷ []) ≡ None
  pub sent_all : shown Source 1 (Begin 7 1 1 ∷ End 7 1 1 ∷ Begin 7 2 2 ∷ []) ≡ None
  pub source_replies_0 : shown Source 1 (Begin 7 1 1 ∷ Ask 7 1 0 ∷ []) ≡ Some (0 ∷ [])
  -- a map adds modulo the limit of values, and gives the answer
  pub adds : shown Map 5 (Take 3 1 16777214 ∷ Call 7 1 3 ∷ End 7 1 6 ∷ Give 3 1 6 ∷ []) ≡ Some []
  pub misses_next : shown Map 5 (Take 3 1 1 ∷ Miss 7 ∷ Give 3 1 0 ∷ []) ≡ Some []
  pub replies_in_a_call : shown Map 5 (Take 3 1 1 ∷ Call 7 1 6 ∷ Ask 7 1 0 ∷ End 7 1 9 ∷ Give 3 1 9 ∷ []) ≡ Some []
  pub replies_1_in_a_call : shown Map 5 (Take 3 1 1 ∷ Call 7 1 6 ∷ Ask 7 1 1 ∷ []) ≡ None
  -- a buffer keeps up to its argument, and loses its front alone, after any answer but 0; a moved one goes on with what
  -- it kept
  pub passes : shown Buffer 2 (Take 3 1 5 ∷ Begin 7 1 5 ∷ Give 3 1 1 ∷ Take 3 2 6 ∷ Give 3 2 1 ∷ Take 3 3 8 ∷
      End 7 1 1 ∷ Give 3 3 0 ∷ []) ≡ Some (6 ∷ [])
  pub moved_buffer : shown_from Buffer 1 (with_items (4 ∷ 9 ∷ [])) (Begin 7 1 4 ∷ Take 3 1 5 ∷ Give 3 1 0 ∷
      End 7 1 0 ∷ []) ≡ Some (4 ∷ 9 ∷ [])
  pub sends_the_back : shown_from Buffer 1 (with_items (4 ∷ 9 ∷ [])) (Begin 7 1 9 ∷ []) ≡ None
  pub front_taken_by_2 : shown_from Buffer 1 (with_items (4 ∷ 9 ∷ [])) (Begin 7 1 4 ∷ End 7 1 2 ∷ []) ≡ Some (9 ∷ [])
  pub buffer_replies_0 : shown_from Buffer 1 (with_items (4 ∷ [])) (Begin 7 1 4 ∷ Ask 7 1 0 ∷ []) ≡ Some (4 ∷ [])
  pub keeps : shown Sink 0 (Take 3 1 5 ∷ Give 3 1 1 ∷ Take 4 1 5 ∷ Give 4 1 1 ∷ []) ≡ Some (5 ∷ 5 ∷ [])
  -- a teller counts any answer
  pub tells : shown Teller 4 (Begin 7 1 1 ∷ End 7 1 0 ∷ Begin 7 2 2 ∷ End 7 2 1 ∷ []) ≡ Some (2 ∷ [])
  pub told_all : shown Teller 1 (Begin 7 1 1 ∷ End 7 1 1 ∷ Begin 7 2 2 ∷ []) ≡ None
  pub teller_replies_0 : shown Teller 1 (Begin 7 1 1 ∷ Ask 7 1 0 ∷ []) ≡ Some (0 ∷ [])
  -- a branch takes first and puts then, and puts nothing that it didn't take; an answer other than 1 is no money
  pub moves_money : shown Branch 0 (Take 3 1 10 ∷ Call 7 1 21 ∷ End 7 1 1 ∷ Call 8 1 20 ∷ End 8 1 0 ∷ Give 3 1 1 ∷
      []) ≡ Some []
  pub takes_nothing : shown Branch 0 (Take 3 1 10 ∷ Call 7 1 21 ∷ End 7 1 0 ∷ Give 3 1 0 ∷ []) ≡ Some []
  pub from_says_2 : shown Branch 0 (Take 3 1 10 ∷ Call 7 1 21 ∷ End 7 1 2 ∷ Give 3 1 0 ∷ []) ≡ Some []
  pub too_much : shown Branch 0 (Take 3 1 8388608 ∷ Give 3 1 0 ∷ []) ≡ Some []
  pub most : shown Branch 0 (Take 3 1 8388607 ∷ Call 7 1 16777215 ∷ []) ≡ Some []
  pub puts_first : shown Branch 0 (Take 3 1 10 ∷ Call 8 1 20 ∷ []) ≡ None
  pub puts_what_it_lacks : shown Branch 0 (Take 3 1 10 ∷ Call 7 1 21 ∷ End 7 1 0 ∷ Call 8 1 20 ∷ []) ≡ None
  pub branch_replies_0 : shown Branch 0 (Take 3 1 10 ∷ Call 7 1 21 ∷ Ask 7 1 0 ∷ []) ≡ Some []
  -- an account pays what it has, and takes in what has room; a moved one keeps its balance
  pub pays : shown Account 100 (Take 3 1 21 ∷ Give 3 1 1 ∷ Take 3 2 200 ∷ Give 3 2 1 ∷ Take 3 3 999 ∷ Give 3 3 0 ∷
      []) ≡ Some (190 ∷ [])
  pub pays_all : shown Account 10 (Take 3 1 21 ∷ Give 3 1 1 ∷ []) ≡ Some (0 ∷ [])
  pub has_no_room : shown_from Account 0 (with_total 18446744073709551615) (Take 3 1 2 ∷ Give 3 1 0 ∷
      []) ≡ Some (18446744073709551615 ∷ [])
  pub has_just_room : shown_from Account 0 (with_total 18446744073709551614) (Take 3 1 2 ∷ Give 3 1 1 ∷
      []) ≡ Some (18446744073709551615 ∷ [])
  pub moved_account : shown_from Account 5 (with_total 30) (Take 3 1 0 ∷ Give 3 1 1 ∷ []) ≡ Some (30 ∷ [])
  -- an asker replies with the number that it asks with, and counts at the answer
  pub asks : shown Asker 2 (Begin 7 1 1 ∷ Ask 7 1 1 ∷ End 7 1 2 ∷ Begin 7 2 2 ∷ Ask 7 2 2 ∷ End 7 2 4 ∷
      []) ≡ Some (2 ∷ 6 ∷ [])
  pub asks_another : shown Asker 2 (Begin 7 1 1 ∷ Ask 7 1 2 ∷ []) ≡ None
  pub asks_elsewhere : shown Asker 2 (Begin 7 1 1 ∷ Ask 8 1 1 ∷ []) ≡ None
  pub asked_all : shown Asker 1 (Begin 7 1 1 ∷ End 7 1 1 ∷ Begin 7 2 2 ∷ []) ≡ None
  pub total_wraps : shown_from Asker 9 (record { count = 1; total = 16777215; items = [] }) (Begin 7 1 2 ∷
      End 7 1 3 ∷ []) ≡ Some (2 ∷ 2 ∷ [])
  -- an adder hears once between its value and its answer
  pub adds_up : shown Adder 0 (Take 3 1 5 ∷ More 3 1 5 ∷ Hear 3 1 16777215 ∷ Give 3 1 4 ∷ []) ≡ Some []
  pub hears_nothing : shown Adder 0 (Take 3 1 5 ∷ More 3 1 5 ∷ Give 3 1 5 ∷ []) ≡ None
  pub hears_unasked : shown Adder 0 (Take 3 1 5 ∷ Hear 3 1 6 ∷ []) ≡ None
  pub sends_twice : shown Adder 0 (Take 3 1 5 ∷ More 3 1 5 ∷ Hear 3 1 6 ∷ More 3 1 5 ∷ []) ≡ None
  -- a node is done by its own count, a buffer once it is empty, and a kind that has no work of its own always
  pub philosopher_done : done Philosopher 1 (Begin 7 1 0 ∷ End 7 1 1 ∷ []) ≡ Some true
  pub philosopher_not_done : done Philosopher 1 (Begin 7 1 0 ∷ End 7 1 2 ∷ []) ≡ Some false
  pub source_done : done Source 1 (Begin 7 1 1 ∷ End 7 1 5 ∷ []) ≡ Some true
  pub source_not_done : done Source 1 (Begin 7 1 1 ∷ End 7 1 0 ∷ []) ≡ Some false
  pub moved_source_done : done_from Source 1 (with_count 3) [] ≡ Some true
  pub teller_done : done Teller 1 (Begin 7 1 1 ∷ End 7 1 0 ∷ []) ≡ Some true
  pub teller_not_done : done Teller 2 (Begin 7 1 1 ∷ End 7 1 0 ∷ []) ≡ Some false
  pub asker_done : done Asker 1 (Begin 7 1 1 ∷ End 7 1 0 ∷ []) ≡ Some true
  pub asker_not_done : done Asker 1 (Begin 7 1 1 ∷ []) ≡ Some false
  pub empty_buffer_done : done Buffer 2 [] ≡ Some true
  pub full_buffer_not_done : done Buffer 1 (Take 3 1 5 ∷ Give 3 1 1 ∷ []) ≡ Some false
  pub emptied_buffer_done : done_from Buffer 1 (with_items (4 ∷ [])) (Begin 7 1 4 ∷ End 7 1 1 ∷ []) ≡ Some true
  pub held_fork_done : done Fork 0 (Take 3 1 1 ∷ []) ≡ Some true
  pub full_sink_done : done Sink 0 (Take 3 1 5 ∷ []) ≡ Some true
  pub account_done : done Account 7 [] ≡ Some true

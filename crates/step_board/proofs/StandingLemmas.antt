-- How a board stands for its records, as events of the change are done and what is there is seen.
use Rattle.std.proofs.Common.{◌≡◌, ◌∙◌, ℕ, Bool, true, List, [], ◌∷◌, ◌++◌, append_assoc, Option, None, map, length, refl, sym, ap, subst}
use Rattle.std.specs.Prelude.{⊤}
use Rattle.std.specs.List.{range_with_len}
use Rattle.std.proofs.lemmas.List.{append-nil}
use Rattle.base.proofs.EachLaws.{each_joined}
use Rattle.base.specs.Each.{EachAfter}
use Rattle.txn_records.proofs.NoteLaws.{may_is_allowed}
use Rattle.txn_records.specs.Entries.{config_of}
use Rattle.txn_records.specs.declared.entry.Entry.{Entry}
use Rattle.txn_records.specs.declared.entry.Entry.TheVariants.{Did, Looked, Scanned}
use Rattle.txn_records.specs.Records.{Adds, May, events}
use Rattle.config_graph.specs.declared.node.Node.{Node}
use Rattle.quiesce_core.specs.Doers.{is_of_change}
use Rattle.quiesce_core.specs.Rules.{denial}
use Rattle.quiesce_core.specs.Runs.{done_by}
use Rattle.quiesce_core.specs.State.{Configuration, State}
use Rattle.quiesce_core.specs.Words.{word_of}
use Rattle.quiesce_core.specs.declared.event.Event.{Event}
use Rattle.quiesce_core.specs.declared.event.Event.TheVariants.{Make}
use Rattle.node_turn_laws.specs.Round.{round}
use Rattle.node_turn_laws.specs.World.{World, with_event}
use Rattle.step_board.specs.Going.{GaveTurns}
use Rattle.step_board.specs.Playing.{HasWholeRounds, IsSoAt, IsSoIn, play, played}
use Rattle.step_board.specs.Standing.{AreParts, StandsFor}
use Rattle.step_board.specs.Agreeing.{config_at}
use Rattle.step_board.specs.RunFacts.{config_here, played_more, rounds_more, rounds_play, state_here}

-- what a change may do by the record no rule denies
may_here : (r : List Entry) (e : Event) → HasWholeRounds r → May r e → denial (played r).machine e ≡ None
may_here r e so may_ =
    let p = rounds_play r so in ap (λ s. denial s e) (sym (state_here r (played r) p)) ∙ may_is_allowed r p.moments e p.is_of may_

-- ---- entries that leave the world

-- what these entries say is so in the world, and they leave it
abbrev pub AreSeen : World → List Entry → Type 0
AreSeen w [] = ⊤
AreSeen w (x ∷ xs) = ((play w x ≡ w) × IsSoIn w x) × AreSeen w xs

pub seen_both : (w : World) (xs ys : List Entry) → AreSeen w xs → AreSeen w ys → AreSeen w (xs ++ ys)
seen_both w [] ys h k = k
seen_both w (x ∷ xs) ys h k = (h.0, seen_both w xs ys h.1 k)

seen_after : (q xs : List Entry) (w : World) → played q ≡ w → AreSeen w xs → EachAfter IsSoAt q xs × (played (q ++ xs) ≡ w)
seen_after q [] w e h = (tt, ap played (append-nil q) ∙ e)
seen_after q (x ∷ xs) w e h =
    let rest = seen_after (q ++ x ∷ []) xs w (played_more q x ∙ ap (λ v. play v x) e ∙ h.0.0) h.1 in
    ((subst (λ v. IsSoIn v x) (sym e) h.0.1, rest.0), ap played (sym (append_assoc q (x ∷ []) xs)) ∙ rest.1)

-- ---- boards

module _ {B : Type 0} (S : B → World → Type 0) where
  pub parts_of : (b : B) (logs : List (List Event)) → ((w : World) → S b w → logs ≡ map (λ n. done_by n w.events) (range_with_len 0 (length w.machine.config.slots)))
      → (r : List Entry) → StandsFor S b r → AreParts r logs
  parts_of b logs logs_are r h =
      let p = rounds_play r h.rounds in
      record {
        moments = p.moments;
        is_of = p.is_of;
        logs_are = logs_are (played r) h.shows
            ∙ ap (λ es. map (λ n. done_by n es) (range_with_len 0 (length (played r).machine.config.slots))) (sym p.events_are)
            ∙ ap (λ (c : Configuration). map (λ n. done_by n (events p.moments)) (range_with_len 0 (length c.slots))) (sym (config_here r (played r) p));
      }

  -- the same board, for which nothing changed
  pub adds_none : (a b : B) → ((w : World) → S a w → S b w) → Adds (StandsFor S) a b []
  adds_none a b same r h = subst (StandsFor S b) (sym (append-nil r)) (record { rounds = h.rounds; shows = same (played r) h.shows })

  module _ (machine : B → State) (machine_is : (b : B) (w : World) → S b w → w.machine ≡ machine b) where
    pub allowed_here : (b : B) (e : Event) → ((r : List Entry) × StandsFor S b r × May r e) → (w : World) × S b w × (denial w.machine e ≡ None)
    allowed_here b e here = (played here.0, here.1.shows, may_here here.0 e here.1.rounds here.2)

    -- it is so in each world that they show
    allowed_there : (b : B) (e : Event) (w : World) → ((r : List Entry) × StandsFor S b r × May r e) → S b w → denial w.machine e ≡ None
    allowed_there b e w here s =
        ap (λ m. denial m e) (machine_is b w s ∙ sym (machine_is b (played here.0) here.1.shows)) ∙ may_here here.0 e here.1.rounds here.2

    stands_more : (a b : B) (r : List Entry) (e : Event) → StandsFor S a r → is_of_change e ≡ true → denial (played r).machine e ≡ None → S b (with_event (played r) e) → StandsFor S b (r ++ Did e ∷ [])
    stands_more a b r e h change allowed shows = record {
      rounds = rounds_more r (Did e) h.rounds (change, allowed);
      shows = subst (S b) (sym (played_more r (Did e))) shows;
    }

    pub did_adds : (a b : B) (e : Event) → is_of_change e ≡ true → ((r : List Entry) × StandsFor S a r × May r e) → ((w : World) → S a w → S b (with_event w e))
        → Adds (StandsFor S) a b (Did e ∷ [])
    did_adds a b e change here then_ r h = stands_more a b r e h change (allowed_there a e (played r) here h.shows) (then_ (played r) h.shows)

    abbrev next_make : Configuration → Node → Option ℕ → Event
    next_make c node from = Make (length c.slots) node from

    pub made_adds : (a b : B) (node : Node) (from : Option ℕ) → ((r : List Entry) × StandsFor S a r × May r (Make (length (config_of r).slots) node from))
        → ((w : World) → S a w → S b (with_event w (Make (length w.machine.config.slots) node from)))
        → (r : List Entry) → StandsFor S a r → StandsFor S b (r ++ Did (Make (length (config_of r).slots) node from) ∷ [])
    made_adds a b node from here then_ r h =
        let here_config = config_at S machine machine_is a here.0 here.1 in
        let e = next_make (machine a).config node from in
        let may_ : May here.0 e = subst (λ c. May here.0 (next_make c node from)) here_config here.2 in
        let at_world = ap (λ (s : State). s.config) (machine_is a (played r) h.shows) in
        subst (λ c. StandsFor S b (r ++ Did (next_make c node from) ∷ [])) (sym (config_at S machine machine_is a r h))
        (stands_more a b r e h refl (allowed_there a e (played r) (here.0, here.1, may_) h.shows)
        (subst (λ c. S b (with_event (played r) (next_make c node from))) at_world (then_ (played r) h.shows)))

    pub make_here : (b : B) (node : Node) (from : Option ℕ) → ((r : List Entry) × StandsFor S b r × May r (Make (length (config_of r).slots) node from))
        → (w : World) × S b w × (denial w.machine (Make (length w.machine.config.slots) node from) ≡ None)
    make_here b node from here =
        let w = played here.0 in (
          w,
          here.1.shows,
          may_here here.0 (next_make w.machine.config node from) here.1.rounds
              (subst (λ c. May here.0 (next_make c node from)) (config_here here.0 w (rounds_play here.0 here.1.rounds)) here.2),
        )

    pub look_adds : (a : B) (p : ℕ) → Adds (StandsFor S) a a (Looked p (word_of (machine a) p) ∷ [])
    look_adds a p r h = record {
      rounds = rounds_more r (Looked p (word_of (machine a) p)) h.rounds (ap (λ s. word_of s p) (sym (machine_is a (played r) h.shows)));
      shows = subst (S a) (sym (played_more r (Looked p (word_of (machine a) p)))) h.shows;
    }

    -- the mark of a scan, and what was seen then
    pub scan_adds : (a b : B) (begins moved : Bool) (xs : List Entry) → GaveTurns S a b begins moved → ((w : World) → S b w → AreSeen w xs)
        → Adds (StandsFor S) a b (Scanned begins moved ∷ xs)
    scan_adds a b begins moved xs gave_ seen r h =
        let gave = gave_ (played r) h.shows in
        let v = (round begins (played r)).world in
        let marked = r ++ Scanned begins moved ∷ [] in
        let at = played_more r (Scanned begins moved) in
        let rest = seen_after marked xs v at (seen v gave.shows) in
        subst (StandsFor S b) (append_assoc r (Scanned begins moved ∷ []) xs)
        (record {
          rounds = each_joined IsSoAt [] marked xs (rounds_more r (Scanned begins moved) h.rounds gave.moved_is) rest.0;
          shows = subst (S b) (sym rest.1) gave.shows;
        })

-- The sums that a report tells are those of the books.
use Rattle.std.proofs.Common.{◌≡◌, ◌∙◌, ℕ, ◌+◌, Bool, true, false, cond, List, [], ◌∷◌, ◌++◌, append_assoc, length, filter, Option, Some, None, refl, sym, ap, subst, arith}
use Rattle.std.specs.Prelude.{sum_by}
use Rattle.std.specs.List.{cons_option, list_any, range_with_len}
use Rattle.std.specs.Option.{option_map_or}
use Rattle.std.proofs.lemmas.Bool.{both_ways}
use Rattle.std.proofs.lemmas.List.Sums.{sum_by-cons}
use Rattle.base.proofs.SumLaws.{sum_longer, sum_both, sum_same}
use Rattle.config_graph.specs.declared.TheConstants.{MAX_NODES}
use Rattle.config_graph.specs.declared.kind.Kind.{Kind}
use Rattle.config_graph.specs.declared.kind.Kind.TheVariants.{Account}
use Rattle.component_trait.specs.States.{Kept}
use Rattle.component_trait.specs.Tables.{numbers}
use Rattle.quiesce_core.specs.Doers.{is_of_change}
use Rattle.quiesce_core.specs.Runs.{IsRun, state_after}
use Rattle.quiesce_core.proofs.RunLaws.{fronts_are_runs}
use Rattle.quiesce_core.specs.declared.event.Event.{Event}
use Rattle.quiesce_core.specs.declared.event.Event.TheVariants as event
use Rattle.report_types.specs.declared.report.HistoryLine.{HistoryLine}
use Rattle.report_types.specs.declared.report.HistoryLine.TheVariants as to
use Rattle.report_types.specs.declared.report.Last.TheVariants as last
use Rattle.report_types.specs.declared.report.NodeLog.{NodeLog}
use Rattle.report_types.specs.declared.report.Report.{Report}
use Rattle.change_spec.specs.Lawful.{Lawful}
use Rattle.change_spec.specs.Members.{event_of, events}
use Rattle.change_spec.specs.Statements.{Statement}
use Rattle.change_round_laws.specs.SoundStatements.{AreSound}
use Rattle.change_round_laws.proofs.CommitGraphLaws.{CommitsByConfiguration, CommitsLeaveGraphs, EachMayCommit}
use Rattle.change_round_laws.proofs.FoldLaws.{StatesAreHanded}
use Rattle.change_round_laws.proofs.LineLaws.{changes}
use Rattle.result_laws.specs.Coming.{HasFolds, come}
use Rattle.result_laws.proofs.PlacedLaws.{opened_at}
use Rattle.result_laws.specs.Banks.{AreBanks, IsBank, banks_serve_tellers}
use Rattle.result_laws.proofs.Linking.{all_linked}
use Rattle.result_laws.specs.Describing.{makes}
use Rattle.result_laws.specs.Sums.{balance, gone_at, is_account, live_at, live_sum, opened_by, opened_sum, removed_sum, removes}
use Rattle.result_laws.specs.Carrying.{AmountsBalance, amount}
use Rattle.result_laws.proofs.Books.{Books, keep_books}
use Rattle.result_laws.proofs.Carried.{amounts_balance, holds_so}
use Rattle.result_laws.proofs.ComingLaws.{fronts_fold}
use Rattle.result_laws.proofs.Ledger.{holds, opened_in, rest_has}
use Rattle.result_laws.proofs.Measures.{has, past_slot, unmade_has}
use Rattle.result_laws.proofs.StoppingLaws.{NothingIsOpen}
use Rattle.result_laws.proofs.Told.{Tells, lines_changed, log_folds, rests_at_end, told_so}

-- ---- sums over lines, events and logs

sum_line : (p : HistoryLine → ℕ) (q : Event → ℕ) → ((l : HistoryLine) → p l ≡ option_map_or q (event_of l) 0) → (ls : List HistoryLine) → sum_by p ls ≡ sum_by q (changes ls)
sum_line p q same [] = refl
sum_line p q same (l ∷ ls) = sum_by-cons p l ls ∙ (λ i. same l i + sum_line p q same ls i) ∙ by (event_of l)
  where
    by : (o : Option Event) → option_map_or q o 0 + sum_by q (changes ls) ≡ sum_by q (cons_option o (changes ls))
    by None = omega arith
    by (Some e) = sym (sum_by-cons q e (changes ls))

sum_change : (q : Event → ℕ) → ((e : Event) → is_of_change e ≡ false → q e ≡ 0) → (es : List Event) → sum_by q (filter is_of_change es) ≡ sum_by q es
sum_change q none_ [] = refl
sum_change q none_ (e ∷ es) = by (is_of_change e) refl (sum_change q none_ es)
  where
    by : (b : Bool) → is_of_change e ≡ b → sum_by q (filter is_of_change es) ≡ sum_by q es → sum_by q (filter is_of_change (e ∷ es)) ≡ sum_by q (e ∷ es)
    by true is later = rw is (sum_by-cons q e (filter is_of_change es) ∙ ap (λ x. q e + x) later ∙ sym (sum_by-cons q e es))
    by false is later = rw is (later ∙ let w = sum_by-cons q e es in let z = none_ e is in omega (arith, w, z))

-- what a log tells of an account, live or gone
log_tells : List HistoryLine → NodeLog → ℕ
log_tells history l = cond (list_any (makes is_account l.slot) history) (balance l.last) 0

told_both : (history : List HistoryLine) (l : NodeLog) → live_at history l + gone_at history l ≡ log_tells history l
unfolding log_tells
told_both history l = by (list_any (makes is_account l.slot) history) (list_any (removes l.slot) history)
  where
    by : (a b : Bool) → cond a (cond b 0 (balance l.last)) 0 + cond a (cond b (balance l.last) 0) 0 ≡ cond a (balance l.last) 0
    by true true = omega arith
    by true false = omega arith
    by false b = omega arith

balances_tell : Tells is_account amount balance
balances_tell = record { on = on_; off = off_; moved = λ j. refl }
  where
    on_ : (k : Kind) (s : Kept) → is_account k ≡ true → balance (last.State (numbers k s)) ≡ amount k s
    on_ Account s h = refl
    on_ _ s h = absurd (both_ways false refl h)

    off_ : (k : Kind) (s : Kept) → is_account k ≡ false → amount k s ≡ 0
    off_ Account s h = absurd (both_ways true h refl)
    off_ _ s h = refl

module _ (handed : StatesAreHanded) (each_may : EachMayCommit) (by_config : CommitsByConfiguration) (leaves : CommitsLeaveGraphs) (none_open : NothingIsOpen) (statements : List Statement) (report : Report) (sound : AreSound statements) (banks : AreBanks statements) (l : Lawful statements report) where
  abbrev es : List Event
  es = events l.members

  run : IsRun es
  run = l.by_them.runs

  folds : HasFolds es
  folds = log_folds statements report l

  books : Books es
  books = keep_books handed es run (λ before after p parts. opened_at each_may by_config leaves statements IsBank report l.members sound banks l.follows l.by_them.merge run before after p parts) folds
      (all_linked statements report l IsBank banks banks_serve_tellers (λ g h. h.links))

  -- nothing is carried at the end
  carries_none : (n : ℕ) → books.ledger.carries n ≡ 0
  carries_none n = rest_has (state_after es) (come es) n (books.ledger.carries n) (rests_at_end handed none_open statements report l n) (books.ledger.has n)

  all_held : sum_by (holds es) (range_with_len 0 (length (state_after es).config.slots)) ≡ sum_by opened_in es
  all_held =
      sum_same (holds es) (λ n. books.ledger.carries n + holds es n) (length (state_after es).config.slots) (λ n. let z = carries_none n in omega (arith, z)) ∙ books.ledger.sum

  opened_so : opened_sum report ≡ sum_by opened_in es
  opened_so = sum_line opened_by opened_in line_opens report.history ∙ ap (sum_by opened_in) (sym (lines_changed statements report l)) ∙ sum_change opened_in opens_none es
    where
      line_opens : (x : HistoryLine) → opened_by x ≡ option_map_or opened_in (event_of x) 0
      line_opens (to.Make i made None) = refl
      line_opens (to.Make i made (Some k)) = refl
      line_opens _ = refl

      opens_none : (e : Event) → is_of_change e ≡ false → opened_in e ≡ 0
      opens_none (event.Make i made from) h = absurd (both_ways true h refl)
      opens_none _ h = refl

  pub kept_so : live_sum report + removed_sum report ≡ opened_sum report
  unfolding log_tells
  kept_so =
      let size = length (state_after es).config.slots in
      sum_both (live_at report.history) (gone_at report.history) (log_tells report.history) (told_both report.history) report.logs
      ∙ told_so handed statements report l is_account amount refl balance balances_tell
      ∙ sum_longer (has amount es) 0 size MAX_NODES (λ i past. unmade_has amount refl es i (past_slot (state_after es).config i (omega (arith, past))))
      ∙ sum_same (has amount es) (holds es) size (holds_so es run handed folds)
      ∙ all_held
      ∙ sym opened_so

  -- at a place of the run
  pub amounts_there : (before after : List Event) → es ≡ before ++ after → AmountsBalance before
  amounts_there before after parts =
      let goes = subst (λ xs. IsRun xs) parts run in
      let front = fronts_are_runs before after goes in
      let front_folds = fronts_fold handed before after goes (subst (λ xs. HasFolds xs) parts folds) in
      let there = keep_books handed before front
      (λ xs ys p is. opened_at each_may by_config leaves statements IsBank report l.members sound banks l.follows l.by_them.merge run xs (ys ++ after) p (parts ∙ ap (λ zs. zs ++ after) is ∙ append_assoc xs (event.Reopen p ∷ ys) after)) front_folds
      (λ xs ys is. all_linked statements report l IsBank banks banks_serve_tellers (λ g h. h.links) xs (ys ++ after) (parts ∙ ap (λ zs. zs ++ after) is ∙ append_assoc xs ys after)) in
      amounts_balance before front handed front_folds there.ledger

-- A script has one list of statements, and in a script whose graphs are sound the statements are so.
use Rattle.std.proofs.Common.{◌≡◌, ◌∙◌, ℕ, ℤ, true, false, List, [], ◌∷◌, ◌++◌, length, refl, sym, ap, subst}
use Rattle.std.specs.Prelude.{◌||◌}
use Rattle.std.proofs.lemmas.Bool.{both_ways, or_left}
use Rattle.base.specs.Each.{EachAfter}
use Rattle.config_graph.specs.Graph.{Graph, ports}
use Rattle.change_plan.specs.Refusals.{CreatesSoMany}
use Rattle.change_plan.specs.declared.plan_data.Move.{Move}
use Rattle.change_plan.proofs.RoomLaws.{one_wanted}
use Rattle.change_script.specs.ScriptFiles.{IsScript, has, is_out_of_order, is_start}
use Rattle.report_types.specs.declared.script.Body.{Body}
use Rattle.report_types.specs.declared.script.Body.TheVariants as bodies
use Rattle.report_types.specs.declared.script.Script.{Script}
use Rattle.report_types.specs.declared.script.ScriptLine.{ScriptLine}
use Rattle.change_script.proofs.ScriptOrderLaws.{StandsInOrder, has_with_one, no_start_above, script_stands, script_starts, start_above}
use Rattle.change_spec.specs.Scripts.{Above, SayAll, Says, SaysChange, SaysStart, StatementsOf, more_made, nothing_above}
use Rattle.change_spec.specs.Statements.{Statement, start, change}
use Rattle.change_round_laws.specs.SoundStatements.{AreSound, GoOnSoundly, IsSoundGraph}

module _ (elab : List ℕ → List ℕ → List ℤ → Graph → Type 0) where
  module _ (one_graph : (file name : List ℕ) (args : List ℤ) (g h : Graph) → elab file name args g → elab file name args h → g ≡ h) where
    -- what two ways to read a line come to is the same
    record SameSaid (own own' : List Statement) (next next' : Above) : Type 0 where
      owns : own ≡ own'
      nexts : next ≡ next'

    one_start : (above : Above) (name : List ℕ) (args : List ℤ) (own own' : List Statement) (next next' : Above) → SaysStart elab above name args own next → SaysStart elab above name args own' next' → SameSaid own own' next next'
    one_start above name args own own' next next' a b =
        let same = one_graph above.file name args a.graph b.graph a.elaborates b.elaborates in
        record {
          owns = a.own_is ∙ ap (λ g. start name args g ∷ []) same ∙ sym b.own_is;
          nexts = a.next_is ∙ ap (λ (g : Graph). let next : Above = record above { graph = g; made = more_made above.made (length g.nodes) (length (ports g.nodes)) } in next) same ∙ sym b.next_is;
        }

    one_change : (above : Above) (name : List ℕ) (args : List ℤ) (within : ℕ) (moves : List Move) (own own' : List Statement) (next next' : Above)
        → SaysChange elab above name args within moves own next → SaysChange elab above name args within moves own' next' → SameSaid own own' next next'
    one_change above name args within moves own own' next next' a b =
        let same = one_graph above.file name args a.graph b.graph a.elaborates b.elaborates in
        let counts = one_wanted above.graph b.graph a.can_plan.nodes a.can_plan.ports b.can_plan.nodes b.can_plan.ports (subst (λ g. CreatesSoMany above.graph g a.can_plan.nodes a.can_plan.ports) same a.can_plan.wanted) b.can_plan.wanted in
        record {
          owns = a.own_is ∙ ap (λ g. change name args g within moves ∷ []) same ∙ sym b.own_is;
          nexts = a.next_is ∙ (λ i. record above { graph = same i; made = more_made above.made (counts.0 i) (counts.1 i) }) ∙ sym b.next_is;
        }

    one_said : (body : Body) (above : Above) (own own' : List Statement) (next next' : Above) → Says elab above body own next → Says elab above body own' next' → SameSaid own own' next next'
    one_said (bodies.File name) above own own' next next' a b = record { owns = a.0 ∙ sym b.0; nexts = a.1 ∙ sym b.1 }
    one_said (bodies.Start name args) above own own' next next' a b = one_start above name args own own' next next' a b
    one_said (bodies.Run k) above own own' next next' a b = record { owns = a.0 ∙ sym b.0; nexts = a.1 ∙ sym b.1 }
    one_said (bodies.Change name args within moves) above own own' next next' a b = one_change above name args within moves own own' next next' a b
    one_said (bodies.Finish n) above own own' next next' a b = record { owns = a.0 ∙ sym b.0; nexts = a.1 ∙ sym b.1 }
    one_said bodies.Show above own own' next next' a b = record { owns = a.0 ∙ sym b.0; nexts = a.1 ∙ sym b.1 }
    one_said bodies.Stop above own own' next next' a b = record { owns = a.0 ∙ sym b.0; nexts = a.1 ∙ sym b.1 }

    one_list_below : (lines : List ScriptLine) (above : Above) (a b : List Statement) → SayAll elab lines above a → SayAll elab lines above b → a ≡ b
    one_list_below [] above a b x y = x ∙ sym y
    one_list_below (line ∷ lines) above a b x y =
        let said_so = one_said line.body above x.own y.own x.next y.next x.says y.says in
        let rest = one_list_below lines y.next x.rest y.rest (subst (λ n. SayAll elab lines n x.rest) said_so.nexts x.below) y.below in
        x.are ∙ (λ i. said_so.owns i ++ rest i) ∙ sym y.are

    pub one_list : (script : Script) (a b : List Statement) → StatementsOf elab script a → StatementsOf elab script b → a ≡ b
    one_list script a b x y = one_list_below script.lines nothing_above a b x y

module _ (elab : List ℕ → List ℕ → List ℤ → Graph → Type 0) (sound : (file name : List ℕ) (args : List ℤ) (g : Graph) → elab file name args g → IsSoundGraph g) where
  goes_on : (above : List ScriptLine) (lines : List ScriptLine) (a : Above) (ss : List Statement) → has is_start above ≡ true → EachAfter StandsInOrder above lines → SayAll elab lines a ss → GoOnSoundly ss a.graph a.made
  goes_on above [] a ss started order says = subst (λ xs. GoOnSoundly xs a.graph a.made) (sym says) tt
  goes_on above (line ∷ lines) a ss started order says =
      subst (λ xs. GoOnSoundly xs a.graph a.made) (sym says.are)
      (by line.body order.0.right says.own says.next says.says (goes_on (above ++ line ∷ []) lines says.next says.rest still order.1 says.below))
    where
      still : has is_start (above ++ line ∷ []) ≡ true
      still = has_with_one is_start above line ∙ or_left (has is_start above) (is_start line.body) started

      by : (body : Body) → is_out_of_order above body ≡ false → (own : List Statement) (next : Above) → Says elab a body own next → GoOnSoundly says.rest next.graph next.made → GoOnSoundly (own ++ says.rest) a.graph a.made
      by (bodies.File name) right own next w rest =
          subst (λ xs. GoOnSoundly (xs ++ says.rest) a.graph a.made) (sym w.0) (subst (λ (n : Above). GoOnSoundly says.rest n.graph n.made) w.1 rest)
      by (bodies.Start name args) right own next w rest = absurd (both_ways (has is_start above) (no_start_above above (bodies.Start name args) right refl) started)
      by (bodies.Run k) right own next w rest =
          subst (λ xs. GoOnSoundly (xs ++ says.rest) a.graph a.made) (sym w.0) (subst (λ (n : Above). GoOnSoundly says.rest n.graph n.made) w.1 rest)
      by (bodies.Change name args within moves) right own next w rest =
          subst (λ xs. GoOnSoundly (xs ++ says.rest) a.graph a.made) (sym w.own_is)
          (record { graph = sound a.file name args w.graph w.elaborates; can_plan = w.can_plan; below = subst (λ (n : Above). GoOnSoundly says.rest n.graph n.made) w.next_is rest })
      by (bodies.Finish n) right own next w rest =
          subst (λ xs. GoOnSoundly (xs ++ says.rest) a.graph a.made) (sym w.0) (subst (λ (n : Above). GoOnSoundly says.rest n.graph n.made) w.1 rest)
      by bodies.Show right own next w rest =
          subst (λ xs. GoOnSoundly (xs ++ says.rest) a.graph a.made) (sym w.0) (subst (λ (n : Above). GoOnSoundly says.rest n.graph n.made) w.1 rest)
      by bodies.Stop right own next w rest =
          subst (λ xs. GoOnSoundly (xs ++ says.rest) a.graph a.made) (sym w.0) (subst (λ (n : Above). GoOnSoundly says.rest n.graph n.made) w.1 rest)

  begins : (above : List ScriptLine) (lines : List ScriptLine) (a : Above) (ss : List Statement) → a.made ≡ nothing_above.made → has is_start above ≡ false → has is_start lines ≡ true → EachAfter StandsInOrder above lines
      → SayAll elab lines a ss → AreSound ss
  begins above [] a ss made none some order says = absurd (both_ways false refl some)
  begins above (line ∷ lines) a ss made none some order says =
      subst AreSound (sym says.are) (by line.body refl order.0.right says.own says.next says.says (λ still fresh left. begins (above ++ line ∷ []) lines says.next says.rest still fresh left order.1 says.below))
    where
      later : (says.next.made ≡ nothing_above.made → has is_start (above ++ line ∷ []) ≡ false → has is_start lines ≡ true → AreSound says.rest) → is_start line.body ≡ false → (next : Above) → next.made ≡ nothing_above.made → says.next ≡ next → AreSound says.rest
      later go other next still is =
          go (ap (λ (n : Above). n.made) is ∙ still) (has_with_one is_start above line ∙ rw none other) (sym (ap (λ b. b || has is_start lines) other) ∙ some)

      by : (body : Body) → line.body ≡ body → is_out_of_order above body ≡ false → (own : List Statement) (next : Above) → Says elab a body own says.next → (says.next.made ≡ nothing_above.made → has is_start (above ++ line ∷ []) ≡ false → has is_start lines ≡ true → AreSound says.rest) → AreSound (own ++ says.rest)
      by (bodies.File name) is right own next w go =
          subst (λ xs. AreSound (xs ++ says.rest)) (sym w.0) (later go (ap is_start is) (record a { file = name }) made w.1)
      by (bodies.Start name args) is right own next w go =
          subst (λ xs. AreSound (xs ++ says.rest)) (sym w.own_is)
          (record {
            graph = sound a.file name args w.graph w.elaborates;
            room = subst (λ m. Rattle.change_plan.specs.Room.HasRoomFor m w.graph) made w.room;
            below = subst (λ m. GoOnSoundly says.rest w.graph (more_made m (length w.graph.nodes) (length (ports w.graph.nodes)))) made
                (subst (λ (n : Above). GoOnSoundly says.rest n.graph n.made) w.next_is
                (goes_on (above ++ line ∷ []) lines says.next says.rest
                (has_with_one is_start above line ∙ rw none (ap is_start is)) order.1 says.below));
          })
      by (bodies.Run k) is right own next w go = absurd (both_ways (has is_start above) none (start_above above (bodies.Run k) right refl))
      by (bodies.Change name args within moves) is right own next w go = absurd (both_ways (has is_start above) none (start_above above (bodies.Change name args within moves) right refl))
      by (bodies.Finish n) is right own next w go = absurd (both_ways (has is_start above) none (start_above above (bodies.Finish n) right refl))
      by bodies.Show is right own next w go = absurd (both_ways (has is_start above) none (start_above above bodies.Show right refl))
      by bodies.Stop is right own next w go = subst (λ xs. AreSound (xs ++ says.rest)) (sym w.0) (later go (ap is_start is) a made w.1)

  pub sound_list : (text : List ℕ) (script : Script) → IsScript text script → (ss : List Statement) → StatementsOf elab script ss → AreSound ss
  sound_list text script is ss says = begins [] script.lines nothing_above ss refl refl (script_starts text script is) (script_stands text script is) says

-- What statements in another order reach.
use Rattle.std.proofs.Common.{◌∙◌, ℤ, Bool, true, false, cond, List, [], ◌∷◌, Option, refl, sym}
use Rattle.std.specs.List.{flat_map}
use Rattle.darwin_lexer.specs.declared.token.At.{At}
use Rattle.darwin_parser.specs.Tree.{Name, Expr, InstEntry, BindEntry, Stmt, inst, bind, forall, when, Stmts, end, then}
use Rattle.darwin_parser.specs.Tree.InstEntry.{single, element}
use Rattle.darwin_types.specs.Scope.{entries_of, entries_of_stmt}
use Rattle.darwin_walk.specs.Value.{Env, value}
use Rattle.darwin_walk.specs.Reached.{Reached, valued, turn, made, bound, range, holds, with_variable, reached_by, reached_in}
use Rattle.elaborator_laws.specs.Reordering.{Reordered, no_elements, kept, through, SameEntry, same_single, same_element, SameBinding, SameStmt, same_inst, same_bind, same_forall, same_when, SameStmts, no_stmts, kept_stmt, swapped_stmts, through_stmts}
use Rattle.elaborator_laws.proofs.Reorders.{reordered-each, reordered-append, swapped_likes}

-- ---- the other way round

pub same_entry-sym : (e e' : InstEntry) → SameEntry e e' → SameEntry e' e
same_entry-sym _ _ (same_single name component args at at') = same_single name component args at' at
same_entry-sym _ _ (same_element array index args at at') = same_element array index args at' at

same_binding-sym : (b b' : BindEntry) → SameBinding b b' → SameBinding b' b
same_binding-sym b b' same = record { left = sym same.left; right = sym same.right }

mutual
  same_stmt-sym : (s s' : Stmt) → SameStmt s s' → SameStmt s' s
  same_stmt-sym _ _ (same_inst e e' same) = same_inst e' e (same_entry-sym e e' same)
  same_stmt-sym _ _ (same_bind b b' same) = same_bind b' b (same_binding-sym b b' same)
  same_stmt-sym _ _ (same_forall name low high body body' at at' same) = same_forall name low high body' body at' at (same_stmts-sym body body' same)
  same_stmt-sym _ _ (same_when test body body' at at' same) = same_when test body' body at' at (same_stmts-sym body body' same)

  pub same_stmts-sym : (a b : Stmts) → SameStmts a b → SameStmts b a
  same_stmts-sym _ _ no_stmts = no_stmts
  same_stmts-sym _ _ (kept_stmt s s' rest rest' same later) = kept_stmt s' s rest' rest (same_stmt-sym s s' same) (same_stmts-sym rest rest' later)
  same_stmts-sym _ _ (swapped_stmts s t s' t' rest rest' same same' later) =
      swapped_stmts t' s' t s rest' rest (same_stmt-sym t t' same') (same_stmt-sym s s' same) (same_stmts-sym rest rest' later)
  same_stmts-sym _ _ (through_stmts a b c first then_) = through_stmts c b a (same_stmts-sym b c then_) (same_stmts-sym a b first)

-- ---- nothing moved

pub same_entry-refl : (e : InstEntry) → SameEntry e e
same_entry-refl (single name component args at) = same_single name component args at at
same_entry-refl (element array index args at) = same_element array index args at at

mutual
  same_stmt-refl : (s : Stmt) → SameStmt s s
  same_stmt-refl (inst e) = same_inst e e (same_entry-refl e)
  same_stmt-refl (bind b) = same_bind b b (record { left = refl; right = refl })
  same_stmt-refl (forall name low high body at) = same_forall name low high body body at at (same_stmts-refl body)
  same_stmt-refl (when test body at) = same_when test body body at at (same_stmts-refl body)

  pub same_stmts-refl : (a : Stmts) → SameStmts a a
  same_stmts-refl end = no_stmts
  same_stmts-refl (then s rest) = kept_stmt s s rest rest (same_stmt-refl s) (same_stmts-refl rest)

-- ---- entries

mutual
  entries-same_stmt : (s s' : Stmt) → SameStmt s s' → Reordered SameEntry (entries_of_stmt s) (entries_of_stmt s')
  entries-same_stmt _ _ (same_inst e e' same) = kept e e' [] [] same no_elements
  entries-same_stmt _ _ (same_bind b b' same) = no_elements
  entries-same_stmt _ _ (same_forall name low high body body' at at' same) = entries-same body body' same
  entries-same_stmt _ _ (same_when test body body' at at' same) = entries-same body body' same

  -- the same entries, in another order
  pub entries-same : (a b : Stmts) → SameStmts a b → Reordered SameEntry (entries_of a) (entries_of b)
  entries-same _ _ no_stmts = no_elements
  entries-same _ _ (kept_stmt s s' rest rest' same later) =
      reordered-append SameEntry same_entry-refl (entries_of_stmt s) (entries_of_stmt s') (entries_of rest) (entries_of rest')
      (entries-same_stmt s s' same) (entries-same rest rest' later)
  entries-same _ _ (swapped_stmts s t s' t' rest rest' same same' later) =
      swapped_likes SameEntry same_entry-refl (entries_of_stmt s) (entries_of_stmt t) (entries_of rest) (entries_of_stmt s') (entries_of_stmt t') (entries_of rest')
      (entries-same_stmt s s' same) (entries-same_stmt t t' same') (entries-same rest rest' later)
  entries-same _ _ (through_stmts a b c first then_) = through (entries_of a) (entries_of b) (entries_of c) (entries-same a b first) (entries-same b c then_)

-- ---- what is reached

-- the same is reached, at any place
pub data SameReached : Reached → Reached → Type 0 where
  same_valued : (e : Expr) (env : Env) (at at' : At) → SameReached (valued e env at) (valued e env at')
  same_turn : SameReached turn turn
  same_made : (e e' : InstEntry) (env : Env) → SameEntry e e' → SameReached (made e env) (made e' env)
  same_bound : (b b' : BindEntry) (env : Env) → SameBinding b b' → SameReached (bound b env) (bound b' env)

single_after : (name component : Name) (args : List Expr) (at at' : At) (f : InstEntry) → SameEntry (single name component args at') f → SameEntry (single name component args at) f
single_after name component args at at' _ (same_single _ _ _ _ at'') = same_single name component args at at''

element_after : (array : Name) (index : Expr) (args : Option (List Expr)) (at at' : At) (f : InstEntry) → SameEntry (element array index args at') f → SameEntry (element array index args at) f
element_after array index args at at' _ (same_element _ _ _ _ at'') = same_element array index args at at''

pub same_entry-trans : (d e f : InstEntry) → SameEntry d e → SameEntry e f → SameEntry d f
same_entry-trans _ _ f (same_single name component args at at') other = single_after name component args at at' f other
same_entry-trans _ _ f (same_element array index args at at') other = element_after array index args at at' f other

same_binding-trans : (b c d : BindEntry) → SameBinding b c → SameBinding c d → SameBinding b d
same_binding-trans b c d same other = record { left = same.left ∙ other.left; right = same.right ∙ other.right }

valued_after : (e : Expr) (env : Env) (at at' : At) (r : Reached) → SameReached (valued e env at') r → SameReached (valued e env at) r
valued_after e env at at' _ (same_valued _ _ _ at'') = same_valued e env at at''

made_after : (d e : InstEntry) (env : Env) (r : Reached) → SameEntry d e → SameReached (made e env) r → SameReached (made d env) r
made_after d e env _ same (same_made _ f _ other) = same_made d f env (same_entry-trans d e f same other)

bound_after : (b c : BindEntry) (env : Env) (r : Reached) → SameBinding b c → SameReached (bound c env) r → SameReached (bound b env) r
bound_after b c env _ same (same_bound _ d _ other) = same_bound b d env (same_binding-trans b c d same other)

pub same_reached-trans : (x y z : Reached) → SameReached x y → SameReached y z → SameReached x z
same_reached-trans _ _ z (same_valued e env at at') other = valued_after e env at at' z other
same_reached-trans _ _ z same_turn other = other
same_reached-trans _ _ z (same_made d e env same) other = made_after d e env z same other
same_reached-trans _ _ z (same_bound b c env same) other = bound_after b c env z same other

pub same_reached-refl : (r : Reached) → SameReached r r
same_reached-refl (valued e env at) = same_valued e env at at
same_reached-refl turn = same_turn
same_reached-refl (made e env) = same_made e e env (same_entry-refl e)
same_reached-refl (bound b env) = same_bound b b env (record { left = refl; right = refl })

-- the same is reached, in another order
abbrev pub ReachesSame : List Reached → List Reached → Type 0
ReachesSame rs others = Reordered SameReached rs others

held : (b : Bool) (rs others : List Reached) → ReachesSame rs others → ReachesSame (cond b rs []) (cond b others [])
held true rs others same = same
held false rs others same = no_elements

-- one turn of a `forall`
abbrev a_turn : Stmts → Env → Name → ℤ → List Reached
a_turn body env name i = turn ∷ reached_in body (with_variable env name i)

same_turns :
    (body body' : Stmts) (env : Env) (name : Name) → ((env : Env) → ReachesSame (reached_in body env) (reached_in body' env)) → (is : List ℤ)
    → ReachesSame (flat_map (a_turn body env name) is) (flat_map (a_turn body' env name) is)
same_turns body body' env name same =
    reordered-each SameReached same_reached-refl (a_turn body env name) (a_turn body' env name)
    (λ i. kept turn turn (reached_in body (with_variable env name i)) (reached_in body' (with_variable env name i)) same_turn (same (with_variable env name i)))

mutual
  -- the same statement at another place reaches the same
  reached-same_stmt : (s s' : Stmt) → SameStmt s s' → (env : Env) → ReachesSame (reached_by s env) (reached_by s' env)
  reached-same_stmt _ _ (same_inst e e' same) env = kept (made e env) (made e' env) [] [] (same_made e e' env same) no_elements
  reached-same_stmt _ _ (same_bind b b' same) env = kept (bound b env) (bound b' env) [] [] (same_bound b b' env same) no_elements
  reached-same_stmt _ _ (same_forall name low high body body' at at' same) env =
      let is = range (value low env) (value high env) in
      let all = flat_map (a_turn body env name) is in
      let all' = flat_map (a_turn body' env name) is in
      kept (valued low env at) (valued low env at') (valued high env at ∷ all) (valued high env at' ∷ all') (same_valued low env at at')
      (kept (valued high env at) (valued high env at') all all' (same_valued high env at at') (same_turns body body' env name (reached-same body body' same) is))
  reached-same_stmt _ _ (same_when test body body' at at' same) env =
      let b = holds (value test env) in
      kept (valued test env at) (valued test env at') (cond b (reached_in body env) []) (cond b (reached_in body' env) []) (same_valued test env at at')
      (held b (reached_in body env) (reached_in body' env) (reached-same body body' same env))

  pub reached-same : (a b : Stmts) → SameStmts a b → (env : Env) → ReachesSame (reached_in a env) (reached_in b env)
  reached-same _ _ no_stmts env = no_elements
  reached-same _ _ (kept_stmt s s' rest rest' same later) env =
      reordered-append SameReached same_reached-refl (reached_by s env) (reached_by s' env) (reached_in rest env) (reached_in rest' env)
      (reached-same_stmt s s' same env) (reached-same rest rest' later env)
  reached-same _ _ (swapped_stmts s t s' t' rest rest' same same' later) env =
      swapped_likes SameReached same_reached-refl (reached_by s env) (reached_by t env) (reached_in rest env) (reached_by s' env) (reached_by t' env) (reached_in rest' env)
      (reached-same_stmt s s' same env) (reached-same_stmt t t' same' env) (reached-same rest rest' later env)
  reached-same _ _ (through_stmts a b c first then_) env =
      through (reached_in a env) (reached_in b env) (reached_in c env) (reached-same a b first env) (reached-same b c then_ env)
